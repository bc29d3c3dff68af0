-- `mend_text::number_text` meets its contract: the digits and a newline are added to an empty line. Assumes nothing.
use native.Mathlib.Omega.{arith}
use mathlib.Core.Path.{◌∙◌}
use Rattle.mend_text.proofs.TextLaws.{number_is}
use Rattle.mend_text.proofs.number_text.Goals as goal

pub returns : goal.returns
returns c =
    c.add.ensures ∙ rw (c.add_number-first.ensures, c.empty-empty.ensures) (number_is c.args.n (omega (arith, c.ranges.n)))
