-- `mend_text::dirt_text` meets its contract: the two fields are added one after another to an empty line, in which they have room. Assumes nothing.
use native.Mathlib.Omega.{arith}
use mathlib.Core.Path.{◌∙◌}
use Rattle.mend_text.proofs.TextLaws.{dirt-is}
use Rattle.mend_text.proofs.dirt_text.Goals as goal

pub returns : goal.returns
returns c =
    let a = c.args in
    c.add.ensures
    ∙ rw (c.add_number-third.ensures, c.add-second.ensures, c.add_number-first.ensures, c.empty-empty.ensures)
    (dirt-is (record { position = a.position; old = a.old }) (omega (arith, c.ranges.position)) (omega (arith, c.ranges.old)))
