-- `lines_calls::same` meets its contract: `==` compares the texts byte by byte. Assumes nothing.
use mathlib.Core.Path.{◌∙◌}
use Rattle.lines.proofs.TextLaws.{same_text-is}
use Rattle.lines_calls.proofs.same.Goals as goal

pub returns : goal.returns
returns c = c.eq.ensures ∙ same_text-is c.args.text.now c.args.word.now
