-- `mend_text::header_text` meets its contract. Assumes nothing.
use mathlib.Core.Path.{◌∙◌}
use Rattle.mend_text.proofs.TextLaws.{header_is}
use Rattle.mend_text.proofs.header_text.Goals as goal

pub returns : goal.returns
returns c = c.add.ensures ∙ rw c.empty-empty.ensures header_is
