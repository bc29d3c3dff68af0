-- `elements::from_bytes` meets its contract. Assumes nothing.
use mathlib.Core.Path.{◌∙◌}
use mir.Syntax.{w16}
use mir.Facts.{to_z-of_z}
use borrow.Author.Rules.{sfits_of}
use Rattle.elements.proofs.CastLaws.{word-back}
use Rattle.elements.proofs.from_bytes.Goals as goal

pub returns : goal.returns
returns c = to_z-of_z {w = w16} (sfits_of c.from_le_bytes.type_inv) ∙ c.from_le_bytes.ensures ∙ word-back c.args.low c.args.high
