-- `elements::from_byte` meets its contract. Assumes nothing.
use Prim.Native.Nat.{ℕ}
use native.Mathlib.Omega.{arith}
use mathlib.Core.Path.{ap, ◌∙◌}
use mir.Syntax.{w8, w16}
use mir.Facts.{to_z-of_z}
use borrow.Author.Rules.{sfits_of}
use Rattle.elements.specs.Bytes.{signed}
use Rattle.elements.proofs.CastLaws.{byte-back}
use Rattle.elements.proofs.from_byte.Goals as goal

pub returns : goal.returns
returns c = to_z-of_z {w = w16} (sfits_of c.from.type_inv) ∙ c.from.ensures ∙ to_z-of_z {w = w8} (sfits_of c.cast_signed.type_inv) ∙ c.cast_signed.ensures ∙ byte-back _ ∙ ap (λ (n : ℕ). signed 1 n) (omega arith)
