-- A component as the code reads it from its bytes, test after test. Assumes nothing.
--     component-one, component-two         one byte, and two
--     value-ten .. value-plain             the number that two bytes are, by the format
--     level-is                             a component of one byte, looked up
--     value-back                           a converted number stored
use Prim.Native.Nat.{ℕ, ◌+◌, ◌*◌, ◌%◌, ◌<◌}
use native.Mathlib.Omega.{arith}
use mathlib.Core.Path.{◌≡◌, refl, sym, ap, ◌∙◌}
use mathlib.Core.List.{List}
use lib.ListN.{get_or}
use lib.IntN.{ℤ, pos}
use borrow.Author.Tests.{ne_eqb}
use mir.Syntax.{w16}
use mir.Val.{to_z, of_z}
use Rattle.general.proofs.NumberLaws.{back16}
use Rattle.elements.specs.Bytes.{word_at, signed}
use Rattle.elements.proofs.WordLaws.{word_at-one, word_at-two}
use Rattle.pixels.specs.Formats.{format_table, format_in, format_of}
use Rattle.quantize.specs.declared.Converted.{Converted}
use Rattle.quantize.specs.Quantize.{conversion}
use Rattle.parlour.specs.declared.Conversion.{Conversion}
use Rattle.parlour.specs.Components.{component_bytes, component_value, component_at, converted}
use Rattle.parlour.proofs.ElementLaws.{converted-mag}
use Rattle.parlour_calls.specs.Steps.{Levels, unheld}

module _ (code n : ℕ) where
  pub value-ten : code ≡ 1 → component_value code n ≡ pos (n % 1024)
  unfolding component_value
  value-ten e = rw e

  pub value-twelve : code ≡ 2 → component_value code n ≡ pos (n % 4096)
  unfolding component_value
  value-twelve e = rw e

  pub value-signed : code ≡ 4 → component_value code n ≡ signed 2 n
  unfolding component_value
  value-signed e = rw e

  pub value-plain : (code ≡ 1 → ⊥) → (code ≡ 2 → ⊥) → (code ≡ 4 → ⊥) → component_value code n ≡ pos n
  unfolding component_value
  value-plain f g h = rw (ne_eqb code 1 f, ne_eqb code 2 g, ne_eqb code 4 h)

-- T_R10, T_R12 and T_R16_I have two bytes
two_bytes : (component_bytes 1 ≡ 2) × (component_bytes 2 ≡ 2) × (component_bytes 4 ≡ 2)
unfolding component_bytes format_of format_in format_table
two_bytes = (refl, refl, refl)

module _ (code : ℕ) (pixels : List ℕ) (p : ℕ) where
  not-one : (other : ℕ) → component_bytes other ≡ 2 → component_bytes code ≡ 1 → code ≡ other → ⊥
  not-one other two one e = omega (arith, one, two, ap component_bytes e)

  pub component-one : component_bytes code ≡ 1 → component_at code pixels p ≡ pos (get_or pixels p 0)
  unfolding component_at
  component-one one =
      ap (λ (e : ℕ). component_value code (word_at e pixels p)) one
      ∙ ap (component_value code) (word_at-one pixels p)
      ∙ value-plain code (get_or pixels p 0) (not-one 1 two_bytes.0 one) (not-one 2 two_bytes.1 one) (not-one 4 two_bytes.2 one)

  pub component-two : component_bytes code ≡ 2 → component_at code pixels p ≡ component_value code (get_or pixels p 0 + 256 * get_or pixels (p + 1) 0)
  unfolding component_at
  component-two two = ap (λ (e : ℕ). component_value code (word_at e pixels p)) two ∙ ap (component_value code) (word_at-two pixels p)

-- a component of one byte, looked up
pub level-is : (code : ℕ) (k : Conversion) (precision : ℕ) (levels : List Converted) (pixels : List ℕ) (p : ℕ) → Levels k precision levels → component_bytes code ≡ 1 → get_or pixels p 0 < 256
    → get_or levels (get_or pixels p 0) unheld ≡ conversion (component_at code pixels p) k.offset k.scale k.shift precision
level-is code k precision levels pixels p told one small =
    told.1 (get_or pixels p 0) small ∙ ap (λ (d : ℤ). conversion d k.offset k.scale k.shift precision) (sym (component-one code pixels p one))

-- what is stored of a converted number is read back
pub value-back : {c : Converted} (k : Conversion) (p : ℕ) (d : ℤ) → c ≡ conversion d k.offset k.scale k.shift p → to_z w16 (of_z w16 c.value) ≡ converted k p d
value-back k p d e = ap (λ (x : Converted). to_z w16 (of_z w16 x.value)) e ∙ back16 (converted k p d) (converted-mag k d p)
