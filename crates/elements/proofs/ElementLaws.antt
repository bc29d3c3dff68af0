-- Laws of the check of one element (specs/Values.antt). By cases on the precision. Assumes nothing.
--     value_valid-int8, value_valid-int16, value_valid-fp16     what each precision takes
--     value_refusal, value_check-is              the check of one element as a test and its refusal
--     value_check-refused, value_check-int8, value_check-other  the answer for an element that is not taken
--     value_valid-fits, fits-value_valid         an element that is valid is a number of the precision's bytes, and back but for fp16
--     zero-valid                               every precision takes 0
use Prim.Native.Nat.{ℕ, zero, suc, ◌/◌, ◌^◌, ◌<◌}
use mathlib.Core.Path.{◌≡◌, refl, sym, ap, ◌∙◌}
use mathlib.Core.Bool.{Bool, true, false, not, ◌&&◌}
use native.Mathlib.Omega.{arith}
use lib.IntN.{ℤ, pos, negsuc}
use lib.Signed.{mag, le_z}
use borrow.Author.Tests.{leb-true, le-leb}
use Rattle.general.proofs.TestLaws.{and_left, and_both}
use Rattle.refusal.specs.declared.Refusal.{Refusal}
use Rattle.refusal.specs.declared.Refusal.TheVariants.{Int8Range, Fp16Nan}
use Rattle.refusal.specs.Checks.{require_at, leaves, Refused}
use Rattle.refusal.proofs.CheckLaws.{require_at-true, require_at-false}
use Rattle.elements.specs.Bytes.{element_bytes, byte_of}
use Rattle.elements.specs.Values.{is_nan, value_check, value_valid}

-- a check is passed just where its test holds
passes : (i : ℕ) (r : Refusal) (b : Bool) → leaves (require_at i r b) true false ≡ b
unfolding require_at leaves
passes i r true = refl
passes i r false = refl

pub value_valid-int8 : (z : ℤ) → value_valid 0 z ≡ le_z (negsuc 127) z && le_z z (pos 127)
unfolding value_valid value_check
value_valid-int8 z = passes 0 _ _

pub value_valid-int16 : (z : ℤ) → value_valid 1 z ≡ true
unfolding value_valid value_check leaves
value_valid-int16 z = refl

pub value_valid-fp16 : (p : ℕ) (z : ℤ) → value_valid (suc (suc p)) z ≡ not (is_nan z)
unfolding value_valid value_check
value_valid-fp16 p z = passes 0 _ _

-- the refusal of an element that a precision does not take
abbrev pub value_refusal : ℕ → Refusal
value_refusal zero = Int8Range
value_refusal (suc p) = Fp16Nan

pub value_check-is : (p i : ℕ) (z : ℤ) → value_check p i z ≡ require_at i (value_refusal p) (value_valid p z)
unfolding value_check
value_check-is zero i z = ap (λ (b : Bool). require_at i (value_refusal 0) b) (sym (value_valid-int8 z))
value_check-is (suc zero) i z = sym (require_at-true i (value_refusal 1) (value_valid-int16 z))
value_check-is (suc (suc p)) i z = ap (λ (b : Bool). require_at i (value_refusal 2) b) (sym (value_valid-fp16 p z))

module _ (p i : ℕ) (z : ℤ) (e : value_valid p z ≡ false) where
  pub value_check-refused : value_check p i z ≡ Refused (value_refusal p) i
  value_check-refused = value_check-is p i z ∙ require_at-false i (value_refusal p) e

  pub value_check-int8 : p ≡ 0 → value_check p i z ≡ Refused Int8Range i
  value_check-int8 k = value_check-refused ∙ ap (λ (n : ℕ). Refused (value_refusal n) i) k

  pub value_check-other : (p ≡ 0 → ⊥) → value_check p i z ≡ Refused Fp16Nan i
  value_check-other f = value_check-refused ∙ ap (λ (r : Refusal). Refused r i) (other p f)
    where
      other : (n : ℕ) → (n ≡ 0 → ⊥) → value_refusal n ≡ Fp16Nan
      other zero g = absurd (g refl)
      other (suc n) g = refl

valid-mag : (z : ℤ) → le_z (negsuc 127) z && le_z z (pos 127) ≡ true → mag z < 128
valid-mag (pos n) e = omega (arith, leb-true n 127 e)
valid-mag (negsuc n) e = omega (arith, leb-true n 127 (and_left _ _ e))

pub value_valid-fits : (p : ℕ) (z : ℤ) → value_valid p z ≡ true → mag z < 32768 → mag z < 256 ^ element_bytes p / 2
unfolding element_bytes
value_valid-fits zero z e m = valid-mag z (sym (value_valid-int8 z) ∙ e)
value_valid-fits (suc p) z e m = m

mag-valid : (z : ℤ) → mag z < 128 → le_z (negsuc 127) z && le_z z (pos 127) ≡ true
mag-valid (pos n) h = le-leb n 127 (omega arith)
mag-valid (negsuc n) h = and_both (le-leb n 127 (omega arith)) refl

pub fits-value_valid : (p : ℕ) (z : ℤ) → p < 2 → mag z < 256 ^ element_bytes p / 2 → value_valid p z ≡ true
unfolding element_bytes
fits-value_valid zero z k h = value_valid-int8 z ∙ mag-valid z h
fits-value_valid (suc zero) z k h = value_valid-int16 z
fits-value_valid (suc (suc p)) z k h = absurd (omega arith)

-- every precision takes 0
pub zero-valid : (p : ℕ) → value_valid p (pos 0) ≡ true
unfolding is_nan byte_of
zero-valid zero = value_valid-int8 (pos 0)
zero-valid (suc zero) = value_valid-int16 (pos 0)
zero-valid (suc (suc p)) = value_valid-fp16 p (pos 0)
