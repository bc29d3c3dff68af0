-- Which elements a precision takes, and the refusal of the others (scope paper, "Refusal numbers", 7; change request K7, 26). Assumes nothing.
use Rattle.std.specs.Prelude.{ℕ, zero, suc, ◌/◌, ◌%◌, ◌<◌, Bool, true, false, not, ◌&&◌, List, [], ◌∷◌, ltb, eqb, ℤ, pos, negsuc, get_or}
use Rattle.std.specs.Int.Signed.{mag, le_z}
use Rattle.refusal.specs.declared.Refusal.TheVariants.{Precision, Int8Range, Fp16Nan}
use Rattle.refusal.specs.Checks.{require, require_at, leaves, Answer, Accepted}
use Rattle.elements.specs.Bytes.{bit_pattern}

-- of fp16: the lowest ten bits are the fraction, the next five the exponent, the highest the sign; NaN has an exponent of ones and a fraction that is not 0
unfoldable pub is_nan : ℤ → Bool
is_nan z = eqb (bit_pattern z / 1024 % 32) 31 && not (eqb (bit_pattern z % 1024) 0)

-- which elements a precision takes, and under which number it refuses the others: int8 takes -128..127 (`negsuc 127` is -128), int16 every element, fp16 every
-- element that is not NaN (so does a code above 2, which is refused before); the check of the element at index i
unfoldable pub value_check : ℕ → ℕ → ℤ → Answer
value_check zero i z = require_at i Int8Range (le_z (negsuc 127) z && le_z z (pos 127))
value_check (suc zero) i z = Accepted
value_check (suc (suc p)) i z = require_at i Fp16Nan (not (is_nan z))

-- whether a precision takes an element
unfoldable pub value_valid : ℕ → ℤ → Bool
value_valid p z = leaves (value_check p 0 z) true false

-- the checks of all elements in order, the first at index i
unfoldable pub value_checks_from : ℕ → ℕ → List ℤ → List Answer
value_checks_from p i [] = []
value_checks_from p i (z ∷ zs) = value_check p i z ∷ value_checks_from p (suc i) zs

-- the checks of all elements in order: the first refusal has the least index at fault
unfoldable pub value_checks : ℕ → List ℤ → List Answer
value_checks p zs = value_checks_from p zero zs

-- 2, then 7 or 26: a precision code, and elements that it takes
unfoldable pub precision_checks : ℕ → List ℤ → List Answer
precision_checks p zs = require Precision (ltb p 3) ∷ value_checks p zs

-- every element is a 16-bit number, as it is in every slice of i16
pub record SixteenBit (zs : List ℤ) : Type 0 where
  pub each : (i : ℕ) → mag (get_or zs i (pos 0)) < 32768
