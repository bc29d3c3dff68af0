-- Integer conversion (scope paper, "Conversion", with change request K5): (d − offset)·SF, divided by 2^shift and rounded to the nearest, halves away from
-- zero, then saturated. Assumes nothing.
use Rattle.std.specs.Prelude.{ℕ, zero, suc, ◌+◌, ◌*◌, ◌/◌, ◌%◌, ◌^◌, Bool, false, cond, List, [], ◌∷◌, leb, ltb, ℤ, pos, negsuc, neg_ℤ, ◌-ℤ◌, ◌*ℤ◌, Result, Ok, Err}
use Rattle.refusal.specs.declared.Refusal.TheVariants.{Precision, Shift}
use Rattle.refusal.specs.declared.Fault.{Fault}
use Rattle.refusal.specs.Checks.{require, in_order, given, Answer}
use Rattle.integers.specs.Saturate.{saturate, beyond}
use Rattle.quantize.specs.declared.Converted.{Converted}

-- the limits of a precision: -128..127 for int8, -32768..32767 for int16
unfoldable pub lowest : ℕ → ℤ
lowest zero = negsuc 127
lowest (suc p) = negsuc 32767

unfoldable pub highest : ℕ → ℤ
highest zero = pos 127
highest (suc p) = pos 32767

-- 2, 16: precision 0 or 1, shift 0 to 31
unfoldable pub quantize_checks : ℕ → ℕ → List Answer
quantize_checks precision shift = require Precision (ltb precision 2) ∷ require Shift (leb shift 31) ∷ []

-- a magnitude over m, to the nearest: the quotient, one more where twice the remainder is at least m
unfoldable pub nearest_of : ℕ → ℕ → ℕ
nearest_of n m = n / m + cond (leb m (2 * (n % m))) 1 0

-- a whole number over m, to the nearest, halves away from zero: that of its magnitude, the sign put back (`negsuc n` is −(n + 1))
unfoldable pub nearest : ℤ → ℕ → ℤ
nearest (pos n) m = pos (nearest_of n m)
nearest (negsuc n) m = neg_ℤ (pos (nearest_of (suc n) m))

-- the number before it is held to a range
unfoldable pub rounded : ℤ → ℤ → ℤ → ℕ → ℤ
rounded d offset scale shift = nearest ((d -ℤ offset) *ℤ scale) (2 ^ shift)

-- the value
unfoldable pub quantized : ℤ → ℤ → ℤ → ℕ → ℕ → ℤ
quantized d offset scale shift precision = saturate (lowest precision) (highest precision) (rounded d offset scale shift)

-- it was held: the rounded number lies beyond a limit
unfoldable pub limited : ℤ → ℤ → ℤ → ℕ → ℕ → Bool
limited d offset scale shift precision = beyond (lowest precision) (highest precision) (rounded d offset scale shift)

-- a number converted: its value, and whether it was held
abbrev pub conversion : ℤ → ℤ → ℤ → ℕ → ℕ → Converted
conversion d offset scale shift precision = record { value = quantized d offset scale shift precision; held = limited d offset scale shift precision }

-- the converted number where the call is accepted, else its refusal
unfoldable pub quantize_answer : ℤ → ℤ → ℤ → ℕ → ℕ → Result Converted Fault
quantize_answer d offset scale shift precision = given (in_order (quantize_checks precision shift)) (conversion d offset scale shift precision)

-- a conversion's value, 0 where there is none
abbrev pub quantized_value : Result Converted Fault → ℤ
quantized_value (Ok c) = c.value
quantized_value (Err fault) = pos 0

-- whether it was held; false where there is none
abbrev pub quantized_held : Result Converted Fault → Bool
quantized_held (Ok c) = c.held
quantized_held (Err fault) = false
