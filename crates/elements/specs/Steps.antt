-- What the passes over the elements find, one element at a time (scope paper, "Refusal numbers", 7; change request K7, 26). Assumes nothing.
use Rattle.std.specs.Prelude.{ℕ, zero, suc, Bool, true, ◌&&◌, List, get_or, ℤ, pos}
use Rattle.elements.specs.Values.{value_valid}

-- whether a precision takes each of the first n elements
unfoldable pub all_valid : ℕ → List ℤ → ℕ → Bool
all_valid p zs zero = true
all_valid p zs (suc n) = all_valid p zs n && value_valid p (get_or zs n (pos 0))

-- how many low bits the code's number of an element may have set where int8 or fp16 takes it; no number is made of an int16 element
unfoldable pub low_bits : ℕ → ℕ
low_bits zero = 8
low_bits (suc p) = 15
