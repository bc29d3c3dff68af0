-- Which numbers of 16 bits are NaN (specs/Values.antt). By cases on the sign. Assumes nothing.
--     is_nan-low       the bits without the sign are above those of infinity
--     nan-numbers     31745..32767 and -1023..-1
use Prim.Native.Nat.{ℕ, ◌-◌, ◌/◌, ◌%◌, ◌<◌}
use mathlib.Core.Path.{◌≡◌, refl, ◌∙◌}
use mathlib.Core.Bool.{Bool, true, false, not, ◌&&◌, ◌||◌}
use native.Mathlib.Decide.{dec_lt, ℕ_discrete}
use native.Mathlib.Omega.{arith}
use lib.Dec.{leb, eqb}
use lib.IntN.{ℤ, pos, negsuc}
use lib.Signed.{mag, le_z}
use borrow.Author.Tests.{le-leb, lt-leb, eq-eqb, ne_eqb}
use Rattle.elements.specs.Bytes.{byte_of, bit_pattern}
use Rattle.elements.specs.Values.{is_nan}

-- by a word
nan-word : (w : ℕ) → (eqb (w / 1024 % 32) 31 && not (eqb (w % 1024) 0)) ≡ leb 31745 (w % 32768)
nan-word w = elim (ℕ_discrete (w / 1024 % 32) 31) [
  | yes h ↦ elim (ℕ_discrete (w % 1024) 0) [
    | yes k ↦ rw (eq-eqb (w / 1024 % 32) 31 h, eq-eqb (w % 1024) 0 k, lt-leb 31745 (w % 32768) (omega (arith, h, k)))
    | no k ↦ rw (eq-eqb (w / 1024 % 32) 31 h, ne_eqb (w % 1024) 0 k, le-leb 31745 (w % 32768) (omega (arith, h, k)))
  ]
  | no h ↦ rw (ne_eqb (w / 1024 % 32) 31 h, lt-leb 31745 (w % 32768) (omega (arith, h)))
]

pub is_nan-low : (z : ℤ) → is_nan z ≡ leb 31745 (bit_pattern z % 32768)
unfolding is_nan
is_nan-low z = nan-word (bit_pattern z)

bits_pos : (n : ℕ) → n < 32768 → bit_pattern (pos n) % 32768 ≡ n
unfolding byte_of
bits_pos n m = omega arith

bits-neg : (n : ℕ) → n < 32768 → bit_pattern (negsuc n) % 32768 ≡ 32767 - n
unfolding byte_of
bits-neg n m = omega arith

pub nan-numbers : (z : ℤ) → mag z < 32768 → is_nan z ≡ (le_z (pos 31745) z || (le_z (negsuc 1022) z && le_z z (negsuc 0)))
nan-numbers (pos n) m = is_nan-low (pos n) ∙ rw (bits_pos n m) (positive (leb 31745 n))
  where
    positive : (b : Bool) → b ≡ (b || false)
    positive true = refl
    positive false = refl
nan-numbers (negsuc n) m = is_nan-low (negsuc n) ∙ rw (bits-neg n m) (elim (dec_lt n 1023) [
  | yes h ↦ rw (le-leb 31745 (32767 - n) (omega arith), le-leb n 1022 (omega arith), le-leb 0 n (omega arith))
  | no h ↦ rw (lt-leb 31745 (32767 - n) (omega arith), lt-leb n 1022 (omega arith))
])
