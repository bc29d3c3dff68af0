-- A natural below 2 * h, less h, is from -h to h - 1; such a number, plus h, is a natural below 2 * h. Assumes nothing.
use Prim.Native.Nat.{ℕ, suc, ◌+◌, ◌*◌, ◌-◌, ◌<◌}
use mathlib.Core.Path.{◌≡◌, refl, ap}
use native.Mathlib.Decide.{dec_lt}
use native.Mathlib.Omega.{arith}
use lib.IntN.{ℤ, pos, negsuc, sub_ℕ, ◌+ℤ◌}
use lib.Signed.{mag}
use borrow.Author.Tests.{lt-ltb, le-ltb}

pub subℕ-mag-lt : (n h : ℕ) → n < 2 * h → mag (sub_ℕ n h) < h
subℕ-mag-lt n h l = elim (dec_lt n h) [ yes k ↦ rw (lt-ltb n h k) (omega arith) | no k ↦ rw (le-ltb n h (omega arith)) (omega arith) ]

-- z plus h
abbrev pub raised : ℕ → ℤ → ℕ
raised h (pos n) = n + h
raised h (negsuc n) = h - suc n

pub raised_is : (h : ℕ) (z : ℤ) → mag z < h → z +ℤ pos h ≡ pos (raised h z)
raised_is h (pos n) l = refl
raised_is h (negsuc n) l = rw (le-ltb h (suc n) (omega arith)) (ap pos (omega arith))

pub raised_lt : (h : ℕ) (z : ℤ) → mag z < h → raised h z < 2 * h
raised_lt h (pos n) l = omega arith
raised_lt h (negsuc n) l = omega arith
