-- Rounding to the nearest as the code does it: half of m is added and the shift rounds down; below zero one less than the other half. Both ways by the same
-- two bounds of the nearest number. Assumes nothing.
--     nearest-le, lt-nearest           t * m ≤ n + m / 2 < (t + 1) * m, of a magnitude n and its nearest t
--     shifted-above, shifted-below     the sum shifted down, from zero on and below it
--     natural-fits, sum_fits           what is added, and the sum, within 64 bits
--     shifted_sum                      the sum as the code has it, shifted down
--     nearest-size, size-le, lt_size   its magnitude, and the bounds
--     nearest-natural, nearest-turned  the nearest number from zero on, and that of -z
use Prim.Native.Nat.{ℕ, zero, suc, ◌+◌, ◌-◌, ◌*◌, ◌/◌, ◌%◌, ◌^◌, ◌≤◌, ◌<◌}
use native.Mathlib.Nat.{add-mul, one-mul, zero-mul, div-add-mod', mod-lt, lt_of_mul-lt-mul_right}
use native.Mathlib.Decide.{dec_lt}
use native.Mathlib.Omega.{arith}
use mathlib.Core.Path.{◌≡◌, refl, sym, ap}
use mathlib.Core.Bool.{true, false}
use lib.Dec.{lit<}
use lib.IntN.{ℤ, pos, negsuc, nat_abs, neg_ℤ, neg_ℤ-neg_ℤ, ◌+ℤ◌}
use lib.Signed.{lt_z, shr_z}
use borrow.Author.Tests.{lt-leb, le-leb}
use mir.Syntax.{w64}
use mir.Val.{SFits}
use mir.Facts.{to_z-of_z}
use Rattle.general.proofs.UpDown.{add-ud, neg-up, neg-dn, lt_z-true, lt_z-false}
use Rattle.general.proofs.FloorLaws.{shr_is}
use Rattle.general.proofs.Ranges.{Within, within-add, within-shr, within-fits}
use Rattle.general.proofs.NumberLaws.{nat-within, abs-within, held}
use Rattle.quantize.specs.Quantize.{nearest_of, nearest}

module _ {m : ℕ} (hm : 0 < m) where
  nearest-le : (n : ℕ) → nearest_of n m * m ≤ n + m / 2
  unfolding nearest_of
  nearest-le n = elim (dec_lt (2 * (n % m)) m) [
    | yes k ↦ rw (lt-leb m (2 * (n % m)) k) (omega (arith, div-add-mod' n m, add-mul (n / m) 0 m, zero-mul m))
    | no k ↦ rw (le-leb m (2 * (n % m)) (omega arith)) (omega (arith, div-add-mod' n m, add-mul (n / m) 1 m, one-mul m))
  ]

  lt-nearest : (n : ℕ) → n + m / 2 < nearest_of n m * m + m
  unfolding nearest_of
  lt-nearest n = elim (dec_lt (2 * (n % m)) m) [
    | yes k ↦ rw (lt-leb m (2 * (n % m)) k) (omega (arith, div-add-mod' n m, mod-lt n hm, add-mul (n / m) 0 m, zero-mul m))
    | no k ↦ rw (le-leb m (2 * (n % m)) (omega arith)) (omega (arith, div-add-mod' n m, mod-lt n hm, add-mul (n / m) 1 m, one-mul m))
  ]

  up-from-zero : (n : ℕ) → shr_z (pos (n + m / 2)) m ≡ nearest (pos n) m
  unfolding nearest
  up-from-zero n = shr_is hm (pos (n + m / 2)) (pos (nearest_of n m)) (omega (arith, nearest-le n, zero-mul m)) (omega (arith, lt-nearest n, zero-mul m))

  down-from-zero : (n : ℕ) → shr_z (negsuc n +ℤ pos (m - m / 2 - 1)) m ≡ nearest (negsuc n) m
  unfolding nearest
  down-from-zero n =
      let t = nearest_of (suc n) m in
      let sum = add-ud (negsuc n) (pos (m - m / 2 - 1)) in
      let none = ap (λ (k : ℕ). k * m) (neg-up (pos t)) in
      let all = ap (λ (k : ℕ). k * m) (neg-dn (pos t)) in
      shr_is hm (negsuc n +ℤ pos (m - m / 2 - 1)) (neg_ℤ (pos t))
      (omega (arith, sum, none, all, zero-mul m, lt-nearest (suc n)))
      (omega (arith, sum, none, all, zero-mul m, nearest-le (suc n)))

  pub shifted-above : (z : ℤ) → lt_z z (pos 0) ≡ false → shr_z (z +ℤ pos (m / 2)) m ≡ nearest z m
  shifted-above (pos n) e = up-from-zero n
  shifted-above (negsuc n) e = absurd (omega (arith, lt_z-false (negsuc n) (pos 0) e))

  pub shifted-below : (z : ℤ) → lt_z z (pos 0) ≡ true → shr_z (z +ℤ pos (m - m / 2 - 1)) m ≡ nearest z m
  shifted-below (pos n) e = absurd (omega (arith, lt_z-true (pos n) (pos 0) e))
  shifted-below (negsuc n) e = down-from-zero n

-- ---- the sum within 64 bits

sum-within : (z : ℤ) {n : ℕ} → nat_abs z ≤ 2 ^ 47 → n ≤ 2147483648 → Within (2 ^ 47 + 2147483648) (z +ℤ pos n)
sum-within z f g = within-add (abs-within z f) (nat-within g)

pub natural-fits : {n : ℕ} → n ≤ 2147483648 → SFits w64 (pos n)
natural-fits g = within-fits (nat-within g) (lit< tt)

pub sum_fits : (z : ℤ) {n : ℕ} → nat_abs z ≤ 2 ^ 47 → n ≤ 2147483648 → SFits w64 (z +ℤ pos n)
sum_fits z f g = within-fits (sum-within z f g) (lit< tt)

-- as the code has it: each number is read back
pub shifted_sum : (z : ℤ) {n : ℕ} → nat_abs z ≤ 2 ^ 47 → n ≤ 2147483648 → (m : ℕ) → held (shr_z (held (held z +ℤ held (pos n))) m) ≡ shr_z (z +ℤ pos n) m
shifted_sum z f g m =
    rw (to_z-of_z {w = w64} (within-fits (abs-within z f) (lit< tt)), to_z-of_z (natural-fits g), to_z-of_z (sum_fits z f g)) (to_z-of_z {w = w64} (within-fits (within-shr m (sum-within z f g)) (lit< tt)))

-- ---- the sign

abs_neg : (n : ℕ) → nat_abs (neg_ℤ (pos n)) ≡ n
abs_neg zero = refl
abs_neg (suc n) = refl

pub nearest-natural : (n m : ℕ) → nearest (pos n) m ≡ pos (nat_abs (nearest (pos n) m))
unfolding nearest
nearest-natural n m = refl

nearest-size : (z : ℤ) (m : ℕ) → nat_abs (nearest z m) ≡ nearest_of (nat_abs z) m
unfolding nearest
nearest-size (pos n) m = refl
nearest-size (negsuc n) m = abs_neg (nearest_of (suc n) m)

module _ {m : ℕ} (hm : 0 < m) (z : ℤ) where
  pub size-le : 2 * (nat_abs (nearest z m) * m) ≤ 2 * nat_abs z + m
  size-le = omega (arith, ap (λ (k : ℕ). k * m) (nearest-size z m), nearest-le hm (nat_abs z))

  pub lt_size : 2 * nat_abs z < 2 * (nat_abs (nearest z m) * m) + m
  lt_size = omega (arith, ap (λ (k : ℕ). k * m) (nearest-size z m), lt-nearest hm (nat_abs z))

-- 0 over m is 0
nearest_zero : (m : ℕ) → 0 < m → nearest_of 0 m ≡ 0
nearest_zero m hm = omega (arith, lt_of_mul-lt-mul_right m {m = nearest_of 0 m} {n = 1} (omega (arith, nearest-le hm 0, one-mul m)))

pub nearest-turned : (z : ℤ) (m : ℕ) → 0 < m → nearest (neg_ℤ z) m ≡ neg_ℤ (nearest z m)
unfolding nearest
nearest-turned (pos zero) m hm = rw (nearest_zero m hm)
nearest-turned (pos (suc n)) m hm = refl
nearest-turned (negsuc n) m hm = sym (neg_ℤ-neg_ℤ (pos (nearest_of (suc n) m)))
