-- Laws of the shift down, which divides and rounds down, also below zero: s = `shr_z z m` is the whole number with s * m ≤ z < (s + 1) * m.
-- In the terms of UpDown.antt, for every m above 0. Assumes nothing.
--     shr-times-le, lt-shr-times     s * m ≤ z, and z < (s + 1) * m
--     le-shr, shr_le                 from q * m ≤ z: q ≤ s; from z < (q + 1) * m: s ≤ q
--     shr_is                         from both: s is q
use Prim.Native.Nat.{ℕ, suc, ◌+◌, ◌*◌, ◌/◌, ◌≤◌, ◌<◌}
use native.Mathlib.Nat.{suc-mul, zero-mul, add-mul, div-mul-le_self, lt-div-mul-add, lt_of_mul-lt-mul_right}
use native.Mathlib.Omega.{arith}
use mathlib.Core.Path.{◌≡◌}
use lib.IntN.{ℤ, pos, negsuc}
use lib.Signed.{shr_z}
use Rattle.general.proofs.UpDown.{up, dn, ud-inj}

module _ {m : ℕ} (hm : 0 < m) where
  pub shr-times-le : (z : ℤ) → up (shr_z z m) * m + dn z ≤ up z + dn (shr_z z m) * m
  shr-times-le (pos a) = omega (arith, div-mul-le_self a m, zero-mul m)
  shr-times-le (negsuc a) = omega (arith, lt-div-mul-add {a = a} {b = m} hm, zero-mul m, suc-mul (a / m) m)

  pub lt-shr-times : (z : ℤ) → up z + dn (shr_z z m) * m < up (shr_z z m) * m + m + dn z
  lt-shr-times (pos a) = omega (arith, lt-div-mul-add {a = a} {b = m} hm, zero-mul m)
  lt-shr-times (negsuc a) = omega (arith, div-mul-le_self a m, zero-mul m, suc-mul (a / m) m)

  -- an order of multiples of m, one of them a step higher
  step : (a b c d : ℕ) → a * m + b * m < c * m + d * m + m → a + b ≤ c + d
  step a b c d h = omega (arith, lt_of_mul-lt-mul_right m {m = a + b} {n = suc (c + d)} (omega (arith, add-mul a b m, suc-mul (c + d) m, add-mul c d m)))

  pub le-shr : (z q : ℤ) → up q * m + dn z ≤ up z + dn q * m → up q + dn (shr_z z m) ≤ up (shr_z z m) + dn q
  le-shr z q h = step (up q) (dn (shr_z z m)) (up (shr_z z m)) (dn q) (omega (arith, lt-shr-times z))

  pub shr_le : (z q : ℤ) → up z + dn q * m < up q * m + m + dn z → up (shr_z z m) + dn q ≤ up q + dn (shr_z z m)
  shr_le z q h = step (up (shr_z z m)) (dn q) (up q) (dn (shr_z z m)) (omega (arith, shr-times-le z))

  pub shr_is : (z q : ℤ) → up q * m + dn z ≤ up z + dn q * m → up z + dn q * m < up q * m + m + dn z → shr_z z m ≡ q
  shr_is z q h k = ud-inj (shr_z z m) q (omega (arith, le-shr z q h, shr_le z q k))
