-- The claims about conversion (change request K5): it is to the nearest, halves away from zero, and a value is told as held exactly where it is not the
-- rounded number. Assumes nothing.
use Prim.Native.Nat.{ℕ, ◌+◌, ◌*◌, ◌≤◌, ◌<◌}
use mathlib.Core.Path.{◌≡◌}
use mathlib.Core.Bool.{true, false}
use lib.IntN.{ℤ, pos, nat_abs, neg_ℤ}
use Rattle.integers.proofs.SaturateLaws as saturated
use Rattle.quantize.specs.Quantize.{lowest, highest, nearest, rounded, quantized, limited}
use Rattle.quantize.proofs.NearestLaws as near

-- of magnitudes: the nearest number's multiple of m is at most half of m above z, and less than half of m below it, so no magnitude is nearer, and of two that
-- are equally near it is the one farther from zero
pub nearest-above : (z : ℤ) (m : ℕ) → 0 < m → 2 * (nat_abs (nearest z m) * m) ≤ 2 * nat_abs z + m
nearest-above z m some = near.size-le some z

pub nearest-below : (z : ℤ) (m : ℕ) → 0 < m → 2 * nat_abs z < 2 * (nat_abs (nearest z m) * m) + m
nearest-below z m some = near.lt_size some z

-- from zero on it is not below zero, and below zero it is as above: with the two bounds this leaves one number
pub nearest-natural : (n m : ℕ) → nearest (pos n) m ≡ pos (nat_abs (nearest (pos n) m))
nearest-natural = near.nearest-natural

pub nearest-turned : (z : ℤ) (m : ℕ) → 0 < m → nearest (neg_ℤ z) m ≡ neg_ℤ (nearest z m)
nearest-turned = near.nearest-turned

module _ (d offset scale : ℤ) (shift precision : ℕ) where
  -- a value that is not told as held is the rounded number, and one that is told as held is another
  pub kept_same : limited d offset scale shift precision ≡ false → quantized d offset scale shift precision ≡ rounded d offset scale shift
  unfolding limited quantized
  kept_same = saturated.within_same (lowest precision) (highest precision) (rounded d offset scale shift)

  pub held-other : limited d offset scale shift precision ≡ true → quantized d offset scale shift precision ≡ rounded d offset scale shift → ⊥
  unfolding limited quantized
  held-other = saturated.beyond-other (lowest precision) (highest precision) (rounded d offset scale shift)
