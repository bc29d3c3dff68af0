-- Numbers as the code holds them: powers of two, signs, ranges, and a number of a type read back. Assumes nothing.
--     one_shl, power_le                                             a power of two, and its bound
--     nat-within, abs-within, within-abs, ud-within, fits-up        ranges
--     from16, from32, held, back16, back32, back64                  a number of a type, cast to 64 bits and read back
--     up_neg, up_pos, above-cast, up-turned                         a number's parts above and below 0
use Prim.Native.Nat.{ℕ, zero, suc, ◌+◌, ◌*◌, ◌^◌, ◌%◌, ◌≤◌, ◌<◌}
use native.Mathlib.Nat.{pow-le-pow_right, mul-one}
use native.Mathlib.Omega.{arith}
use mathlib.Core.Path.{◌≡◌, refl, ap}
use mathlib.Core.Bool.{true, false}
use lib.Dec.{T, lit<}
use lib.Pow.{shl_exact}
use lib.IntN.{ℤ, pos, negsuc, nat_abs, ◌-ℤ◌, ◌*ℤ◌}
use lib.Signed.{mag, lt_z, non_neg}
use mir.Syntax.{w16, w32, w64}
use mir.Val.{Fits, SFits, to_z, of_z}
use mir.Facts.{to_z-of_z}
use Rattle.general.proofs.UpDown.{up, dn, ud-inj, take-ud, up-times, dn-times, lt_z-true, lt_z-false}
use Rattle.general.proofs.Ranges.{Within}

-- ---- powers of two

pub one_shl : (k : ℕ) → k ≤ 31 → 1 * 2 ^ k % 4294967296 ≡ 2 ^ k
one_shl k h = omega (arith, shl_exact {a = 1} 1 k 32 (lit< tt) (omega arith))

pub power_le : (k : ℕ) → k ≤ 31 → 2 ^ k ≤ 2147483648
power_le k h = pow-le-pow_right {n = 2} (lit< tt) {i = k} {j = 31} h

-- ---- ranges

pub nat-within : {m n : ℕ} → m ≤ n → Within n (pos m)
nat-within h = record { up_le = h; dn_le = omega arith }

pub within-abs : {n : ℕ} (z : ℤ) → Within n z → nat_abs z ≤ n
within-abs (pos a) w = w.up_le
within-abs (negsuc a) w = w.dn_le

pub abs-within : {n : ℕ} (z : ℤ) → nat_abs z ≤ n → Within n z
abs-within (pos a) h = record { up_le = h; dn_le = omega arith }
abs-within (negsuc a) h = record { up_le = omega arith; dn_le = h }

-- a number between -n and n, by orders
pub ud-within : (n : ℕ) (z : ℤ) → up z ≤ n + dn z → dn z ≤ n + up z → Within n z
ud-within n (pos a) h k = record { up_le = omega arith; dn_le = omega arith }
ud-within n (negsuc a) h k = record { up_le = omega arith; dn_le = omega arith }

pub fits-up : {z : ℤ} → SFits w32 z → up z ≤ 2147483647
fits-up {z = pos n} f = omega (arith, f.sfits)
fits-up {z = negsuc n} f = omega arith

pub ud-fits : (z : ℤ) → up z ≤ 2147483647 → dn z ≤ 2147483648 → SFits w32 z
ud-fits (pos n) h k = record { sfits = omega arith }
ud-fits (negsuc n) h k = record { sfits = omega arith }

pub times-one : (z : ℤ) → z *ℤ pos 1 ≡ z
times-one z = ud-inj (z *ℤ pos 1) z (omega (arith, up-times z 1, dn-times z 1, mul-one (up z), mul-one (dn z)))

-- ---- signed numbers, read back

abbrev pub from16 : ℤ → ℤ
from16 z = to_z w64 (of_z w64 (to_z w16 (of_z w16 z)))

abbrev pub from32 : ℤ → ℤ
from32 z = to_z w64 (of_z w64 (to_z w32 (of_z w32 z)))

abbrev pub held : ℤ → ℤ
held z = to_z w64 (of_z w64 z)

pub back16 : (z : ℤ) → mag z < 32768 → to_z w16 (of_z w16 z) ≡ z
back16 z m = to_z-of_z {w = w16} (record { sfits = m })

pub back32 : (z : ℤ) → mag z < 2147483648 → to_z w32 (of_z w32 z) ≡ z
back32 z m = to_z-of_z {w = w32} (record { sfits = m })

pub back64 : (z : ℤ) → mag z < 9223372036854775808 → to_z w64 (of_z w64 z) ≡ z
back64 z m = to_z-of_z {w = w64} (record { sfits = m })

-- ---- the parts above and below 0

pub abs-ud : {n : ℕ} (z : ℤ) → nat_abs z ≤ n → (up z ≤ n) × (dn z ≤ n)
abs-ud (pos k) h = (h, omega arith)
abs-ud (negsuc k) h = (omega arith, h)

pub ud-abs : {n : ℕ} (z : ℤ) → up z ≤ n → dn z ≤ n → nat_abs z ≤ n
ud-abs (pos k) h g = h
ud-abs (negsuc k) h g = g

pub up_neg : (z : ℤ) → lt_z z (pos 0) ≡ true → 0 ≡ up z
up_neg (pos k) t = absurd (omega (arith, lt_z-true (pos k) (pos 0) t))
up_neg (negsuc k) t = refl

pub up_pos : (z : ℤ) → lt_z z (pos 0) ≡ false → nat_abs z ≡ up z
up_pos (pos k) t = refl
up_pos (negsuc k) t = absurd (omega (arith, lt_z-false (negsuc k) (pos 0) t))

pub above-cast : {z : ℤ} → SFits w32 z → lt_z z (pos 0) ≡ false → T (non_neg z) × Fits w32 (nat_abs z)
above-cast {z = pos k} f t = (tt, record { fits = omega (arith, f.sfits) })
above-cast {z = negsuc k} f t = absurd (omega (arith, lt_z-false (negsuc k) (pos 0) t))

pub up-turned : (z : ℤ) → up (pos 0 -ℤ z) ≡ dn z
up-turned (pos zero) = refl
up-turned (pos (suc k)) = ap up (ud-inj (pos 0 -ℤ pos (suc k)) (negsuc k) (omega (arith, take-ud (pos 0) (pos (suc k)))))
up-turned (negsuc k) = ap up (ud-inj (pos 0 -ℤ negsuc k) (pos (suc k)) (omega (arith, take-ud (pos 0) (negsuc k))))
