-- Whole numbers by magnitude: z lies in -n..n. Bounds of this kind go through sums, products and shifts without a look at the signs, and end
-- in the range of a signed type. By cases on the signs; the rest is linear arithmetic. Assumes nothing.
--     Within                                       z lies in -n..n
--     within-le                                    a wider range
--     within-add, within-neg, within-take          sum, negation, difference
--     within-times                                 product
--     within-shr                                   shift down
--     within-between                               between two numbers that are within
--     fits-within, within-fits                     the range of a signed type, and back
--     fits-between                                 between two numbers that fit
use Prim.Native.Nat.{ℕ, zero, suc, ◌+◌, ◌*◌, ◌^◌, ◌≤◌, ◌<◌}
use native.Mathlib.Nat.{mul-le-mul, div-le_self}
use native.Mathlib.Decide.{dec_lt}
use native.Mathlib.Omega.{arith}
use lib.IntN.{ℤ, pos, negsuc, neg_ℤ, sub_ℕ, ◌+ℤ◌, ◌-ℤ◌, ◌*ℤ◌}
use lib.Signed.{shr_z, ◌≤ℤ◌}
use borrow.Author.Tests.{lt-ltb, le-ltb}
use mir.Syntax.{Width}
use mir.Val.{SFits, hbits}
use Rattle.general.proofs.UpDown.{up, dn, le-ud}

-- z lies in -n..n
pub record Within (n : ℕ) (z : ℤ) : Type 0 where
  pub up_le : up z ≤ n
  pub dn_le : dn z ≤ n

-- one of the two is 0
above : {m n : ℕ} → m ≤ n → Within n (pos m)
above h = record { up_le = h; dn_le = omega arith }

below : {m n : ℕ} → m ≤ n → Within n (neg_ℤ (pos m))
below {m = zero} h = record { up_le = omega arith; dn_le = omega arith }
below {m = suc m} h = record { up_le = omega arith; dn_le = h }

sub_within : {a b m n : ℕ} → a ≤ m → b ≤ n → Within (m + n) (sub_ℕ a b)
sub_within {a} {b} f g = elim (dec_lt a b) [
  | yes h ↦ rw (lt-ltb a b h) (record { up_le = omega arith; dn_le = omega arith })
  | no h ↦ rw (le-ltb a b (omega arith)) (record { up_le = omega arith; dn_le = omega arith })
]

pub within-le : {m n : ℕ} {z : ℤ} → m ≤ n → Within m z → Within n z
within-le h r = record { up_le = omega arith; dn_le = omega arith }

pub within-add : {m n : ℕ} {a b : ℤ} → Within m a → Within n b → Within (m + n) (a +ℤ b)
within-add {a = pos a} {b = pos b} f g = above (omega arith)
within-add {a = pos a} {b = negsuc b} f g = sub_within f.up_le g.dn_le
within-add {m} {n} {a = negsuc a} {b = pos b} f g = within-le (omega arith) (sub_within g.up_le f.dn_le)
within-add {a = negsuc a} {b = negsuc b} f g = record { up_le = omega arith; dn_le = omega arith }

pub within-neg : {n : ℕ} {b : ℤ} → Within n b → Within n (neg_ℤ b)
within-neg {b = pos zero} g = g
within-neg {b = pos (suc b)} g = record { up_le = omega arith; dn_le = g.up_le }
within-neg {b = negsuc b} g = above g.dn_le

pub within-take : {m n : ℕ} {a b : ℤ} → Within m a → Within n b → Within (m + n) (a -ℤ b)
within-take f g = within-add f (within-neg g)

pub within-times : {m n : ℕ} {a b : ℤ} → Within m a → Within n b → Within (m * n) (a *ℤ b)
within-times {a = pos a} {b = pos b} f g = above (mul-le-mul f.up_le g.up_le)
within-times {a = pos a} {b = negsuc b} f g = below (mul-le-mul f.up_le g.dn_le)
within-times {a = negsuc a} {b = pos b} f g = below (mul-le-mul f.dn_le g.up_le)
within-times {a = negsuc a} {b = negsuc b} f g = above (mul-le-mul f.dn_le g.dn_le)

pub within-shr : (m : ℕ) {n : ℕ} {z : ℤ} → Within n z → Within n (shr_z z m)
within-shr m {z = pos a} f = above (omega (arith, div-le_self a m))
within-shr m {z = negsuc a} f = record { up_le = omega arith; dn_le = omega (arith, div-le_self a m) }

pub within-between : {n : ℕ} {low high z : ℤ} → Within n low → Within n high → low ≤ℤ z → z ≤ℤ high → Within n z
within-between {z = pos a} f g k l = above (omega (arith, le-ud l))
within-between {z = negsuc a} f g k l = record { up_le = omega arith; dn_le = omega (arith, le-ud k) }

-- ---- the range of a signed type

pub fits-within : {w : Width} {z : ℤ} → SFits w z → Within (2 ^ hbits w) z
fits-within {z = pos n} f = above (omega (arith, f.sfits))
fits-within {z = negsuc n} f = record { up_le = omega arith; dn_le = f.sfits }

pub within-fits : {w : Width} {n : ℕ} {z : ℤ} → Within n z → n < 2 ^ hbits w → SFits w z
within-fits {z = pos n} f h = record { sfits = omega arith }
within-fits {z = negsuc n} f h = record { sfits = omega arith }

pub fits-between : {w : Width} {low high z : ℤ} → SFits w low → SFits w high → low ≤ℤ z → z ≤ℤ high → SFits w z
fits-between {high = pos n} {z = pos a} f g k l = record { sfits = omega (arith, g.sfits, le-ud l) }
fits-between {high = negsuc n} {z = pos a} f g k l = absurd (omega (arith, le-ud l))
fits-between {low = pos n} {z = negsuc a} f g k l = absurd (omega (arith, le-ud k))
fits-between {low = negsuc n} {z = negsuc a} f g k l = record { sfits = omega (arith, f.sfits, le-ud k) }
