-- A number between two limits. Assumes nothing.
use Prim.Native.Nat.{ℕ, suc, ◌+◌, ◌≤◌}
use native.Mathlib.Omega.{arith}
use mathlib.Core.Path.{◌≡◌}
use mathlib.Core.Bool.{true}
use lib.IntN.{ℤ, pos, negsuc}
use lib.Signed.{le_z}
use Rattle.general.proofs.UpDown.{up, dn, le_z-true}
use Rattle.lut.specs.Numbers.{between}
use Rattle.general.proofs.TestLaws.{and_left, and_right}

pub between-ud : (low high z : ℤ) → between low high z ≡ true → (up low + dn z ≤ up z + dn low) × (up z + dn high ≤ up high + dn z)
unfolding between
between-ud low high z e = (le_z-true low z (and_left (le_z low z) (le_z z high) e), le_z-true z high (and_right (le_z low z) (le_z z high) e))

pub between-abs : (m n : ℕ) (z : ℤ) → between (negsuc m) (pos n) z ≡ true → (up z ≤ n) × (dn z ≤ suc m)
between-abs m n (pos k) e = (omega (arith, (between-ud (negsuc m) (pos n) (pos k) e).1), omega arith)
between-abs m n (negsuc k) e = (omega arith, omega (arith, (between-ud (negsuc m) (pos n) (negsuc k) e).0))
