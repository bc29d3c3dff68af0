-- The elements of an atom and their bytes, by the precision. Assumes nothing.
--     atom_elements-int8, atom_elements-other     32, or 16
--     atom_elements-bytes                        their bytes fill it
--     atom_elements-pos, atom_elements-le         1 to 32
--     atom_elements-room                         each has its place in the atom
use Prim.Native.Nat.{ℕ, zero, suc, ◌+◌, ◌*◌, ◌/◌, ◌≤◌, ◌<◌}
use native.Mathlib.Nat.{mul-le-mul_left, div-le_self, le-div_iff_mul-le}
use native.Mathlib.Omega.{arith}
use mathlib.Core.Path.{◌≡◌, refl, ap}
use Rattle.elements.specs.Bytes.{element_bytes}
use Rattle.elements.proofs.ByteLaws.{element_bytes-int8, element_bytes-other, element_bytes-pos, element_bytes-le}
use Rattle.walk.specs.Walks.{atom_elements}

pub atom_elements-int8 : (p : ℕ) → p ≡ 0 → atom_elements p ≡ 32
unfolding atom_elements
atom_elements-int8 p e = ap (λ (n : ℕ). 32 / n) (element_bytes-int8 p e)

pub atom_elements-other : (p : ℕ) → (p ≡ 0 → ⊥) → atom_elements p ≡ 16
unfolding atom_elements
atom_elements-other p f = ap (λ (n : ℕ). 32 / n) (element_bytes-other p f)

pub atom_elements-bytes : (p : ℕ) → atom_elements p * element_bytes p ≡ 32
unfolding atom_elements element_bytes
atom_elements-bytes zero = refl
atom_elements-bytes (suc p) = refl

pub atom_elements-pos : (p : ℕ) → 0 < atom_elements p
unfolding atom_elements
atom_elements-pos p = (le-div_iff_mul-le (element_bytes-pos p)).1 (omega (arith, element_bytes-le p))

pub atom_elements-le : (p : ℕ) → atom_elements p ≤ 32
unfolding atom_elements
atom_elements-le p = div-le_self 32 (element_bytes p)

pub atom_elements-room : (p j : ℕ) → j < atom_elements p → element_bytes p * j + element_bytes p ≤ 32
atom_elements-room p j h = omega (arith, atom_elements-bytes p, mul-le-mul_left {m = suc j} {n = atom_elements p} (element_bytes p) h)
