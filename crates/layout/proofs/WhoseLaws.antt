-- Whose a byte is, as the code finds it: a byte before the start, past the extent, or past the rows or columns of its surface, is no atom's; any
-- other byte of the extent is one of the atom at the division's digits. Assumes nothing.
--     owner-before .. owner-column     bytes of no atom
--     surface_of-lt                     a byte of the extent is in a surface of the cube
--     owner-atom, atom_owner-element    bytes of an atom
--     in_extent-before .. in_extent-true     the start and the extent
use Prim.Native.Nat.{ℕ, ◌+◌, ◌-◌, ◌*◌, ◌/◌, ◌%◌, ◌≤◌, ◌<◌}
use native.Mathlib.Nat.{div-lt_iff_lt-mul}
use native.Mathlib.Omega.{arith}
use mathlib.Core.Path.{◌≡◌, refl, ap}
use mathlib.Core.Bool.{Bool, true, false}
use borrow.Author.Tests.{lt-ltb, le-ltb, le-leb, lt-leb}
use Rattle.layout.specs.declared.CubeLayout.{CubeLayout}
use Rattle.layout.specs.Geometry.{size_of, surfaces, atom_position, cube_extent}
use Rattle.layout.specs.Owners.{element, outside, surface_of, row_of, column_of, byte_in_atom, in_atom, atom_owner, owner}
use Rattle.layout.specs.Whose.{in_extent}
use Rattle.layout.proofs.Valid.{Valid}
use Rattle.layout.proofs.Atoms.{AtomOf, atom-of, surface-pos}
use Rattle.layout.proofs.Extents.{atom-within, surfaces-pos}

module _ (q : CubeLayout) (ok : Valid q) (p : ℕ) where
  owner-false : in_atom q p ≡ false → owner q p ≡ outside
  unfolding owner
  owner-false e = rw e

  owner-none : (AtomOf q ok p → ⊥) → owner q p ≡ outside
  owner-none f = go (in_atom q p) refl
    where
      go : (t : Bool) → in_atom q p ≡ t → owner q p ≡ outside
      go true e = absurd (f (atom-of q ok p e))
      go false e = owner-false e

  -- an atom's byte lies between the start and the end of the extent
  atom-from : AtomOf q ok p → q.start ≤ p
  unfolding atom_position
  atom-from a = omega (arith, a.place)

  atom-below : AtomOf q ok p → p < q.start + cube_extent q
  unfolding atom_position
  atom-below a =
      omega (arith, a.place, atom-within q ok (surface_of q p) (row_of q p) (column_of q p) (byte_in_atom q p + 1) a.surface_lt a.row_below a.column_below (omega (arith, a.byte_lt)))

  pub owner-before : p < q.start → owner q p ≡ outside
  owner-before h = owner-none (λ a. omega (arith, h, atom-from a))

  pub owner-past : q.start + cube_extent q ≤ p → owner q p ≡ outside
  owner-past h = owner-none (λ a. omega (arith, h, atom-below a))

  pub owner-row : q.height ≤ row_of q p → owner q p ≡ outside
  owner-row h = owner-none (λ a. omega (arith, h, a.row_below))

  pub owner-column : q.width ≤ column_of q p → owner q p ≡ outside
  owner-column h = owner-none (λ a. omega (arith, h, a.column_below))

  pub surface_of-lt : q.start ≤ p → p < q.start + cube_extent q → surface_of q p < surfaces q
  unfolding surface_of cube_extent
  surface_of-lt from below =
      let last : surfaces q ≡ surfaces q - 1 + 1 = omega (arith, surfaces-pos q ok) in
      (div-lt_iff_lt-mul (surface-pos q ok)).1 (omega (arith, from, below, ok.surface_ge, ap (λ (x : ℕ). x * q.surface) last))

  pub owner-atom : q.start ≤ p → surface_of q p < surfaces q → row_of q p < q.height → column_of q p < q.width
      → owner q p ≡ atom_owner q (surface_of q p) (row_of q p) (column_of q p) (byte_in_atom q p)
  unfolding owner in_atom
  owner-atom from hs hh hw =
      rw (le-leb q.start p from, lt-ltb (surface_of q p) (surfaces q) hs, lt-ltb (row_of q p) q.height hh, lt-ltb (column_of q p) q.width hw)

pub atom_owner-element : (q : CubeLayout) (s h w k : ℕ) → 32 * s + k < q.channels * size_of q
    → atom_owner q s h w k ≡ element ((32 * s + k) / size_of q) h w ((32 * s + k) % size_of q)
unfolding atom_owner
atom_owner-element q s h w k e = rw (lt-ltb (32 * s + k) (q.channels * size_of q) e)

-- ---- between the start and the end of the extent
module _ (q : CubeLayout) (p : ℕ) where
  pub in_extent-before : p < q.start → in_extent q p ≡ false
  unfolding in_extent
  in_extent-before h = rw (lt-leb q.start p h)

  module _ (from : q.start ≤ p) where
    pub in_extent-past : q.start + cube_extent q ≤ p → in_extent q p ≡ false
    unfolding in_extent
    in_extent-past h = rw (le-leb q.start p from, le-ltb p (q.start + cube_extent q) h)

    pub in_extent-true : p < q.start + cube_extent q → in_extent q p ≡ true
    unfolding in_extent
    in_extent-true h = rw (le-leb q.start p from, lt-ltb p (q.start + cube_extent q) h)
