-- The atom of a byte, found by division, is the one at which the paper's formula puts it, and only such bytes lie in atoms. A place in the
-- cube is a number of three digits, surface, row and the rest, to the bases of the strides. Assumes nothing.
--     line-pos, surface-pos                              a valid layout's strides
--     atom-surface, atom-row, atom-column, atom-byte     the division's digits at the paper's formula
--     atom-owner        the owner at the paper's formula
--     atom-of           a byte in an atom is the formula's, at the division's digits
use Prim.Native.Nat.{ℕ, ◌+◌, ◌-◌, ◌*◌, ◌%◌, ◌≤◌, ◌<◌}
use native.Mathlib.Nat.{mul-le-mul_right, mod-lt, div-add-mod'}
use native.Mathlib.Omega.{arith}
use mathlib.Core.Path.{◌≡◌}
use mathlib.Core.Bool.{true}
use mathlib.Core.List.{[], ◌∷◌}
use lib.Arith.{digits_div, digits_mod}
use lib.Dec.{leb, ltb}
use borrow.Author.Tests.{lt-ltb, le-leb, ltb-true, leb-true}
use Rattle.general.proofs.TestLaws.{and_both, and-all}
use Rattle.layout.specs.declared.CubeLayout.{CubeLayout}
use Rattle.layout.specs.Geometry.{surfaces, atom_position}
use Rattle.layout.specs.Owners.{surface_of, row_of, column_of, byte_in_atom, in_atom, atom_owner, owner}
use Rattle.layout.proofs.Valid.{Valid}

module _ (q : CubeLayout) (ok : Valid q) where
  pub line-pos : 0 < q.line
  line-pos = omega (arith, ok.line_ge, ok.width_pos)

  pub surface-pos : 0 < q.surface
  surface-pos = omega (arith, ok.surface_ge, ok.width_pos)

  -- the digits below the surface stay below its stride, those below the row below the line's
  pub column_lt : (w k : ℕ) → w < q.width → k < 32 → w * 32 + k < q.line
  column_lt w k hw hk = omega (arith, ok.line_ge)

  pub row_lt : (h w k : ℕ) → h < q.height → w < q.width → k < 32 → h * q.line + (w * 32 + k) < q.surface
  row_lt h w k hh hw hk = omega (arith, ok.surface_ge, mul-le-mul_right {m = h} {n = q.height - 1} q.line (omega arith))

  module _ (s h w k : ℕ) (hs : s < surfaces q) (hh : h < q.height) (hw : w < q.width) (hk : k < 32) where
    offset : atom_position q s h w k - q.start ≡ s * q.surface + (h * q.line + (w * 32 + k))
    unfolding atom_position
    offset = omega arith

    in-surface : (atom_position q s h w k - q.start) % q.surface ≡ h * q.line + (w * 32 + k)
    in-surface = rw offset (digits_mod s (row_lt h w k hh hw hk))

    in-line : (atom_position q s h w k - q.start) % q.surface % q.line ≡ w * 32 + k
    in-line = rw in-surface (digits_mod h (column_lt w k hw hk))

    pub atom-surface : surface_of q (atom_position q s h w k) ≡ s
    unfolding surface_of
    atom-surface = rw offset (digits_div s (row_lt h w k hh hw hk))

    pub atom-row : row_of q (atom_position q s h w k) ≡ h
    unfolding row_of
    atom-row = rw in-surface (digits_div h (column_lt w k hw hk))

    pub atom-column : column_of q (atom_position q s h w k) ≡ w
    unfolding column_of
    atom-column = rw in-line (digits_div w hk)

    pub atom-byte : byte_in_atom q (atom_position q s h w k) ≡ k
    unfolding byte_in_atom
    atom-byte = rw in-line (digits_mod w hk)

    from_start : leb q.start (atom_position q s h w k) ≡ true
    unfolding atom_position
    from_start = le-leb q.start (atom_position q s h w k) (omega arith)

    pub atom-inside : in_atom q (atom_position q s h w k) ≡ true
    unfolding in_atom
    atom-inside =
        rw (atom-surface, atom-row, atom-column)
        (and_both (and_both (and_both from_start (lt-ltb s (surfaces q) hs)) (lt-ltb h q.height hh)) (lt-ltb w q.width hw))

    pub atom-owner : owner q (atom_position q s h w k) ≡ atom_owner q s h w k
    unfolding owner
    atom-owner = rw (atom-inside, atom-surface, atom-row, atom-column, atom-byte)

  -- a byte in an atom: the digits are in range, and the formula gives the byte back
  pub record AtomOf (p : ℕ) : Type 0 where
    pub surface_lt : surface_of q p < surfaces q
    pub row_below : row_of q p < q.height
    pub column_below : column_of q p < q.width
    pub byte_lt : byte_in_atom q p < 32
    pub place : p ≡ atom_position q (surface_of q p) (row_of q p) (column_of q p) (byte_in_atom q p)

  pub atom-of : (p : ℕ) → in_atom q p ≡ true → AtomOf p
  unfolding in_atom surface_of row_of column_of byte_in_atom atom_position
  atom-of p e =
      let n = p - q.start in
      let held = and-all (leb q.start p) (ltb (surface_of q p) (surfaces q) ∷ ltb (row_of q p) q.height ∷ ltb (column_of q p) q.width ∷ []) e in
      let from : q.start ≤ p = leb-true q.start p held.0 in
      record {
        surface_lt = ltb-true (surface_of q p) (surfaces q) held.1.0;
        row_below = ltb-true (row_of q p) q.height held.1.1.0;
        column_below = ltb-true (column_of q p) q.width held.1.1.1;
        byte_lt = mod-lt (n % q.surface % q.line) (omega arith);
        place = omega (arith, from, div-add-mod' n q.surface, div-add-mod' (n % q.surface) q.line, div-add-mod' (n % q.surface % q.line) 32);
      }
