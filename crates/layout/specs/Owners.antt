-- Whose each byte of a packed buffer is, by division (scope paper, "Cells and cubes"). That an element's bytes are those from its position
-- on, and an atom's those of the paper's formula, is proved in proofs/Views.antt and proofs/Formulas.antt. Assumes nothing.
use Rattle.std.specs.Prelude.{ℕ, ◌+◌, ◌-◌, ◌*◌, ◌/◌, ◌%◌, Bool, cond, ◌&&◌, leb, ltb}
use Rattle.layout.specs.declared.CubeLayout.{CubeLayout}
use Rattle.layout.specs.Geometry.{size_of, surfaces}

-- byte b of element (c, h, w); or a padding byte, which an atom has past the last channel; or outside every atom
pub data Owner : Type 0 where
  element : (c h w b : ℕ) → Owner
  padding : Owner
  outside : Owner

-- surface, row, column and byte of the atom in which byte p would lie
unfoldable pub surface_of : CubeLayout → ℕ → ℕ
surface_of q p = (p - q.start) / q.surface

unfoldable pub row_of : CubeLayout → ℕ → ℕ
row_of q p = (p - q.start) % q.surface / q.line

unfoldable pub column_of : CubeLayout → ℕ → ℕ
column_of q p = (p - q.start) % q.surface % q.line / 32

unfoldable pub byte_in_atom : CubeLayout → ℕ → ℕ
byte_in_atom q p = (p - q.start) % q.surface % q.line % 32

-- byte p lies in an atom of the cube
unfoldable pub in_atom : CubeLayout → ℕ → Bool
in_atom q p = leb q.start p && ltb (surface_of q p) (surfaces q) && ltb (row_of q p) q.height && ltb (column_of q p) q.width

-- the owner of byte k of the atom at surface s, row h, column w: byte 32·s + k of the channels' bytes there
unfoldable pub atom_owner : CubeLayout → ℕ → ℕ → ℕ → ℕ → Owner
atom_owner q s h w k =
    cond (ltb (32 * s + k) (q.channels * size_of q)) (element ((32 * s + k) / size_of q) h w ((32 * s + k) % size_of q)) padding

-- the owner of byte p
unfoldable pub owner : CubeLayout → ℕ → Owner
owner q p = cond (in_atom q p) (atom_owner q (surface_of q p) (row_of q p) (column_of q p) (byte_in_atom q p)) outside
