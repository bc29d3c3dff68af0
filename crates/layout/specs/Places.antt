-- The words of the claims about cubes (proofs/Claims.antt): elements and bytes of a cube, in the paper's bounds and formula (scope paper, "Cells
-- and cubes"). Assumes nothing.
use Rattle.std.specs.Prelude.{ℕ, ◌+◌, ◌*◌, ◌≤◌, ◌<◌, ◌≡◌}
use Rattle.layout.specs.declared.CubeLayout.{CubeLayout}
use Rattle.layout.specs.declared.ElementBox.{ElementBox}
use Rattle.layout.specs.Geometry.{size_of, surfaces, element_position}

-- the cube has element (c, h, w)
pub record InCube (q : CubeLayout) (c h w : ℕ) : Type 0 where
  pub channel_lt : c < q.channels
  pub row_lt : h < q.height
  pub column_lt : w < q.width

-- the box has element (c, h, w)
pub record InBox (b : ElementBox) (c h w : ℕ) : Type 0 where
  pub channel_ge : b.channel ≤ c
  pub channel_lt : c < b.channel + b.channels
  pub row_ge : b.row ≤ h
  pub row_lt : h < b.row + b.rows
  pub column_ge : b.column ≤ w
  pub column_lt : w < b.column + b.columns

-- byte p is byte b of an element (c, h, w) of the cube
pub record ElementByte (q : CubeLayout) (p : ℕ) : Type 0 where
  pub c : ℕ
  pub h : ℕ
  pub w : ℕ
  pub b : ℕ
  pub in_cube : InCube q c h w
  pub byte_lt : b < size_of q
  pub place : p ≡ element_position q c h w + b

-- byte p is byte k of the atom at surface s, row h, column w, for some of the cube's
pub record AtomByte (q : CubeLayout) (p : ℕ) : Type 0 where
  pub s : ℕ
  pub h : ℕ
  pub w : ℕ
  pub k : ℕ
  pub surface_lt : s < surfaces q
  pub row_lt : h < q.height
  pub column_lt : w < q.width
  pub byte_lt : k < 32
  pub place : p ≡ q.start + s * q.surface + h * q.line + 32 * w + k

-- and it is past the last channel
pub record PaddingByte (q : CubeLayout) (p : ℕ) : Type 0 where
  pub atom : AtomByte q p
  pub past : q.channels * size_of q ≤ 32 * atom.s + atom.k

-- byte p is in no element of the box
abbrev pub Outside_box : CubeLayout → ElementBox → ℕ → Type 0
Outside_box q box p = (c h w b : ℕ) → InBox box c h w → b < size_of q → p ≡ element_position q c h w + b → ⊥
