-- The words of the claims about weights (proofs/Claims.antt): elements and bytes of a packed surface, in the paper's bounds and formula (scope
-- paper, "Weights"). Assumes nothing.
use Rattle.std.specs.Prelude.{ℕ, ◌+◌, ◌*◌, ◌≤◌, ◌<◌, ◌≡◌}
use Rattle.weights.specs.declared.WeightLayout.{WeightLayout}
use Rattle.weights.specs.Geometry.{size_of, element_count, element_position, surface_bytes}

-- the tensor has element (k, c, r, s)
pub record Element (q : WeightLayout) (k c r s : ℕ) : Type 0 where
  pub kernel_lt : k < q.kernels
  pub channel_lt : c < q.channels
  pub row_lt : r < q.rows
  pub column_lt : s < q.columns

-- byte p is byte b of an element (k, c, r, s) of the tensor
pub record ElementByte (q : WeightLayout) (p : ℕ) : Type 0 where
  pub k : ℕ
  pub c : ℕ
  pub r : ℕ
  pub s : ℕ
  pub b : ℕ
  pub element : Element q k c r s
  pub byte_lt : b < size_of q
  pub place : p ≡ element_position q k c r s + b

-- byte p is one of those that fill the surface up to a multiple of 128 bytes
pub record FillByte (q : WeightLayout) (p : ℕ) : Type 0 where
  pub from : element_count q * size_of q ≤ p
  pub to : p < surface_bytes q
