-- Bounds of counts, all within 64 bits: a full tensor has 2 ^ 36 elements and 2 ^ 37 bytes. By the products of the largest sizes. Assumes
-- nothing.
--     pixels_le, channels-product-le, count_le, bytes_le     counts
--     position_lt                                            the position of an element
--     Pieces, groups-le .. before-le                         the parts of an element's number
use Prim.Native.Nat.{ℕ, ◌+◌, ◌*◌, ◌^◌, ◌≤◌}
use native.Mathlib.Nat.{mul-le-mul}
use native.Mathlib.Omega.{arith}
use Rattle.elements.proofs.ByteLaws.{element_bytes-le}
use Rattle.weights.specs.declared.WeightLayout.{WeightLayout}
use Rattle.weights.specs.Geometry.{size_of, element_count, element_position}
use Rattle.weights.specs.Places.{Element}
use Rattle.weights.proofs.Valid.{Valid}
use Rattle.weights.proofs.ElementLaws.{number_lt}

module _ (q : WeightLayout) (ok : Valid q) where
  pub pixels_le : q.rows * q.columns ≤ 1024
  pixels_le = mul-le-mul {n₂ = 32} {m₂ = 32} ok.rows.most_le ok.columns.most_le

  pub channels-product-le : q.kernels * q.channels ≤ 2 ^ 26
  channels-product-le = mul-le-mul {n₂ = 8192} {m₂ = 8192} ok.kernels.most_le ok.channels.most_le

  pub count_le : element_count q ≤ 2 ^ 36
  unfolding element_count
  count_le = omega (arith, mul-le-mul {n₂ = 2 ^ 26} {m₂ = 2 ^ 10} channels-product-le pixels_le)

  pub bytes_le : element_count q * size_of q ≤ 2 ^ 37
  bytes_le = mul-le-mul {n₂ = 2 ^ 36} {m₂ = 2} count_le (element_bytes-le q.precision)

  pub position_lt : (k c r s : ℕ) → Element q k c r s → element_position q k c r s ≤ 2 ^ 37
  unfolding element_position
  position_lt k c r s x = mul-le-mul {n₂ = 2 ^ 36} {m₂ = 2} (omega (arith, number_lt q k c r s x, count_le)) (element_bytes-le q.precision)

-- what an element's number is computed from: the first kernel of its group and the first channel of its block, kernels and channels there, its pixel,
-- its kernel in the group, all channels, all pixels
pub record Pieces (first begin kernels channels pixel kernel all pixels : ℕ) : Type 0 where
  pub first_le : first ≤ 8192
  pub begin_le : begin ≤ 8192
  pub kernels_le : kernels ≤ 32
  pub channels_le : channels ≤ 64
  pub pixel_le : pixel ≤ 1024
  pub kernel_le : kernel ≤ 32
  pub all_le : all ≤ 8192
  pub pixels_le : pixels ≤ 1024

module _ {first begin kernels channels pixel kernel all pixels : ℕ} (p : Pieces first begin kernels channels pixel kernel all pixels) where
  pub groups-le : first * all ≤ 2 ^ 26
  groups-le = mul-le-mul {n₂ = 8192} {m₂ = 8192} p.first_le p.all_le

  pub blocks-le : begin * kernels ≤ 2 ^ 18
  blocks-le = mul-le-mul {n₂ = 8192} {m₂ = 32} p.begin_le p.kernels_le

  pub pixel-kernels-le : pixel * kernels ≤ 2 ^ 15
  pixel-kernels-le = mul-le-mul {n₂ = 1024} {m₂ = 32} p.pixel_le p.kernels_le

  pub within-le : (pixel * kernels + kernel) * channels ≤ 2 ^ 22
  within-le = mul-le-mul {n₂ = 2 ^ 16} {m₂ = 64} (omega (arith, pixel-kernels-le, p.kernel_le)) p.channels_le

  pub before-le : (first * all + begin * kernels) * pixels ≤ 2 ^ 37
  before-le = mul-le-mul {n₂ = 2 ^ 27} {m₂ = 1024} (omega (arith, groups-le, blocks-le)) p.pixels_le
