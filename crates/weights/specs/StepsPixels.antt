-- An element's number and raw index by its group, block, pixel, kernel and channel: the paper's number with the rows and columns of a kernel as one index. The laws go by it; no public promise rests on it. Assumes nothing.
use Rattle.std.specs.Prelude.{ℕ, ◌+◌, ◌*◌}
use Rattle.weights.specs.declared.WeightLayout.{WeightLayout}
use Rattle.weights.specs.Geometry.{group_of, group_kernels, block_channels}

-- the number of channel d of block b of kernel j of group g at pixel t
unfoldable pub pixel_number : WeightLayout → (g b t j d : ℕ) → ℕ
pixel_number q g b t j d =
    g * group_of q * q.rows * q.columns * q.channels
    + b * 64 * q.rows * q.columns * group_kernels q g
    + (t * group_kernels q g + j) * block_channels q b
    + d

-- the raw index of that element
unfoldable pub pixel_index : WeightLayout → (g b t j d : ℕ) → ℕ
pixel_index q g b t j d = ((g * group_of q + j) * q.channels + (b * 64 + d)) * (q.rows * q.columns) + t
