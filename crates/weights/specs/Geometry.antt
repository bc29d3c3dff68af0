-- Where direct-convolution weights lie in their packed surface (scope paper, "Weights"). K kernels of C channels, R rows and S columns. All
-- numbers are whole numbers: nothing wraps. That the numbering has the inverse given here is proved in proofs/Claims.antt. Assumes nothing.
use Rattle.std.specs.Prelude.{ℕ, zero, suc, ◌+◌, ◌-◌, ◌*◌, ◌/◌, ◌%◌, min}
use Rattle.elements.specs.Bytes.{element_bytes}
use Rattle.weights.specs.declared.WeightLayout.{WeightLayout}

-- bytes an element
abbrev pub size_of : WeightLayout → ℕ
size_of q = element_bytes q.precision

-- kernels of a full group (the paper's G), by the precision code: 32 for int8, 16 otherwise
unfoldable pub group_size : ℕ → ℕ
group_size zero = 32
group_size (suc p) = 16

abbrev pub group_of : WeightLayout → ℕ
group_of q = group_size q.precision

-- elements of all kernels
unfoldable pub element_count : WeightLayout → ℕ
element_count q = q.kernels * q.channels * q.rows * q.columns

-- the index of element (k, c, r, s) in raw order
unfoldable pub raw_index : WeightLayout → ℕ → ℕ → ℕ → ℕ → ℕ
raw_index q k c r s = ((k * q.channels + c) * q.rows + r) * q.columns + s

-- kernels of group g (the paper's n), channels of block b (the paper's m): the last may have fewer
unfoldable pub group_kernels : WeightLayout → ℕ → ℕ
group_kernels q g = min (group_of q) (q.kernels - g * group_of q)

unfoldable pub block_channels : WeightLayout → ℕ → ℕ
block_channels q b = min 64 (q.channels - b * 64)

-- the number of offset d in block b of kernel j of group g, at row r and column s
unfoldable pub offset_number : WeightLayout → ℕ → ℕ → ℕ → ℕ → ℕ → ℕ → ℕ
offset_number q g j b d r s =
    g * group_of q * q.rows * q.columns * q.channels
    + b * 64 * q.rows * q.columns * group_kernels q g
    + ((r * q.columns + s) * group_kernels q g + j) * block_channels q b
    + d

-- the number of element (k, c, r, s)
unfoldable pub element_number : WeightLayout → ℕ → ℕ → ℕ → ℕ → ℕ
element_number q k c r s = offset_number q (k / group_of q) (k % group_of q) (c / 64) (c % 64) r s

-- the byte at which element (k, c, r, s) begins
unfoldable pub element_position : WeightLayout → ℕ → ℕ → ℕ → ℕ → ℕ
element_position q k c r s = element_number q k c r s * size_of q

-- bytes of the packed surface: the elements', filled to a multiple of 128
unfoldable pub surface_bytes : WeightLayout → ℕ
surface_bytes q = (element_count q * size_of q + 127) / 128 * 128

-- ---- the element at a number, by division

-- elements of a full group
unfoldable pub group_elements : WeightLayout → ℕ
group_elements q = group_of q * q.rows * q.columns * q.channels

-- the group of number i; the offset in its group; the block there; the offset in that block; its pixel r·S + s; kernel and channel
unfoldable pub group_at : WeightLayout → ℕ → ℕ
group_at q i = i / group_elements q

unfoldable pub in_group : WeightLayout → ℕ → ℕ
in_group q i = i % group_elements q

unfoldable pub block_at : WeightLayout → ℕ → ℕ
block_at q i = in_group q i / (64 * q.rows * q.columns * group_kernels q (group_at q i))

unfoldable pub in_block : WeightLayout → ℕ → ℕ
in_block q i = in_group q i % (64 * q.rows * q.columns * group_kernels q (group_at q i))

unfoldable pub pixel_at : WeightLayout → ℕ → ℕ
pixel_at q i = in_block q i / block_channels q (block_at q i) / group_kernels q (group_at q i)

unfoldable pub kernel_at : WeightLayout → ℕ → ℕ
kernel_at q i = group_at q i * group_of q + in_block q i / block_channels q (block_at q i) % group_kernels q (group_at q i)

unfoldable pub channel_at : WeightLayout → ℕ → ℕ
channel_at q i = block_at q i * 64 + in_block q i % block_channels q (block_at q i)

-- the raw index of the element with number i
unfoldable pub raw_at : WeightLayout → ℕ → ℕ
raw_at q i = raw_index q (kernel_at q i) (channel_at q i) (pixel_at q i / q.columns) (pixel_at q i % q.columns)

-- the number of the element with raw index i
unfoldable pub number_at : WeightLayout → ℕ → ℕ
number_at q i =
    element_number q (i / q.columns / q.rows / q.channels) (i / q.columns / q.rows % q.channels) (i / q.columns % q.rows) (i % q.columns)
