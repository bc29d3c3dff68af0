-- The numbering of the elements (specs/Geometry.antt). A number has five digits: group, block, pixel r·S + s, kernel in the group, channel in
-- the block. The last group and the last block have fewer kernels and channels, but nothing comes after them, so that each digit is found by
-- division. Once over the group size. Assumes nothing.
--     group_size-pos, group_size-le, group_size-int8, group_size-other     kernels of a full group
--     Place                                             the digits are in range
--     kernel_in, channel-in, kernel-below, channel-below     so are the kernel and the channel
--     number_lt, raw_at-pixel                            the number is below the count, and leads to its raw index
use Prim.Native.Nat.{ℕ, zero, suc, ◌+◌, ◌*◌, ◌/◌, ◌≤◌, ◌<◌}
use native.Mathlib.Nat.{div-add-mod', mul-le-mul_right, mul-le-mul_left}
use native.Mathlib.Omega.{arith}
use mathlib.Core.Path.{◌≡◌, refl, ap, ◌∙◌}
use lib.Arith.{digits_div, digits_mod, digits_lt}
use Rattle.weights.specs.declared.WeightLayout.{WeightLayout}
use Rattle.weights.specs.Geometry.{group_size, group_of, element_count, raw_index, group_kernels, block_channels, group_elements, group_at, in_group, block_at, in_block, pixel_at, kernel_at, channel_at, raw_at}
use Rattle.weights.specs.StepsPixels.{pixel_number, pixel_index}

pub group_size-pos : (p : ℕ) → 0 < group_size p
unfolding group_size
group_size-pos zero = omega arith
group_size-pos (suc p) = omega arith

pub group_size-le : (p : ℕ) → group_size p ≤ 32
unfolding group_size
group_size-le zero = omega arith
group_size-le (suc p) = omega arith

pub group_size-int8 : (p : ℕ) → p ≡ 0 → group_size p ≡ 32
unfolding group_size
group_size-int8 zero e = refl
group_size-int8 (suc p) e = absurd (omega arith)

pub group_size-other : (p : ℕ) → (p ≡ 0 → ⊥) → group_size p ≡ 16
unfolding group_size
group_size-other zero f = absurd (f refl)
group_size-other (suc p) f = refl

-- the tensor has such an element
pub record Place (q : WeightLayout) (g b t j d : ℕ) : Type 0 where
  pub pixel_lt : t < q.rows * q.columns
  pub kernel_lt : j < group_kernels q g
  pub channel_lt : d < block_channels q b

module _ (q : WeightLayout) (g b t j d : ℕ) (p : Place q g b t j d) where
  pub kernel_in : j < group_of q
  unfolding group_kernels
  kernel_in = omega (arith, p.kernel_lt)

  pub channel-in : d < 64
  unfolding block_channels
  channel-in = omega (arith, p.channel_lt)

  pub kernel-below : g * group_of q + j < q.kernels
  unfolding group_kernels
  kernel-below = omega (arith, p.kernel_lt)

  pub channel-below : b * 64 + d < q.channels
  unfolding block_channels
  channel-below = omega (arith, p.channel_lt)

  -- the place in the block
  in-run : (t * group_kernels q g + j) * block_channels q b + d < q.rows * q.columns * group_kernels q g * block_channels q b
  in-run = digits_lt {c = block_channels q b} (digits_lt {c = group_kernels q g} p.pixel_lt p.kernel_lt) p.channel_lt

  block_lt : (t * group_kernels q g + j) * block_channels q b + d < 64 * q.rows * q.columns * group_kernels q g
  unfolding block_channels
  block_lt =
      let n = group_kernels q g in
      omega (arith, in-run, mul-le-mul_left {m = block_channels q b} {n = 64} (q.rows * q.columns * n) (omega arith))

  -- the place in the group
  group-le : b * 64 * q.rows * q.columns * group_kernels q g + ((t * group_kernels q g + j) * block_channels q b + d) < group_kernels q g * (q.rows * q.columns * q.channels)
  unfolding block_channels
  group-le =
      let n = group_kernels q g in
      omega (arith, in-run, mul-le-mul_left {m = b * 64 + block_channels q b} {n = q.channels} (q.rows * q.columns * n) (omega (arith, p.channel_lt)))

  group-lt : b * 64 * q.rows * q.columns * group_kernels q g + ((t * group_kernels q g + j) * block_channels q b + d) < group_elements q
  unfolding group_elements group_kernels
  group-lt =
      omega (arith, group-le, mul-le-mul_right {m = group_kernels q g} {n = group_of q} (q.rows * q.columns * q.channels) (omega arith))

  digits : pixel_number q g b t j d ≡ g * group_elements q + (b * 64 * q.rows * q.columns * group_kernels q g + ((t * group_kernels q g + j) * block_channels q b + d))
  unfolding pixel_number group_elements
  digits = omega arith

  pub number_lt : pixel_number q g b t j d < element_count q
  unfolding element_count group_elements group_kernels
  number_lt =
      omega (arith, digits, group-le, mul-le-mul_right {m = g * group_of q + group_kernels q g} {n = q.kernels} (q.rows * q.columns * q.channels) (omega (arith, p.kernel_lt)))

  at-group : group_at q (pixel_number q g b t j d) ≡ g
  unfolding group_at
  at-group = rw digits (digits_div g group-lt)

  at-in-group : in_group q (pixel_number q g b t j d) ≡ b * (64 * q.rows * q.columns * group_kernels q g) + ((t * group_kernels q g + j) * block_channels q b + d)
  unfolding in_group
  at-in-group = rw digits (digits_mod g group-lt ∙ omega arith)

  at_block : block_at q (pixel_number q g b t j d) ≡ b
  unfolding block_at
  at_block = rw (at-group, at-in-group) (digits_div b block_lt)

  at-in-block : in_block q (pixel_number q g b t j d) ≡ (t * group_kernels q g + j) * block_channels q b + d
  unfolding in_block
  at-in-block = rw (at-group, at-in-group) (digits_mod b block_lt)

  at-run : in_block q (pixel_number q g b t j d) / block_channels q b ≡ t * group_kernels q g + j
  at-run = rw at-in-block (digits_div (t * group_kernels q g + j) p.channel_lt)

  pub at-pixel : pixel_at q (pixel_number q g b t j d) ≡ t
  unfolding pixel_at
  at-pixel = rw (at-group, at_block, at-run) (digits_div t p.kernel_lt)

  pub at-kernel : kernel_at q (pixel_number q g b t j d) ≡ g * group_of q + j
  unfolding kernel_at
  at-kernel = rw (at-group, at_block, at-run) (ap (λ (x : ℕ). g * group_of q + x) (digits_mod t p.kernel_lt))

  pub at-channel : channel_at q (pixel_number q g b t j d) ≡ b * 64 + d
  unfolding channel_at
  at-channel = rw (at_block, at-in-block) (ap (λ (x : ℕ). b * 64 + x) (digits_mod (t * group_kernels q g + j) p.channel_lt))

  -- the raw index at a number
  pub raw_at-pixel : raw_at q (pixel_number q g b t j d) ≡ pixel_index q g b t j d
  unfolding raw_at raw_index pixel_index
  raw_at-pixel = rw (at-pixel, at-kernel, at-channel) (omega (arith, div-add-mod' t q.columns))
