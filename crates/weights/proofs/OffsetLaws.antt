-- The place of each number below the count, by division: it is a place of the tensor, and its number is that number. What is left behind the
-- full groups, and behind the full blocks, is the last one's. Assumes nothing.
--     place_at, number-at     the place at a number, and its number
use Prim.Native.Nat.{ℕ, ◌+◌, ◌-◌, ◌*◌, ◌/◌, ◌%◌, ◌<◌, min}
use native.Mathlib.Nat.{mod-lt, div-add-mod', div-lt_iff_lt-mul, mul-pos, lt_of_mul-lt-mul_right}
use native.Mathlib.Decide.{dec_le}
use native.Mathlib.Omega.{arith}
use mathlib.Core.Path.{◌≡◌, ap}
use Rattle.weights.specs.declared.WeightLayout.{WeightLayout}
use Rattle.weights.specs.Geometry.{group_of, element_count, group_kernels, block_channels, group_elements, group_at, in_group, block_at, in_block, pixel_at}
use Rattle.weights.specs.StepsPixels.{pixel_number}
use Rattle.weights.proofs.Valid.{Valid}
use Rattle.weights.proofs.NumberLaws.{group_size-pos, Place}

-- what is left of K behind z, in pieces of G: x is in the first piece
module _ (W G K z x : ℕ) (total : z * W + x < K * W) where
  behind-lt : z < K
  behind-lt = lt_of_mul-lt-mul_right W (omega arith)

  piece-lt : x < G * W → x < min G (K - z) * W
  piece-lt h =
      elim (dec_le G (K - z)) [
        | yes l ↦ (let e : min G (K - z) ≡ G = omega arith in omega (arith, ap (λ (y : ℕ). y * W) e))
        | no f ↦ (let e : z + min G (K - z) ≡ K = omega (arith, behind-lt) in omega (arith, ap (λ (y : ℕ). y * W) e))
      ]

module _ (q : WeightLayout) (ok : Valid q) (i : ℕ) (hi : i < element_count q) where
  pixels-pos : 0 < q.rows * q.columns
  pixels-pos = mul-pos ok.rows.some ok.columns.some

  full-pos : 0 < group_elements q
  unfolding group_elements
  full-pos = mul-pos (mul-pos (mul-pos (group_size-pos q.precision) ok.rows.some) ok.columns.some) ok.channels.some

  of-group : group_at q i * group_elements q + in_group q i ≡ i
  unfolding group_at in_group
  of-group = div-add-mod' i (group_elements q)

  group-total : group_at q i * group_of q * (q.rows * q.columns * q.channels) + in_group q i < q.kernels * (q.rows * q.columns * q.channels)
  unfolding element_count group_elements
  group-total = omega (arith, of-group, hi)

  pub group-below : group_at q i * group_of q < q.kernels
  group-below = behind-lt (q.rows * q.columns * q.channels) (group_of q) q.kernels (group_at q i * group_of q) (in_group q i) group-total

  in-group-lt : in_group q i < group_kernels q (group_at q i) * (q.rows * q.columns * q.channels)
  unfolding group_kernels
  in-group-lt =
      piece-lt (q.rows * q.columns * q.channels) (group_of q) q.kernels (group_at q i * group_of q) (in_group q i) group-total
      (unfold in_group group_elements in omega (arith, mod-lt i full-pos))

  some-kernels : 0 < group_kernels q (group_at q i)
  unfolding group_kernels
  some-kernels = omega (arith, group-below, group_size-pos q.precision)

  block-pos : 0 < 64 * q.rows * q.columns * group_kernels q (group_at q i)
  block-pos = mul-pos {m = 64 * q.rows * q.columns} (omega (arith, pixels-pos)) some-kernels

  of-block : block_at q i * (64 * q.rows * q.columns * group_kernels q (group_at q i)) + in_block q i ≡ in_group q i
  unfolding block_at in_block
  of-block = div-add-mod' (in_group q i) (64 * q.rows * q.columns * group_kernels q (group_at q i))

  block-total : block_at q i * 64 * (q.rows * q.columns * group_kernels q (group_at q i)) + in_block q i < q.channels * (q.rows * q.columns * group_kernels q (group_at q i))
  block-total = omega (arith, of-block, in-group-lt)

  pub block-below : block_at q i * 64 < q.channels
  block-below = behind-lt (q.rows * q.columns * group_kernels q (group_at q i)) 64 q.channels (block_at q i * 64) (in_block q i) block-total

  in-block-lt : in_block q i < block_channels q (block_at q i) * (q.rows * q.columns * group_kernels q (group_at q i))
  unfolding block_channels
  in-block-lt =
      piece-lt (q.rows * q.columns * group_kernels q (group_at q i)) 64 q.channels (block_at q i * 64) (in_block q i) block-total
      (unfold in_block in omega (arith, mod-lt (in_group q i) block-pos))

  some-channels : 0 < block_channels q (block_at q i)
  unfolding block_channels
  some-channels = omega (arith, block-below)

  abbrev run_at : ℕ
  run_at = in_block q i / block_channels q (block_at q i)

  abbrev kernel-at : ℕ
  kernel-at = in_block q i / block_channels q (block_at q i) % group_kernels q (group_at q i)

  abbrev channel-at : ℕ
  channel-at = in_block q i % block_channels q (block_at q i)

  run-lt : run_at < q.rows * q.columns * group_kernels q (group_at q i)
  run-lt = (div-lt_iff_lt-mul some-channels).1 (omega (arith, in-block-lt))

  pub place_at : Place q (group_at q i) (block_at q i) (pixel_at q i) kernel-at channel-at
  unfolding pixel_at
  place_at =
      record {
        pixel_lt = (div-lt_iff_lt-mul some-kernels).1 run-lt;
        kernel_lt = mod-lt run_at some-kernels;
        channel_lt = mod-lt (in_block q i) some-channels;
      }

  pub number-at : pixel_number q (group_at q i) (block_at q i) (pixel_at q i) kernel-at channel-at ≡ i
  unfolding pixel_number pixel_at group_elements
  number-at =
      let n = group_kernels q (group_at q i) in
      let m = block_channels q (block_at q i) in
      let run : in_block q i / m / n * n + in_block q i / m % n ≡ in_block q i / m = div-add-mod' (in_block q i / m) n in
      let inner : (in_block q i / m / n * n + in_block q i / m % n) * m + in_block q i % m ≡ in_block q i = rw run (div-add-mod' (in_block q i) m) in
      omega (arith, inner, of-block, of-group)
