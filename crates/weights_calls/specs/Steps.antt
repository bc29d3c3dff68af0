-- How the code walks the elements: by runs, each one kernel's channels of one block at all pixels, or all kernels of a group where the tensor has
-- one block. A run is written and read as one block of columns; and what the runs leave of a buffer. This file only describes the code's own steps: no public promise rests on it. Assumes nothing.
use Rattle.std.specs.Prelude.{ℕ, ◌+◌, ◌*◌, ◌/◌, ◌≤◌, ◌<◌, cond, ◌≡◌, ◌⊎◌, List, leb, ltb, eqb, ℤ}
use Rattle.elements.specs.Lists.{remade}
use Rattle.columns.specs.declared.ColumnBlock.{ColumnBlock}
use Rattle.weights.specs.declared.WeightLayout.{WeightLayout}
use Rattle.weights_calls.specs.declared.runs.Run.{Run}
use Rattle.weights.specs.Geometry.{size_of, group_of, element_count, group_kernels, block_channels}
use Rattle.weights.specs.Contents.{packed_byte}
use Rattle.weights.specs.StepsPixels.{pixel_number, pixel_index}

-- ---- runs

-- the group that begins with a run's first kernel
abbrev pub group_in : WeightLayout → Run → ℕ
group_in q x = x.first / group_of q

-- one kernel's channels of one block, one of the tensor's
pub record AtKernel (q : WeightLayout) (x : Run) : Type 0 where
  pub first_lt : x.first < q.kernels
  pub group_is : group_in q x * group_of q ≡ x.first
  pub block_lt : x.block * 64 < q.channels
  pub kernel_lt : x.kernel < group_kernels q (group_in q x)

-- a run of the walk begins there: where the tensor has one block, with the first kernel of its group
pub record AtRun (q : WeightLayout) (x : Run) : Type 0 where
  pub here : AtKernel q x
  pub alone : q.channels ≤ 64 → x.kernel ≡ 0

-- z is of the run that begins with x: the run's one kernel, and where the tensor has one block, any kernel of the group
pub record InRun (q : WeightLayout) (x z : Run) : Type 0 where
  pub first_is : z.first ≡ x.first
  pub block_is : z.block ≡ x.block
  pub kernel_is : 64 < q.channels → z.kernel ≡ x.kernel

-- the order of the walk, by group, block and kernel: a tensor has at most 128 blocks, a group at most 32 kernels
abbrev pub rank_of : Run → ℕ
rank_of x = (x.first * 128 + x.block) * 32 + x.kernel

-- the run y comes behind the run x with none between them, or x was the last
pub record NextRun (q : WeightLayout) (x y : Run) : Type 0 where
  pub later : rank_of x < rank_of y
  pub between : (z : Run) → AtKernel q z → rank_of z < rank_of y → (rank_of z < rank_of x) ⊎ InRun q x z
  pub at : y.first < q.kernels → AtRun q y

-- the channels of a run: those of its kernels, one behind another
unfoldable pub width_of : WeightLayout → Run → ℕ
width_of q x = cond (leb q.channels 64) (group_kernels q (group_in q x) * block_channels q x.block) (block_channels q x.block)

-- the columns of a run: a column for each pixel, in it the run's channels side by side
abbrev pub pixel_columns : WeightLayout → Run → ColumnBlock
pixel_columns q x =
    record {
      size = size_of q;
      rows = width_of q x;
      count = q.rows * q.columns;
      from = pixel_index q (group_in q x) x.block 0 x.kernel 0;
      plane = q.rows * q.columns;
      at = pixel_number q (group_in q x) x.block 0 x.kernel 0 * size_of q;
      stride = group_kernels q (group_in q x) * block_channels q x.block * size_of q;
    }

-- where a kernel has one pixel: a column for each channel, since these lie side by side in both places
abbrev pub channel_columns : WeightLayout → Run → ColumnBlock
channel_columns q x =
    record {
      size = size_of q;
      rows = 1;
      count = width_of q x;
      from = pixel_index q (group_in q x) x.block 0 x.kernel 0;
      plane = width_of q x;
      at = pixel_number q (group_in q x) x.block 0 x.kernel 0 * size_of q;
      stride = size_of q;
    }

unfoldable pub run_columns : WeightLayout → Run → ColumnBlock
run_columns q x = cond (eqb (q.rows * q.columns) 1) (channel_columns q x) (pixel_columns q x)

-- ---- what all runs leave

-- the elements' bytes packed, and every later byte kept
unfoldable pub written : WeightLayout → List ℤ → List ℕ → List ℕ
written q raw before =
    remade (λ (p : ℕ) (old : ℕ). cond (ltb p (element_count q * size_of q)) (packed_byte q raw p old) old) before
