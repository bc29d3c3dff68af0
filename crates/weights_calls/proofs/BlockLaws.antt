-- The block of columns of a run as the code computes it: the definition's, and its products within 64 bits. Assumes nothing.
--     Numbers                            the code's numbers are the definition's
--     Bounds, run-bounds                 its products
--     channel-columns, pixel-columns     the block
use Prim.Native.Nat.{ℕ, ◌+◌, ◌*◌, ◌^◌, ◌≤◌}
use native.Mathlib.Nat.{mul-le-mul}
use native.Mathlib.Omega.{arith}
use mathlib.Core.Bool.{cond}
use mathlib.Core.Path.{◌≡◌, ap, ◌∙◌}
use lib.Dec.{leb}
use borrow.Author.Tests.{eq-eqb, ne_eqb}
use Rattle.elements.proofs.ByteLaws.{element_bytes-le}
use Rattle.weights.specs.declared.WeightLayout.{WeightLayout}
use Rattle.weights_calls.specs.declared.runs.Run.{Run}
use Rattle.weights.specs.Geometry.{size_of, group_kernels, block_channels}
use Rattle.weights.specs.StepsPixels.{pixel_number, pixel_index}
use Rattle.weights_calls.specs.Steps.{group_in, AtRun, width_of, run_columns}
use Rattle.weights.proofs.Valid.{Valid}
use Rattle.weights.proofs.NumberLaws.{group_size-le}
use Rattle.weights.proofs.BoundLaws.{pixels_le}
use Rattle.weights_calls.proofs.RunLaws.{run_small}

-- the code's products
pub record Bounds (q : WeightLayout) (x : Run) (size kernels channels : ℕ) : Type 0 where
  pub pixels : q.rows * q.columns ≤ 2 ^ 10
  pub kernel : x.first + x.kernel ≤ 2 ^ 13
  pub source : (x.first + x.kernel) * q.channels + x.block * 64 ≤ 2 ^ 27
  pub from : ((x.first + x.kernel) * q.channels + x.block * 64) * (q.rows * q.columns) ≤ 2 ^ 37
  pub block : x.first * q.channels + x.block * 64 * kernels ≤ 2 ^ 27
  pub before : (x.first * q.channels + x.block * 64 * kernels) * (q.rows * q.columns) ≤ 2 ^ 37
  pub run : x.kernel * channels ≤ 2 ^ 11
  pub at : ((x.first * q.channels + x.block * 64 * kernels) * (q.rows * q.columns) + x.kernel * channels) * size ≤ 2 ^ 39
  pub pixel : kernels * channels ≤ 2 ^ 11
  pub stride : kernels * channels * size ≤ 2 ^ 12

-- the code's numbers
pub record Numbers (q : WeightLayout) (x : Run) (size kernels channels : ℕ) : Type 0 where
  pub size_is : size ≡ size_of q
  pub kernels_is : kernels ≡ group_kernels q (group_in q x)
  pub channels_is : channels ≡ block_channels q x.block

module _ (q : WeightLayout) (ok : Valid q) (x : Run) (a : AtRun q x) {size kernels channels : ℕ} (n : Numbers q x size kernels channels) where
  pub run-bounds : Bounds q x size kernels channels
  unfolding group_kernels block_channels
  run-bounds =
      let s = run_small q ok x a.here in
      let p = pixels_le q ok in
      let kernel : x.first + x.kernel ≤ 2 ^ 13 = omega (arith, s.kernel_in, ok.kernels.most_le) in
      let few : kernels ≤ 32 = omega (arith, n.kernels_is, group_size-le q.precision) in
      let some : channels ≤ 64 = omega (arith, n.channels_is) in
      let low : size ≤ 2 = omega (arith, n.size_is, element_bytes-le q.precision) in
      let source : (x.first + x.kernel) * q.channels + x.block * 64 ≤ 2 ^ 27 = omega (arith, mul-le-mul {n₂ = 2 ^ 13} {m₂ = 2 ^ 13} kernel ok.channels.most_le, s.block_lt) in
      let group = mul-le-mul {n₁ = x.first} {n₂ = 2 ^ 13} {m₂ = 2 ^ 13} (omega arith) ok.channels.most_le in
      let block : x.first * q.channels + x.block * 64 * kernels ≤ 2 ^ 27 = omega (arith, group, mul-le-mul {n₁ = x.block * 64} {n₂ = 2 ^ 13} {m₂ = 2 ^ 5} (omega (arith, s.block_lt)) few) in
      let before = mul-le-mul {n₂ = 2 ^ 27} {m₂ = 2 ^ 10} block p in
      let run = mul-le-mul {n₁ = x.kernel} {n₂ = 2 ^ 5} {m₂ = 2 ^ 6} (omega (arith, s.kernel_lt)) some in
      let pixel = mul-le-mul {n₂ = 2 ^ 5} {m₂ = 2 ^ 6} few some in
      record {
        pixels = p;
        kernel = kernel;
        source = source;
        from = mul-le-mul {n₂ = 2 ^ 27} {m₂ = 2 ^ 10} source p;
        block = block;
        before = before;
        run = run;
        at = mul-le-mul {n₁ = (x.first * q.channels + x.block * 64 * kernels) * (q.rows * q.columns) + x.kernel * channels} {n₂ = 2 ^ 38} {m₂ = 2 ^ 1} (omega (arith, before, run)) low;
        pixel = pixel;
        stride = mul-le-mul {n₂ = 2 ^ 11} {m₂ = 2 ^ 1} pixel low;
      }

  from_is : ((x.first + x.kernel) * q.channels + x.block * 64) * (q.rows * q.columns) ≡ pixel_index q (group_in q x) x.block 0 x.kernel 0
  unfolding pixel_index
  from_is = omega (arith, ap (λ (m : ℕ). m * (q.channels * (q.rows * q.columns))) a.here.group_is)

  at-is : ((x.first * q.channels + x.block * 64 * kernels) * (q.rows * q.columns) + x.kernel * channels) * size
      ≡ pixel_number q (group_in q x) x.block 0 x.kernel 0 * size_of q
  unfolding pixel_number
  at-is =
      rw (n.kernels_is, n.channels_is, n.size_is)
      (omega (arith, ap (λ (m : ℕ). m * (q.channels * (q.rows * q.columns)) * size_of q) a.here.group_is))

  module _ {width : ℕ} (ew : width ≡ cond (leb q.channels 64) (kernels * channels) channels) where
    width_is : width ≡ width_of q x
    unfolding width_of
    width_is = ew ∙ rw (n.kernels_is, n.channels_is)

    pub channel-columns : q.rows * q.columns ≡ 1
        → record {
          size = size;
          rows = 1;
          count = width;
          from = ((x.first + x.kernel) * q.channels + x.block * 64) * (q.rows * q.columns);
          plane = width;
          at = ((x.first * q.channels + x.block * 64 * kernels) * (q.rows * q.columns) + x.kernel * channels) * size;
          stride = size;
        } ≡ run_columns q x
    unfolding run_columns
    channel-columns one = rw (eq-eqb (q.rows * q.columns) 1 one, from_is, at-is, width_is, n.size_is)

    pub pixel-columns : (q.rows * q.columns ≡ 1 → ⊥)
        → record {
          size = size;
          rows = width;
          count = q.rows * q.columns;
          from = ((x.first + x.kernel) * q.channels + x.block * 64) * (q.rows * q.columns);
          plane = q.rows * q.columns;
          at = ((x.first * q.channels + x.block * 64 * kernels) * (q.rows * q.columns) + x.kernel * channels) * size;
          stride = kernels * channels * size;
        } ≡ run_columns q x
    unfolding run_columns
    pixel-columns more = rw (ne_eqb (q.rows * q.columns) 1 more, from_is, at-is, width_is, n.kernels_is, n.channels_is, n.size_is)
