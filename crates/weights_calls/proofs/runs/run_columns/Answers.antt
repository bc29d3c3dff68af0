-- `weights_calls::runs::run_columns` meets its contract: its products are the definition's, within 64 bits. Assumes nothing.
use Prim.Native.Nat.{ℕ, ◌-◌, ◌*◌, min}
use native.Mathlib.Omega.{arith}
use mathlib.Core.Bool.{true}
use mathlib.Core.Path.{◌≡◌, ◌∙◌}
use Rattle.weights.specs.declared.WeightLayout.{WeightLayout}
use Rattle.weights.specs.Geometry.{size_of, group_of, block_channels}
use Rattle.weights.specs.Rules.{sizes_valid}
use Rattle.weights.proofs.Valid.{valid}
use Rattle.weights.proofs.BoundLaws.{pixels_le}
use Rattle.weights_calls.specs.declared.runs.Run.{Run}
use Rattle.weights_calls.specs.Steps.{AtRun}
use Rattle.weights_calls.proofs.RunLaws.{kernels-of}
use Rattle.weights_calls.proofs.BlockLaws.{Numbers, Bounds, run-bounds, channel-columns, pixel-columns}
use Rattle.weights_calls.proofs.runs.run_columns.Goals as goal

-- the numbers that the code looks up are the definition's, and its products are small
module _ (q : WeightLayout) (x : Run) {size kernels channels : ℕ} (v : sizes_valid q ≡ true) (at : AtRun q x)
    (s : size ≡ size_of q) (n : kernels ≡ min (group_of q) (q.kernels - x.first)) (m : channels ≡ min 64 (q.channels - x.block * 64)) where
  numbers : Numbers q x size kernels channels
  unfolding block_channels
  numbers = record { size_is = s; kernels_is = n ∙ kernels-of q (valid q v) x at.here; channels_is = m }

  bound : Bounds q x size kernels channels
  bound = run-bounds q (valid q v) x at numbers

pub overflow_mul-pixels : goal.overflow_mul-pixels
overflow_mul-pixels c = omega (arith, pixels_le c.args.tensor.layout (valid c.args.tensor.layout c.args.tensor.sizes))

pub run_width-width-requires : goal.run_width-width-requires
run_width-width-requires c = (bound c.args.tensor.layout c.args.run c.args.tensor.sizes c.requires c.element_bytes-size.ensures c.group_kernels-kernels.ensures c.least-channels.ensures).pixel

pub overflow_add-from : goal.overflow_add-from
overflow_add-from c =
    let b = bound c.args.tensor.layout c.args.run c.args.tensor.sizes c.requires c.element_bytes-size.ensures c.group_kernels-kernels.ensures c.least-channels.ensures in
    omega arith

pub overflow_mul-from : goal.overflow_mul-from
overflow_mul-from c =
    let b = bound c.args.tensor.layout c.args.run c.args.tensor.sizes c.requires c.element_bytes-size.ensures c.group_kernels-kernels.ensures c.least-channels.ensures in
    omega arith

pub overflow_add-from-2 : goal.overflow_add-from-2
overflow_add-from-2 c =
    let b = bound c.args.tensor.layout c.args.run c.args.tensor.sizes c.requires c.element_bytes-size.ensures c.group_kernels-kernels.ensures c.least-channels.ensures in
    omega arith

pub overflow_cast-from : goal.overflow_cast-from
overflow_cast-from c =
    let b = bound c.args.tensor.layout c.args.run c.args.tensor.sizes c.requires c.element_bytes-size.ensures c.group_kernels-kernels.ensures c.least-channels.ensures in
    omega arith

pub overflow_mul-from-2 : goal.overflow_mul-from-2
overflow_mul-from-2 c =
    let b = bound c.args.tensor.layout c.args.run c.args.tensor.sizes c.requires c.element_bytes-size.ensures c.group_kernels-kernels.ensures c.least-channels.ensures in
    omega arith

pub overflow_mul-number : goal.overflow_mul-number
overflow_mul-number c =
    let b = bound c.args.tensor.layout c.args.run c.args.tensor.sizes c.requires c.element_bytes-size.ensures c.group_kernels-kernels.ensures c.least-channels.ensures in
    omega arith

pub overflow_mul-number-2 : goal.overflow_mul-number-2
overflow_mul-number-2 c =
    let b = bound c.args.tensor.layout c.args.run c.args.tensor.sizes c.requires c.element_bytes-size.ensures c.group_kernels-kernels.ensures c.least-channels.ensures in
    omega arith

pub overflow_add-number : goal.overflow_add-number
overflow_add-number c =
    let b = bound c.args.tensor.layout c.args.run c.args.tensor.sizes c.requires c.element_bytes-size.ensures c.group_kernels-kernels.ensures c.least-channels.ensures in
    omega arith

pub overflow_cast-number : goal.overflow_cast-number
overflow_cast-number c =
    let b = bound c.args.tensor.layout c.args.run c.args.tensor.sizes c.requires c.element_bytes-size.ensures c.group_kernels-kernels.ensures c.least-channels.ensures in
    omega arith

pub overflow_mul-number-3 : goal.overflow_mul-number-3
overflow_mul-number-3 c =
    let b = bound c.args.tensor.layout c.args.run c.args.tensor.sizes c.requires c.element_bytes-size.ensures c.group_kernels-kernels.ensures c.least-channels.ensures in
    omega arith

pub overflow_mul-number-4 : goal.overflow_mul-number-4
overflow_mul-number-4 c =
    let b = bound c.args.tensor.layout c.args.run c.args.tensor.sizes c.requires c.element_bytes-size.ensures c.group_kernels-kernels.ensures c.least-channels.ensures in
    omega arith

pub overflow_add-number-2 : goal.overflow_add-number-2
overflow_add-number-2 c =
    let b = bound c.args.tensor.layout c.args.run c.args.tensor.sizes c.requires c.element_bytes-size.ensures c.group_kernels-kernels.ensures c.least-channels.ensures in
    omega arith

pub overflow_mul-at : goal.overflow_mul-at
overflow_mul-at c =
    let b = bound c.args.tensor.layout c.args.run c.args.tensor.sizes c.requires c.element_bytes-size.ensures c.group_kernels-kernels.ensures c.least-channels.ensures in
    omega arith

pub returns-then-pixels-eq1 : goal.returns-then-pixels-eq1
returns-then-pixels-eq1 c = channel-columns c.args.tensor.layout (valid c.args.tensor.layout c.args.tensor.sizes) c.args.run c.requires (numbers c.args.tensor.layout c.args.run c.args.tensor.sizes c.requires c.element_bytes-size.ensures c.group_kernels-kernels.ensures c.least-channels.ensures) c.run_width-width.ensures c.if-pixels-eq1.true

pub overflow_mul-result : goal.overflow_mul-result
overflow_mul-result c =
    let b = bound c.args.tensor.layout c.args.run c.args.tensor.sizes c.requires c.element_bytes-size.ensures c.group_kernels-kernels.ensures c.least-channels.ensures in
    omega arith

pub overflow_mul-result-2 : goal.overflow_mul-result-2
overflow_mul-result-2 c =
    let b = bound c.args.tensor.layout c.args.run c.args.tensor.sizes c.requires c.element_bytes-size.ensures c.group_kernels-kernels.ensures c.least-channels.ensures in
    omega arith

pub returns : goal.returns
returns c = pixel-columns c.args.tensor.layout (valid c.args.tensor.layout c.args.tensor.sizes) c.args.run c.requires (numbers c.args.tensor.layout c.args.run c.args.tensor.sizes c.requires c.element_bytes-size.ensures c.group_kernels-kernels.ensures c.least-channels.ensures) c.run_width-width.ensures c.if-pixels-eq1.false
