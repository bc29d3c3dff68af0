-- `weights_calls::runs::next` meets its contract: it goes to the next kernel, else to the next block, else to the next group, and to that at once where
-- there is one block, as the laws of runs do. Assumes nothing.
use Prim.Native.Nat.{ℕ, ◌+◌, ◌≤◌, ◌<◌}
use native.Mathlib.Omega.{arith}
use mathlib.Core.Path.{◌≡◌, ◌∙◌, subst}
use Rattle.weights.specs.declared.WeightLayout.{WeightLayout}
use Rattle.weights.specs.Geometry.{group_of, group_kernels}
use Rattle.weights_calls.specs.declared.runs.Run.{Run}
use Rattle.weights_calls.specs.Steps.{group_in, NextRun}
use Rattle.weights.proofs.Valid.{valid}
use Rattle.weights.proofs.NumberLaws.{group_size-le}
use Rattle.weights_calls.proofs.RunLaws.{run_small, kernels-of, next-whole, next-kernel, next-block, next-group}
use Rattle.weights_calls.proofs.runs.next.Goals as goal

-- the next group begins one group's size behind
behind : (q : WeightLayout) (x : Run) {size : ℕ} → size ≡ group_of q
    → NextRun q x (record { first = x.first + group_of q; block = 0; kernel = 0 })
    → NextRun q x (record { first = x.first + size; block = 0; kernel = 0 })
behind q x e n = rw e n

pub overflow_add-behind : goal.overflow_add-behind
overflow_add-behind c =
    let a = c.args in
    let ok = valid a.tensor.layout c.args.tensor.sizes in
    omega (arith, c.group_size.ensures, group_size-le a.tensor.layout.precision, (run_small a.tensor.layout ok a.run c.requires.here).kernel_in, ok.kernels.most_le)

pub returns-then-layout-le64 : goal.returns-then-layout-le64
returns-then-layout-le64 c =
    let a = c.args in
    behind a.tensor.layout a.run c.group_size.ensures (next-whole a.tensor.layout (valid a.tensor.layout c.args.tensor.sizes) a.run c.requires c.if-layout-le64.true)

pub overflow_add-run : goal.overflow_add-run
overflow_add-run c =
    let a = c.args in
    omega (arith, (run_small a.tensor.layout (valid a.tensor.layout c.args.tensor.sizes) a.run c.requires.here).kernel_lt)

pub returns-then-run-group_kernels : goal.returns-then-run-group_kernels
returns-then-run-group_kernels c =
    let a = c.args in
    let kernels-are : c.group_kernels.result ≡ group_kernels a.tensor.layout (group_in a.tensor.layout a.run) = c.group_kernels.ensures ∙ kernels-of a.tensor.layout (valid a.tensor.layout c.args.tensor.sizes) a.run c.requires.here in
    next-kernel a.tensor.layout (valid a.tensor.layout c.args.tensor.sizes) a.run c.requires c.if-layout-le64.false (subst (λ (n : ℕ). a.run.kernel + 1 < n) kernels-are c.if-run-group_kernels.true)

pub overflow_mul-run : goal.overflow_mul-run
overflow_mul-run c =
    let a = c.args in
    omega (arith, (run_small a.tensor.layout (valid a.tensor.layout c.args.tensor.sizes) a.run c.requires.here).block_lt)

pub returns-then-run-layout : goal.returns-then-run-layout
returns-then-run-layout c =
    let a = c.args in
    let kernels-are : c.group_kernels.result ≡ group_kernels a.tensor.layout (group_in a.tensor.layout a.run) = c.group_kernels.ensures ∙ kernels-of a.tensor.layout (valid a.tensor.layout c.args.tensor.sizes) a.run c.requires.here in
    let last : group_kernels a.tensor.layout (group_in a.tensor.layout a.run) ≤ a.run.kernel + 1 = subst (λ (n : ℕ). n ≤ a.run.kernel + 1) kernels-are c.if-run-group_kernels.false in
    next-block a.tensor.layout (valid a.tensor.layout c.args.tensor.sizes) a.run c.requires c.if-layout-le64.false last c.if-run-layout.true

pub returns : goal.returns
returns c =
    let a = c.args in
    let kernels-are : c.group_kernels.result ≡ group_kernels a.tensor.layout (group_in a.tensor.layout a.run) = c.group_kernels.ensures ∙ kernels-of a.tensor.layout (valid a.tensor.layout c.args.tensor.sizes) a.run c.requires.here in
    let last : group_kernels a.tensor.layout (group_in a.tensor.layout a.run) ≤ a.run.kernel + 1 = subst (λ (n : ℕ). n ≤ a.run.kernel + 1) kernels-are c.if-run-group_kernels.false in
    behind a.tensor.layout a.run c.group_size.ensures
    (next-group a.tensor.layout (valid a.tensor.layout c.args.tensor.sizes) a.run c.requires c.if-layout-le64.false last c.if-run-layout.false)
