-- `layout_calls::valid::ValidLayout::end` meets its contract: the sum stays below 2 ^ 47. Assumes nothing.
use Prim.Native.Nat.{◌^◌, ◌<◌}
use native.Mathlib.Omega.{arith}
use Rattle.layout.proofs.Valid.{valid}
use Rattle.layout.proofs.Extents.{extent-lt}
use Rattle.layout_calls.proofs.valid.ValidLayout.end.Goals as goal

pub overflow_add-result : goal.overflow_add-result
overflow_add-result c =
    let q = c.args.self.layout in
    let line : q.line < 2 ^ 32 = omega arith in
    let surface : q.surface < 2 ^ 32 = omega arith in
    omega (arith, c.extent.ensures, extent-lt q (valid q c.args.self.accepted) line surface)
