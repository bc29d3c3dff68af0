-- `curve_computed::root` meets its contract. The loop's invariant: the estimate is at or above the root. It falls with each turn. Assumes nothing.
use Prim.Native.Nat.{◌≤◌, ◌<◌}
use native.Mathlib.Omega.{arith}
use mathlib.Core.Path.{sym}
use Rattle.camera.specs.Curve.{root}
use Rattle.camera.proofs.RootLaws.{root-le, root-positive}
use Rattle.curve_computed.specs.Newton.{newton}
use Rattle.curve_computed.proofs.NewtonLaws.{quotient_le, newton_above, newton-stops}
use Rattle.curve_computed.proofs.root.Goals as goal

pub returns-then-n-eq0 : goal.returns-then-n-eq0
returns-then-n-eq0 c = omega (arith, root-le c.args.n 0 (omega (arith, c.if-n-eq0.true)))

pub loop-estimate-init : goal.loop-estimate-init
loop-estimate-init c = (root-le c.args.n 65535 (omega (arith, c.ranges.n)), omega arith)

-- the number is not 0, so neither is its root
pub nonzero_div-next : goal.nonzero_div-next
nonzero_div-next c = omega (arith, root-positive c.args.n (omega (arith, c.if-n-eq0.false)), c.loop-estimate.invariant.0)

pub overflow_add-next : goal.overflow_add-next
overflow_add-next c = record { fits = omega (arith, quotient_le c.args.n c.loop-estimate.estimate c.loop-estimate.invariant.0, c.loop-estimate.invariant) }

pub loop-estimate-preserved : goal.loop-estimate-preserved
unfolding newton
loop-estimate-preserved c =
    let positive : 0 < root c.args.n = root-positive c.args.n (omega (arith, c.if-n-eq0.false)) in
    -- a step does not go below the root
    let above : root c.args.n ≤ newton c.args.n c.loop-estimate.estimate = newton_above c.args.n c.loop-estimate.estimate (omega (arith, positive, c.loop-estimate.invariant.0)) in
    (above, omega (arith, c.if-estimate-next.false, c.loop-estimate.invariant.1))

pub returns : goal.returns
unfolding newton
returns c = let l = c in sym (newton-stops l.args.n l.loop-estimate.estimate l.loop-estimate.invariant.0 (omega (arith, c.if-estimate-next.true)))
