-- `curve_computed::root` meets its contract. The loop's invariant: the estimate is at or above the root. It falls with each turn. Assumes nothing.
use Prim.Native.Nat.{◌≤◌}
use Rattle.camera.specs.Curve.{root}
use Rattle.curve_computed.proofs.root.Given as goal

abbrev pub invariant-loop-estimate : goal.invariant-loop-estimate
invariant-loop-estimate l = (root l.n ≤ l.estimate) × (l.estimate ≤ 65535)

abbrev pub decreases-loop-estimate : goal.decreases-loop-estimate
decreases-loop-estimate l = l.estimate
