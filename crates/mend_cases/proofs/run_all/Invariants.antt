-- `mend_cases::run_all` is safe and ends. The loop's invariant: at least one byte was passed for each case. The measure is what is left of the cases. Assumes nothing.
use Prim.Native.Nat.{◌+◌, ◌-◌, ◌≤◌}
use lib.ListN.{length}
use Rattle.mend_cases.proofs.run_all.Given as goal

abbrev pub invariant-loop-from : goal.invariant-loop-from
invariant-loop-from l = (l.number ≤ l.from) × (l.from ≤ length l.cases + 1)

abbrev pub decreases-loop-from : goal.decreases-loop-from
decreases-loop-from l = length l.cases + 1 - l.from
