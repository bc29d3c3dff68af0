-- `lines_calls::read_number` meets its contract. The loop's invariant: the bytes so far are digits of the value `high`, which is at most
-- 4294967295. Assumes nothing.
use Prim.Native.Nat.{◌≤◌}
use Rattle.lines.proofs.NumberLaws.{Passed}
use Rattle.lines_calls.proofs.read_number.Given as goal

abbrev pub invariant-loop-b : goal.invariant-loop-b
invariant-loop-b l = (l.high ≤ 4294967295) × Passed l.text l.high l.b-index
