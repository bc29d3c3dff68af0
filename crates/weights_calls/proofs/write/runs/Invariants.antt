-- `weights_calls::write::runs` meets its contract. The loop's invariant: the buffer comes nearer to what it is to be, and the bytes of all runs
-- before the walk's are written. The measure is the walk's rank. Assumes nothing.
use Prim.Native.Nat.{◌-◌, ◌^◌}
use Rattle.weights_calls.specs.Steps.{rank_of}
use Rattle.weights_calls.proofs.WriteLaws.{Writing}
use Rattle.weights_calls.proofs.write.runs.Given as goal

abbrev pub invariant-loop-run : goal.invariant-loop-run
invariant-loop-run l = Writing l.tensor.layout l.elements l.initial.buffer l.buffer l.run

abbrev pub decreases-loop-run : goal.decreases-loop-run
decreases-loop-run l = 2 ^ 25 - rank_of l.run
