-- `weights_calls::read::runs` meets its contract. The loop's invariant: the elements come nearer to the raw weights, and those of all runs before the
-- walk's are read. The measure is the walk's rank. Assumes nothing.
use Prim.Native.Nat.{◌-◌, ◌^◌}
use Rattle.weights_calls.specs.Steps.{rank_of}
use Rattle.weights_calls.proofs.ReadLaws.{Reading}
use Rattle.weights_calls.proofs.read.runs.Given as goal

abbrev pub invariant-loop-run : goal.invariant-loop-run
invariant-loop-run l = Reading l.tensor.layout l.buffer l.initial.elements l.elements l.run

abbrev pub decreases-loop-run : goal.decreases-loop-run
decreases-loop-run l = 2 ^ 25 - rank_of l.run
