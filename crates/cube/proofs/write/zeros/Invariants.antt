-- `cube::write::zeros` meets its contract. The loop's invariant: the first `done` columns of the box, or all where these are fewer, are cleared. Assumes nothing.
use mathlib.Core.Path.{◌≡◌}
use Rattle.cube.proofs.StripLaws.{cleared_to}
use Rattle.cube.proofs.write.zeros.Given as goal

abbrev pub invariant-loop-done : goal.invariant-loop-done
invariant-loop-done l = l.buffer ≡ cleared_to l.layout l.b l.initial.buffer l.done
