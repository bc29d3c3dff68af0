-- `lut_calls::points::fill` meets its contract. The loop's invariant: the points of the first i entries are written. Assumes nothing.
use Rattle.lut_calls.proofs.PointLaws.{Begun}
use Rattle.lut_calls.proofs.points.fill.Given as goal

abbrev pub invariant-loop-i : goal.invariant-loop-i
invariant-loop-i l = Begun l.initial.firsts l.initial.rises l.firsts l.rises l.table l.base l.i
