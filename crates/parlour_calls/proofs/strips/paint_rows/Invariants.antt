-- `parlour_calls::strips::paint_rows` meets its contract. The loop's invariant: the first y rows of the box are painted, and the components of them that were
-- held are counted. Assumes nothing.
use mathlib.Core.Path.{◌≡◌}
use Rattle.layout.proofs.JoinLaws.{band}
use Rattle.parlour.specs.Counts.{total, row_held}
use Rattle.parlour_calls.specs.Steps.{part_painted}
use Rattle.parlour_calls.proofs.strips.paint_rows.Given as goal

abbrev pub invariant-loop-y : goal.invariant-loop-y
invariant-loop-y l =
    (l.buffer ≡ part_painted l.fn.layout l.fn.target (band l.fn.target 0 l.y) l.fn.image l.pixels l.fn.conversion l.initial.buffer)
    × (l.held ≡ total (row_held l.fn.image l.pixels l.fn.conversion l.fn.layout.precision) l.y)
