-- `columns_calls::reading::read_strips` meets its contract. The loop's invariant: the first `done` columns are read. Assumes nothing.
use Prim.Native.Nat.{◌-◌, ◌≤◌}
use mathlib.Core.Path.{◌≡◌}
use Rattle.columns.specs.Columns.{rows_read}
use Rattle.columns_calls.proofs.reading.read_strips.Given as goal

abbrev pub invariant-loop-done : goal.invariant-loop-done
invariant-loop-done l =
    (l.done ≤ l.count) × (l.elements ≡ rows_read l.place.size.bytes l.buffer l.place.at l.place.stride l.rows l.done l.place.from l.place.plane l.initial.elements)

abbrev pub decreases-loop-done : goal.decreases-loop-done
decreases-loop-done l = l.count - l.done
