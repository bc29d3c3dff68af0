-- `columns_calls::writing::write_strips` meets its contract. The loop's invariant: the first `done` columns are written. Assumes nothing.
use Prim.Native.Nat.{◌-◌, ◌≤◌}
use mathlib.Core.Path.{◌≡◌}
use Rattle.columns.specs.Columns.{rows_written, listed}
use Rattle.columns_calls.proofs.writing.write_strips.Given as goal

abbrev pub invariant-loop-done : goal.invariant-loop-done
invariant-loop-done l =
    (l.done ≤ l.count) × (l.buffer ≡ rows_written l.place.size.bytes (listed l.elements) l.place.from l.place.plane l.rows l.done l.place.at l.place.stride l.initial.buffer)

abbrev pub decreases-loop-done : goal.decreases-loop-done
decreases-loop-done l = l.count - l.done
