-- `columns_calls::writing::write_rows` meets its contract. The loop's invariant: the first r rows are written. Assumes nothing.
use Prim.Native.Nat.{◌-◌, ◌≤◌}
use mathlib.Core.Path.{◌≡◌}
use lib.ListN.{length}
use Rattle.columns.specs.Columns.{rows_written, listed}
use Rattle.columns_calls.proofs.writing.write_rows.Given as goal

abbrev pub invariant-loop-r : goal.invariant-loop-r
invariant-loop-r l =
    (l.r ≤ l.rows) × (length l.tile ≡ 256) × (l.buffer ≡ rows_written l.place.size.bytes (listed l.elements) l.place.from l.place.plane l.r l.count l.place.at l.place.stride l.initial.buffer)

abbrev pub decreases-loop-r : goal.decreases-loop-r
decreases-loop-r l = l.rows - l.r
