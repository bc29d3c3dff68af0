-- `columns_calls::reading::read_rows` meets its contract. The loop's invariant: the first r rows are read. Assumes nothing.
use Prim.Native.Nat.{◌-◌, ◌≤◌}
use mathlib.Core.Path.{◌≡◌}
use lib.ListN.{length}
use Rattle.columns.specs.Columns.{rows_read}
use Rattle.columns_calls.proofs.reading.read_rows.Given as goal

abbrev pub invariant-loop-r : goal.invariant-loop-r
invariant-loop-r l =
    (l.r ≤ l.rows) × (length l.tile ≡ 256) × (l.elements ≡ rows_read l.place.size.bytes l.buffer l.place.at l.place.stride l.r l.count l.place.from l.place.plane l.initial.elements)

abbrev pub decreases-loop-r : goal.decreases-loop-r
decreases-loop-r l = l.rows - l.r
