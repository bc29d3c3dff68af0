-- `columns_calls::writing::write_unit` meets its contract. The loop's invariant: the unit of the first i columns is written. Assumes nothing.
use mathlib.Core.Path.{◌≡◌}
use Rattle.columns.specs.Columns.{columns, column_byte, listed}
use Rattle.columns_calls.proofs.writing.write_unit.Given as goal

abbrev pub invariant-loop-i : goal.invariant-loop-i
invariant-loop-i l = l.buffer ≡ columns (column_byte l.place.size.bytes (listed l.elements) l.place.from l.place.plane) 2 l.i l.place.at l.place.stride l.initial.buffer
