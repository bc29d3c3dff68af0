-- `columns_calls::writing::write_byte` meets its contract. The loop's invariant: the byte of the first i columns is written. Assumes nothing.
use mathlib.Core.Path.{◌≡◌}
use Rattle.columns.specs.Columns.{columns, column_byte, listed}
use Rattle.columns_calls.proofs.writing.write_byte.Given as goal

abbrev pub invariant-loop-i : goal.invariant-loop-i
invariant-loop-i l = l.buffer ≡ columns (column_byte 1 (listed l.elements) l.place.from 0) 1 l.i l.place.at l.place.stride l.initial.buffer
