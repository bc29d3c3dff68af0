-- `columns_calls::reading::read_row` meets its contract. The loop's invariant: the first i elements are read. Assumes nothing.
use mathlib.Core.Path.{◌≡◌}
use Rattle.columns.specs.Columns.{bytes_set, column_element}
use Rattle.columns_calls.proofs.reading.read_row.Given as goal

abbrev pub invariant-loop-i : goal.invariant-loop-i
invariant-loop-i l = l.elements ≡ bytes_set (column_element l.place.size.bytes l.buffer l.place.at l.place.stride 0) l.i l.place.from l.initial.elements
