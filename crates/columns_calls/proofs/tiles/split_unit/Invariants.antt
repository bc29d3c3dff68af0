-- `columns_calls::tiles::split_unit` meets its contract. The loop's invariant: the unit of the first i columns is split. Assumes nothing.
use Prim.Native.Nat.{◌-◌}
use mathlib.Core.Path.{◌≡◌}
use Rattle.columns.specs.Columns.{columns, unit_row}
use Rattle.columns_calls.proofs.tiles.split_unit.Given as goal

abbrev pub invariant-loop-i : goal.invariant-loop-i
invariant-loop-i l = l.elements ≡ columns (unit_row l.size.bytes l.tile l.j) l.i (3 - l.size.bytes) l.from l.plane l.initial.elements
