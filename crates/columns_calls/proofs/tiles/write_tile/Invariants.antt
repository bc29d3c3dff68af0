-- `columns_calls::tiles::write_tile` meets its contract: the units of the first i columns are written, then the first j of column i. Assumes nothing.
use Prim.Native.Nat.{◌+◌, ◌*◌}
use mathlib.Core.Path.{◌≡◌}
use Rattle.columns.specs.Columns.{columns, tile_byte, bytes_set}
use Rattle.columns_calls.proofs.tiles.write_tile.Given as goal

abbrev pub invariant-loop-i : goal.invariant-loop-i
invariant-loop-i g l = l.buffer ≡ columns (tile_byte g.row.UNITS l.tile) (2 * g.row.UNITS) l.i l.place.at l.place.stride l.initial.buffer

abbrev pub invariant-loop-j : goal.invariant-loop-j
invariant-loop-j g l = l.buffer ≡ bytes_set (tile_byte g.row.UNITS l.tile l.i) (2 * l.j) (l.place.at + l.place.stride * l.i) l.initial.buffer
