-- `columns_calls::tiles::split_tile` meets its contract. The loop's invariant: the rows of the first j units are read. Assumes nothing.
use Prim.Native.Nat.{◌-◌, ◌*◌}
use mathlib.Core.Path.{◌≡◌}
use Rattle.columns.specs.Columns.{columns, tile_element}
use Rattle.columns_calls.proofs.tiles.split_tile.Given as goal

abbrev pub invariant-loop-j : goal.invariant-loop-j
invariant-loop-j l = l.elements ≡ columns (tile_element l.size.bytes l.tile) l.count (l.j * (3 - l.size.bytes)) l.from l.plane l.initial.elements
