-- `columns_calls::tiles::join` meets its contract: the units before unit j of column i are those of the columns. Assumes nothing.
use Prim.Native.Nat.{ℕ, ◌+◌, ◌*◌, ◌/◌, ◌%◌, ◌<◌}
use mathlib.Core.Path.{◌≡◌}
use lib.ListN.{length, get_or}
use Rattle.columns.specs.Columns.{column_unit, listed}
use Rattle.columns_calls.proofs.tiles.join.Given as goal

abbrev pub invariant-loop-i : goal.invariant-loop-i
invariant-loop-i g l =
    (length l.tile ≡ 256)
    × ((m : ℕ) → m < g.row.UNITS * l.i → get_or l.tile m 0 ≡ column_unit l.place.size.bytes (listed l.elements) l.place.from l.place.plane (m / g.row.UNITS) (m % g.row.UNITS))

abbrev pub invariant-loop-j : goal.invariant-loop-j
invariant-loop-j g l =
    (length l.tile ≡ 256)
    × ((m : ℕ) → m < g.row.UNITS * l.i + l.j → get_or l.tile m 0 ≡ column_unit l.place.size.bytes (listed l.elements) l.place.from l.place.plane (m / g.row.UNITS) (m % g.row.UNITS))
