-- `columns_calls::tiles::read_tile` meets its contract: the units before unit j of column i are those of the columns. Assumes nothing.
use Prim.Native.Nat.{ℕ, ◌+◌, ◌*◌, ◌/◌, ◌%◌, ◌<◌}
use mathlib.Core.Path.{◌≡◌}
use lib.ListN.{length, get_or}
use Rattle.columns.specs.Columns.{Unit_is}
use Rattle.columns_calls.proofs.tiles.read_tile.Given as goal

abbrev pub invariant-loop-i : goal.invariant-loop-i
invariant-loop-i l =
    (length l.tile ≡ 256) × ((m : ℕ) → m < 4 * l.i → Unit_is l.buffer (l.place.at + l.place.stride * (m / 4) + 2 * (m % 4)) (get_or l.tile m 0))

abbrev pub invariant-loop-j : goal.invariant-loop-j
invariant-loop-j l =
    (length l.tile ≡ 256) × ((m : ℕ) → m < 4 * l.i + l.j → Unit_is l.buffer (l.place.at + l.place.stride * (m / 4) + 2 * (m % 4)) (get_or l.tile m 0))
