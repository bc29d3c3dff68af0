-- `columns_calls::tiles::write_tile` meets its contract: the units of the first i columns are written, then the first j of column i. Assumes nothing.
use Prim.Native.Nat.{ℕ, ◌+◌, ◌*◌}
use native.Mathlib.Omega.{arith}
use mathlib.Core.Path.{◌≡◌, ap, ◌∙◌}
use Rattle.columns.specs.Columns.{bytes_set, tile_byte}
use Rattle.columns.proofs.ColumnLaws.{columns-none}
use Rattle.columns.proofs.UnitLaws.{columns-step, tile-unit-bytes}
use Rattle.columns.proofs.ReadLaws.{bytes-start}
use Rattle.columns_calls.proofs.tiles.write_tile.Goals as goal

pub loop-i-init : goal.loop-i-init
loop-i-init g c = let a = c.args in columns-none 0 (tile_byte g.row.UNITS a.tile.now) (2 * g.row.UNITS) a.place.at a.place.stride a.buffer.now c.requires.1

pub loop-j-init : goal.loop-j-init
loop-j-init g c = let a = c.args in bytes-start (tile_byte g.row.UNITS a.tile.now c.loop-i.i) (a.place.at + a.place.stride * c.loop-i.i) c.loop-i.buffer

pub loop-j-preserved : goal.loop-j-preserved
loop-j-preserved g c =
    let a = c.args in
    let p = a.place.at + a.place.stride * c.loop-i.i in
    tile-unit-bytes g.row.UNITS a.tile.now c.loop-i.i c.loop-j.j _ p _ c.loop-i.buffer c.loop-j.invariant c.put_unit.ensures (grind arith) (omega arith) (omega arith)

pub loop-i-preserved : goal.loop-i-preserved
loop-i-preserved g c =
    let a = c.args in
    let i = c.loop-i.i in
    let stop : c.loop-j.j ≡ g.row.UNITS = omega arith in
    columns-step 0 (tile_byte g.row.UNITS a.tile.now) (2 * g.row.UNITS) i a.place.at a.place.stride a.buffer.now c.requires.1 c.loop-i.invariant
    (c.loop-j.invariant ∙ ap (λ (n : ℕ). bytes_set (tile_byte g.row.UNITS a.tile.now i) (2 * n) (a.place.at + a.place.stride * i) c.loop-i.buffer) stop)
