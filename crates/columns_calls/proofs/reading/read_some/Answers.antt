-- `columns_calls::reading::read_some` meets its contract: a band of rows by a tile, the rows of unit after unit, or one row. Assumes nothing.
use Prim.Native.Nat.{◌-◌, ◌*◌}
use native.Mathlib.Omega.{arith}
use mathlib.Core.Path.{◌∙◌}
use lib.IntN.{pos}
use Rattle.columns.specs.Columns.{column_element, tile_element, rows_read}
use Rattle.columns.proofs.ColumnLaws.{columns-ext}
use Rattle.columns.proofs.ReadLaws.{tile-elements}
use Rattle.columns.proofs.RowLaws.{rows-le, band-planes, read_first}
use Rattle.columns_calls.proofs.reading.read_some.Goals as goal

-- the rows of a tile are among the rows
pub split_band-requires-clause-rows_in : goal.split_band-requires-clause-rows_in
split_band-requires-clause-rows_in c =
    let a = c.args in
    let band = band-planes a.place.size.bytes a.place.size.one_or_two.0 a.place.size.one_or_two.1 a.place.plane in
    omega (arith, rows-le (4 * (3 - a.place.size.bytes)) a.rows a.place.plane c.if-unit-rows.true, band)

pub returns-then-unit-rows-clause-read : goal.returns-then-unit-rows-clause-read
unfolding rows_read
returns-then-unit-rows-clause-read c =
    let a = c.args in
    let tile = c.read_tile.new.tile in
    c.split_band.ensures
    ∙ columns-ext (pos 0) (tile_element a.place.size.bytes tile) (column_element a.place.size.bytes a.buffer.now a.place.at a.place.stride) a.count (4 * (3 - a.place.size.bytes)) a.place.from a.place.plane a.elements.now c.requires.sizes.3
    (tile-elements a.place.size.bytes a.place.size.one_or_two.0 a.place.size.one_or_two.1 a.buffer.now a.place.at a.place.stride a.count tile c.read_tile.ensures.gathered)

pub returns-clause-read : goal.returns-clause-read
returns-clause-read c =
    let a = c.args in
    read_first a.place.size.bytes a.buffer.now a.place.at a.place.stride a.count a.place.from a.place.plane c.requires.sizes.3 a.elements.now c.read_row.ensures
