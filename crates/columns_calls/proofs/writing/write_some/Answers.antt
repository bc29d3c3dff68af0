-- `columns_calls::writing::write_some` meets its contract: a band of rows by a tile, or half a band, or a unit, or the last row of one-byte elements. Assumes nothing.
use Prim.Native.Nat.{ℕ, ◌-◌, ◌*◌, ◌≤◌}
use native.Mathlib.Omega.{arith}
use mathlib.Core.Path.{◌≡◌, ◌∙◌}
use lib.IntN.{ℤ}
use Rattle.columns.specs.Columns.{column_byte, tile_byte, listed}
use Rattle.columns.proofs.ColumnLaws.{columns-ext}
use Rattle.columns.proofs.UnitLaws.{pair-two, tile-column}
use Rattle.columns.proofs.RowLaws.{rows-le, half-bytes, band-bytes, band-planes, written_as, written_byte}
use Rattle.columns_calls.proofs.writing.write_some.Goals as goal

pub join-requires-clause-rows_in : goal.join-requires-clause-rows_in
join-requires-clause-rows_in c =
    let a = c.args in
    omega (arith, rows-le (4 * (3 - a.place.size.bytes)) a.rows a.place.plane c.if-unit-rows.true, band-planes a.place.size.bytes a.place.size.one_or_two.0 a.place.size.one_or_two.1 a.place.plane)

pub returns-then-unit-rows-clause-written : goal.returns-then-unit-rows-clause-written
returns-then-unit-rows-clause-written c =
    let a = c.args in
    let k = 4 * (3 - a.place.size.bytes) in
    let bytes : 8 ≤ a.rows * a.place.size.bytes = omega (arith, rows-le k a.rows a.place.size.bytes c.if-unit-rows.true, band-bytes a.place.size.bytes a.place.size.one_or_two.0 a.place.size.one_or_two.1) in
    let src : ℕ → ℤ = listed a.elements.now in
    let tile = c.join.new.tile in
    c.write_tile.ensures
    ∙ columns-ext 0 (tile_byte 4 tile) (column_byte a.place.size.bytes src a.place.from a.place.plane) 8 a.count a.place.at a.place.stride a.buffer.now (omega (arith, bytes, c.requires.columns_in.0))
    (tile-column 4 a.place.size.bytes src a.place.from a.place.plane a.count tile c.join.ensures.joined)
    ∙ written_as a.place.size.bytes src a.place.from a.place.plane a.count a.place.at a.place.stride k 8 a.buffer.now (band-bytes a.place.size.bytes a.place.size.one_or_two.0 a.place.size.one_or_two.1)

pub returns-then-unit-rows-2-clause-written : goal.returns-then-unit-rows-2-clause-written
returns-then-unit-rows-2-clause-written c =
    let a = c.args in
    let k = 2 * (3 - a.place.size.bytes) in
    let bytes : 4 ≤ a.rows * a.place.size.bytes = omega (arith, rows-le k a.rows a.place.size.bytes c.if-unit-rows-2.true, half-bytes a.place.size.bytes a.place.size.one_or_two.0 a.place.size.one_or_two.1) in
    let src : ℕ → ℤ = listed a.elements.now in
    let tile = c.join-then-unit-rows-2.new.tile in
    c.write_tile-then-unit-rows-2.ensures
    ∙ columns-ext 0 (tile_byte 2 tile) (column_byte a.place.size.bytes src a.place.from a.place.plane) 4 a.count a.place.at a.place.stride a.buffer.now (omega (arith, bytes, c.requires.columns_in.0))
    (tile-column 2 a.place.size.bytes src a.place.from a.place.plane a.count tile c.join-then-unit-rows-2.ensures.joined)
    ∙ written_as a.place.size.bytes src a.place.from a.place.plane a.count a.place.at a.place.stride k 4 a.buffer.now (half-bytes a.place.size.bytes a.place.size.one_or_two.0 a.place.size.one_or_two.1)

pub returns-then-unit-rows-3-clause-written : goal.returns-then-unit-rows-3-clause-written
returns-then-unit-rows-3-clause-written c =
    let a = c.args in
    c.write_unit.ensures
    ∙ written_as a.place.size.bytes (listed a.elements.now) a.place.from a.place.plane a.count a.place.at a.place.stride (3 - a.place.size.bytes) 2 a.buffer.now (pair-two a.place.size.bytes a.place.size.one_or_two.0 a.place.size.one_or_two.1)

pub returns-clause-written : goal.returns-clause-written
returns-clause-written c =
    let a = c.args in
    let one : a.place.size.bytes ≡ 1 = omega arith in
    let some : 1 ≤ a.rows * a.place.size.bytes = omega (arith, rows-le 1 a.rows a.place.size.bytes c.requires.sizes.0, one) in
    c.write_byte.ensures ∙ written_byte a.place.size.bytes (listed a.elements.now) a.place.from a.place.plane a.count a.place.at a.place.stride one (omega (arith, c.requires.columns_in.0, some)) a.buffer.now
