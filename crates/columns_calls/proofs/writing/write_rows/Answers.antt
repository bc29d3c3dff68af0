-- `columns_calls::writing::write_rows` meets its contract. The loop's invariant: the first r rows are written. Assumes nothing.
use Prim.Native.Nat.{◌-◌}
use native.Mathlib.Omega.{arith}
use mathlib.Core.Path.{refl, ◌∙◌}
use Rattle.columns.specs.Columns.{column_byte, listed}
use Rattle.columns.proofs.ColumnLaws.{columns-empty}
use Rattle.columns.proofs.RowLaws.{rows_left, rows-le, written-rows, written_as}
use Rattle.columns_calls.proofs.writing.write_rows.Goals as goal

pub loop-r-init : goal.loop-r-init
loop-r-init c =
    let a = c.args in (
      omega arith,
      refl,
      columns-empty 0 (column_byte a.place.size.bytes (listed a.elements.now) a.place.from a.place.plane) a.count a.place.at a.place.stride a.buffer.now
          ∙ written_as a.place.size.bytes (listed a.elements.now) a.place.from a.place.plane a.count a.place.at a.place.stride 0 0 a.buffer.now (omega arith),
    )

pub write_some-k-requires-clause-rows_in : goal.write_some-k-requires-clause-rows_in
write_some-k-requires-clause-rows_in c =
    let a = c.args in
    let left = rows_left c.loop-r.r a.rows a.place.plane c.loop-r.invariant.0 in
    omega (arith, left)

pub loop-r-preserved : goal.loop-r-preserved
loop-r-preserved c =
    let a = c.args in
    let left = rows_left c.loop-r.r a.rows a.place.size.bytes c.loop-r.invariant.0 in (
      omega arith,
      c.write_some-k.ensures.kept,
      written-rows a.place.size.bytes (listed a.elements.now) a.place.from a.place.plane a.count a.place.at a.place.stride a.place.size.one_or_two.0 c.loop-r.r c.write_some-k.result a.buffer.now
          (omega (arith, c.requires.columns_in.1, left, rows-le c.write_some-k.result (a.rows - c.loop-r.r) a.place.size.bytes c.write_some-k.ensures.some.1)) c.loop-r.invariant.2
          c.write_some-k.ensures.written,
    )
