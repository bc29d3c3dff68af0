-- `columns_calls::reading::read_rows` meets its contract. The loop's invariant: the first r rows are read. Assumes nothing.
use native.Mathlib.Omega.{arith}
use mathlib.Core.Path.{◌≡◌, refl, ap, ◌∙◌}
use lib.ListN.{length}
use Rattle.columns.proofs.RowLaws.{rows_left, read-rows, read-start}
use Rattle.columns.proofs.StripLaws.{read_length}
use Rattle.columns_calls.proofs.reading.read_rows.Goals as goal

pub loop-r-init : goal.loop-r-init
loop-r-init c =
    let a = c.args in
    (omega arith, refl, read-start a.place.size.bytes a.buffer.now a.place.at a.place.stride a.count a.place.from a.place.plane c.requires.sizes.3 a.elements.now)

pub read_some-got-requires-clause-rows_in : goal.read_some-got-requires-clause-rows_in
read_some-got-requires-clause-rows_in c =
    let a = c.args in
    let long : length c.loop-r.elements ≡ length a.elements.now =
    ap length c.loop-r.invariant.2 ∙ read_length a.place.size.bytes a.buffer.now a.place.at a.place.stride c.loop-r.r a.place.from a.place.plane a.count a.elements.now in
    let left = rows_left c.loop-r.r a.rows a.place.plane c.loop-r.invariant.0 in
    omega (arith, left, long)

pub loop-r-preserved : goal.loop-r-preserved
loop-r-preserved c =
    let a = c.args in (
      omega arith,
      c.read_some-got.ensures.kept,
      read-rows a.place.size.bytes a.buffer.now a.place.at a.place.stride a.count a.place.from a.place.plane c.requires.sizes.3 c.loop-r.r c.read_some-got.result a.elements.now c.loop-r.invariant.2
          c.read_some-got.ensures.read,
    )
