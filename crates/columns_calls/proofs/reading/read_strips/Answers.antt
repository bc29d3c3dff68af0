-- `columns_calls::reading::read_strips` meets its contract. The loop's invariant: the first `done` columns are read. Assumes nothing.
use Prim.Native.Nat.{ℕ, ◌+◌, ◌*◌, ◌≤◌}
use native.Mathlib.Omega.{arith}
use mathlib.Core.Path.{◌≡◌, ap, ◌∙◌}
use lib.Dec.{eqb}
use borrow.Author.Tests.{eqb-true}
use Rattle.general.proofs.TestLaws.{and-true}
use Rattle.columns.specs.Columns.{rows_read}
use Rattle.columns.proofs.RowLaws.{one-row, read_first, read-line}
use Rattle.columns.proofs.StripLaws.{strip-room, read_none, read-strip}
use Rattle.columns_calls.proofs.reading.read_strips.Goals as goal

pub returns-then-place-eq1 : goal.returns-then-place-eq1
returns-then-place-eq1 c =
    let a = c.args in
    let one : a.rows ≡ 1 = one-row a.rows a.place.size.bytes a.place.stride c.requires.sizes.0 a.place.size.one_or_two.0 c.requires.columns_in.0 (omega arith) in
    let byte : a.place.size.bytes ≡ 1 = omega (arith, ap (λ (r : ℕ). r * a.place.size.bytes) one) in
    read_first 1 a.buffer.now a.place.at 1 a.count a.place.from a.place.plane c.requires.sizes.3 a.elements.now c.read_row.ensures
    ∙ read-line a.buffer.now a.place.at a.count a.place.from a.place.plane 1 a.place.size.bytes a.rows a.place.stride a.elements.now byte one c.if-place-eq1.true

pub returns-then-place : goal.returns-then-place
returns-then-place c =
    let a = c.args in
    let t = and-true (eqb a.place.stride 2) (eqb a.place.size.bytes 2) c.if-place.true in
    let st = eqb-true a.place.stride 2 t.0 in
    let two = eqb-true a.place.size.bytes 2 t.1 in
    let one : a.rows ≡ 1 = one-row a.rows a.place.size.bytes a.place.stride c.requires.sizes.0 a.place.size.one_or_two.0 c.requires.columns_in.0 (omega (arith, st, two)) in
    read_first 2 a.buffer.now a.place.at 2 a.count a.place.from a.place.plane c.requires.sizes.3 a.elements.now c.read_row-then-place.ensures
    ∙ read-line a.buffer.now a.place.at a.count a.place.from a.place.plane 2 a.place.size.bytes a.rows a.place.stride a.elements.now two one st

pub loop-done-init : goal.loop-done-init
loop-done-init c =
    let a = c.args in
    (omega arith, read_none a.place.size.bytes a.buffer.now a.place.at a.place.stride a.rows a.place.from a.place.plane a.elements.now)

-- a strip of columns behind the first `done` has room
pub read_rows-requires-clause-columns_in : goal.read_rows-requires-clause-columns_in
read_rows-requires-clause-columns_in c =
    let a = c.args in
    let r = strip-room a.place.stride c.loop-done.done c.min-columns.result a.count (omega (arith, c.min-columns.ensures)) in
    omega (arith, r)

pub loop-done-preserved : goal.loop-done-preserved
loop-done-preserved c =
    let a = c.args in
    let fit : c.loop-done.done + c.min-columns.result ≤ a.count = omega (arith, c.min-columns.ensures) in (
      fit,
      read-strip a.place.size.bytes a.buffer.now a.place.at a.place.stride a.rows a.place.from a.place.plane c.loop-done.done c.min-columns.result a.elements.now
          (omega (arith, c.requires.sizes.3)) c.loop-done.invariant.1 c.read_rows.ensures,
    )

pub returns : goal.returns
returns c =
    let a = c.args in
    let all : c.loop-done.done ≡ a.count = omega arith in
    c.loop-done.invariant.1
    ∙ ap (λ (n : ℕ). rows_read a.place.size.bytes a.buffer.now a.place.at a.place.stride a.rows n a.place.from a.place.plane a.elements.now) all
