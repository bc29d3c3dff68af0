-- `columns_calls::writing::write_strips` meets its contract. The loop's invariant: the first `done` columns are written. Assumes nothing.
use Prim.Native.Nat.{ℕ, ◌*◌}
use native.Mathlib.Omega.{arith}
use mathlib.Core.Path.{◌≡◌, refl, ap, ◌∙◌}
use lib.Dec.{eqb}
use lib.IntN.{ℤ}
use lib.ListN.{length}
use borrow.Author.Tests.{eqb-true}
use Rattle.general.proofs.TestLaws.{and-true}
use Rattle.columns.specs.Columns.{rows_written, listed}
use Rattle.columns.proofs.RowLaws.{one-row, written_as, written_byte, written-line}
use Rattle.columns.proofs.StripLaws.{strip-room, written-length, written_none, written-strip}
use Rattle.columns_calls.proofs.writing.write_strips.Goals as goal

pub returns-then-place-eq1 : goal.returns-then-place-eq1
returns-then-place-eq1 c =
    let a = c.args in
    let one : a.rows ≡ 1 = one-row a.rows a.place.size.bytes a.place.stride c.requires.sizes.0 a.place.size.one_or_two.0 c.requires.columns_in.1 (omega arith) in
    let byte : a.place.size.bytes ≡ 1 = omega (arith, ap (λ (r : ℕ). r * a.place.size.bytes) one) in
    let src : ℕ → ℤ = listed a.elements.now in
    c.write_byte.ensures
    ∙ written_byte 1 src a.place.from a.place.plane a.count a.place.at 1 refl (omega arith) a.buffer.now
    ∙ written-line src a.place.from a.place.plane a.count a.place.at 1 a.place.size.bytes a.rows a.place.stride a.buffer.now byte one c.if-place-eq1.true

pub returns-then-place : goal.returns-then-place
returns-then-place c =
    let a = c.args in
    let t = and-true (eqb a.place.stride 2) (eqb a.place.size.bytes 2) c.if-place.true in
    let st = eqb-true a.place.stride 2 t.0 in
    let two = eqb-true a.place.size.bytes 2 t.1 in
    let one : a.rows ≡ 1 = one-row a.rows a.place.size.bytes a.place.stride c.requires.sizes.0 a.place.size.one_or_two.0 c.requires.columns_in.1 (omega (arith, st, two)) in
    let src : ℕ → ℤ = listed a.elements.now in
    c.write_unit.ensures
    ∙ written_as 2 src a.place.from a.place.plane a.count a.place.at 2 1 2 a.buffer.now refl
    ∙ written-line src a.place.from a.place.plane a.count a.place.at 2 a.place.size.bytes a.rows a.place.stride a.buffer.now two one st

pub loop-done-init : goal.loop-done-init
loop-done-init c =
    let a = c.args in
    (omega arith, written_none a.place.size.bytes (listed a.elements.now) a.place.from a.place.plane a.rows a.place.at a.place.stride c.requires.columns_in.1 a.buffer.now)

-- a strip of columns behind the first `done` has room
pub write_rows-requires-clause-columns_in : goal.write_rows-requires-clause-columns_in
write_rows-requires-clause-columns_in c =
    let a = c.args in
    let long : length c.loop-done.buffer ≡ length a.buffer.now =
    ap length c.loop-done.invariant.1 ∙ written-length a.place.size.bytes (listed a.elements.now) a.place.from a.place.plane a.rows a.place.at a.place.stride c.loop-done.done a.buffer.now in
    let r = strip-room a.place.stride c.loop-done.done c.min-columns.result a.count (omega (arith, c.min-columns.ensures)) in
    (c.requires.columns_in.0, c.requires.columns_in.1, omega (arith, r, long))

pub loop-done-preserved : goal.loop-done-preserved
loop-done-preserved c =
    let a = c.args in (
      omega (arith, c.min-columns.ensures),
      written-strip a.place.size.bytes (listed a.elements.now) a.place.from a.place.plane a.rows a.place.at a.place.stride c.requires.columns_in.1 c.loop-done.done c.min-columns.result
          _ a.buffer.now (omega arith) c.loop-done.invariant.1 c.write_rows.ensures,
    )

pub returns : goal.returns
returns c =
    let a = c.args in
    let all : c.loop-done.done ≡ a.count = omega arith in
    c.loop-done.invariant.1
    ∙ ap (λ (n : ℕ). rows_written a.place.size.bytes (listed a.elements.now) a.place.from a.place.plane a.rows n a.place.at a.place.stride a.buffer.now) all
