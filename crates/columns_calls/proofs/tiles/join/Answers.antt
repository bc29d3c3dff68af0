-- `columns_calls::tiles::join` meets its contract: the units before unit j of column i are those of the columns. Assumes nothing.
use Prim.Native.Nat.{ℕ, ◌+◌, ◌-◌, ◌*◌, ◌<◌}
use native.Mathlib.Omega.{arith}
use native.Mathlib.Nat.{mul-le-mul_left, mul-le-mul_right}
use mathlib.Core.Path.{◌≡◌, ap, ◌∙◌}
use mathlib.Core.Logic.{inl, inr}
use lib.ListN.{length, length-set}
use lib.IntN.{ℤ}
use Rattle.columns.specs.Columns.{column_unit, listed}
use Rattle.columns.proofs.UnitLaws.{step_of, unit-at, held_more}
use Rattle.columns_calls.proofs.tiles.join.Goals as goal
use Rattle.columns_calls.proofs.tiles.join.Goals.{then-place-eq1, else-place-eq1}

pub unit-requires : goal.unit-requires
unit-requires g c =
    let a = c.args in
    let step_is : c.if-place-eq1.step ≡ (3 - a.place.size.bytes) * a.place.plane =
    elim c.if-place-eq1.branch [
      | then-place-eq1 w ↦ step_of a.place.size.bytes a.place.plane c.if-place-eq1.step a.place.size.one_or_two.0 a.place.size.one_or_two.1 (inl (w.if-place-eq1.true, w.step-is))
      | else-place-eq1 w ↦ step_of a.place.size.bytes a.place.plane c.if-place-eq1.step a.place.size.one_or_two.0 a.place.size.one_or_two.1 (inr (w.if-place-eq1.false, w.step-is))
    ] in
    let rows = mul-le-mul_right {m = c.loop-j.j + 1} {n = g.row.UNITS} c.if-place-eq1.step (omega arith) in
    let room : (k : ℕ) → k ≡ c.loop-j.j → a.place.from + c.loop-i.i + k * c.if-place-eq1.step + (3 - a.place.size.bytes) * a.place.plane < length a.elements.now + a.place.plane =
    λ k e. omega (arith, rows, step_is, ap (λ (n : ℕ). g.row.UNITS * n) step_is, ap (λ (n : ℕ). n * c.if-place-eq1.step) e) in
    room _ (omega arith)

pub loop-j-preserved : goal.loop-j-preserved
loop-j-preserved g c =
    let a = c.args in
    let step_is : c.if-place-eq1.step ≡ (3 - a.place.size.bytes) * a.place.plane =
    elim c.if-place-eq1.branch [
      | then-place-eq1 w ↦ step_of a.place.size.bytes a.place.plane c.if-place-eq1.step a.place.size.one_or_two.0 a.place.size.one_or_two.1 (inl (w.if-place-eq1.true, w.step-is))
      | else-place-eq1 w ↦ step_of a.place.size.bytes a.place.plane c.if-place-eq1.step a.place.size.one_or_two.0 a.place.size.one_or_two.1 (inr (w.if-place-eq1.false, w.step-is))
    ] in
    let src : ℕ → ℤ = listed a.elements.now in
    let i = c.loop-i.i in
    let j = c.loop-j.j in
    let room : g.row.UNITS * i + j < 256 = omega (arith, mul-le-mul_left {m = i + 1} {n = a.count} g.row.UNITS (omega arith)) in (
      simp length-set c.loop-j.invariant.0,
      held_more (λ (x : ℕ) (k : ℕ) (v : ℕ). v ≡ column_unit a.place.size.bytes src a.place.from a.place.plane x k) g.row.UNITS c.loop-j.tile i j c.unit.result (omega arith)
          (omega (arith, room, c.loop-j.invariant.0)) c.loop-j.invariant.1
          (c.unit.ensures ∙ ap (λ (n : ℕ). column_unit a.place.size.bytes src (a.place.from + i + n * c.if-place-eq1.step) a.place.plane 0 0) {y = j} (omega arith)
          ∙ unit-at a.place.size.bytes a.place.size.one_or_two.0 a.place.size.one_or_two.1 src a.place.from a.place.plane i j _ (omega (arith, ap (λ (n : ℕ). j * n) step_is))),
    )
