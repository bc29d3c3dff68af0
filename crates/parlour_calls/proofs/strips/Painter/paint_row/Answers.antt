-- `parlour_calls::strips::Painter::paint_row` meets its contract. The loop's invariant: the first x columns of the row, or all where these are fewer, are painted, and the components of them
-- that were held are counted. Assumes nothing.
use Prim.Native.Nat.{ℕ, ◌+◌, ◌≤◌, min}
use native.Mathlib.Omega.{arith}
use native.Mathlib.Nat.{mul-le-mul_right}
use mathlib.Core.Path.{◌≡◌, sym, ap, ◌∙◌}
use Rattle.parlour.specs.Counts.{total, pixel_held, row_held}
use Rattle.parlour.proofs.CountLaws.{total-none, total-le, pixel_held-le}
use Rattle.parlour_calls.specs.Steps.{strip_of, part_painted}
use Rattle.parlour_calls.proofs.CountLaws.{row-more, strip-le}
use Rattle.parlour_calls.proofs.StripLaws.{ready, row-none, row-next, row-end}
use Rattle.parlour_calls.proofs.strips.Painter.paint_row.Goals as goal

pub loop-x-init : goal.loop-x-init
loop-x-init c =
    let a = c.args in
    let s = a.self.now in
    let pixel : ℕ → ℕ = λ (i : ℕ). pixel_held s.image a.pixels.now s.conversion s.layout.precision i a.y in
    let none : min 0 s.image.width ≡ 0 = omega arith in (
      row-none s.layout s.target s.image a.pixels.now s.conversion a.buffer.now a.y ∙ ap (λ (n : ℕ). part_painted s.layout s.target (strip_of s.target 0 a.y n) s.image a.pixels.now s.conversion a.buffer.now) (sym none),
      total-none pixel ∙ ap (total pixel) (sym none),
    )

pub overflow_add-held : goal.overflow_add-held
overflow_add-held c =
    let a = c.args in
    let s = a.self.now in
    let x = c.loop-x.x in
    let count = c.min-count.result in
    let t = ready _ _ _ _ _ _ c.requires.paintable in
    let before : min x s.image.width ≡ x = omega arith in
    let fit : x + count ≤ s.image.width = omega (arith, c.loop-x-test.true, c.min-count.ensures) in
    omega (
      arith,
      c.loop-x.invariant.1,
      ap (total (λ (i : ℕ). pixel_held s.image a.pixels.now s.conversion s.layout.precision i a.y)) before,
      c.paint_strip-held.ensures.counted,
      total-le (λ (i : ℕ). pixel_held s.image a.pixels.now s.conversion s.layout.precision i a.y) s.image.channels x (λ i h. pixel_held-le s.image a.pixels.now s.conversion s.layout.precision i a.y),
      strip-le s.image a.pixels.now s.conversion s.layout.precision x a.y count,
      mul-le-mul_right {m = s.image.channels} {n = 4} x s.sized.4,
      mul-le-mul_right {m = s.image.channels} {n = 4} count s.sized.4,
      fit,
      t.setting.width_le,
    )

pub loop-x-preserved : goal.loop-x-preserved
loop-x-preserved c =
    let a = c.args in
    let s = a.self.now in
    let x = c.loop-x.x in
    let count = c.min-count.result in (
      row-next s.layout s.target s.image a.pixels.now s.conversion a.buffer.now x a.y count s.image.width c.loop-x-test.true c.min-count.ensures c.loop-x.invariant.0
          c.paint_strip-held.ensures.painted,
      row-more s.image a.pixels.now s.conversion s.layout.precision x a.y count s.image.width c.loop-x-test.true c.min-count.ensures c.loop-x.invariant.1 c.paint_strip-held.ensures.counted,
    )

-- behind the last strip
pub returns-clause-painted : goal.returns-clause-painted
returns-clause-painted c =
    let a = c.args in
    let s = a.self.now in
    c.loop-x.invariant.0
    ∙ row-end s.layout s.target s.image a.pixels.now s.conversion a.buffer.now c.loop-x.x a.y s.image.width c.loop-x-test.false c.requires.paintable.columns

pub returns-clause-counted : goal.returns-clause-counted
unfolding row_held
returns-clause-counted c =
    let a = c.args in
    let s = a.self.now in
    let all : min c.loop-x.x s.image.width ≡ s.image.width = omega (arith, c.loop-x-test.false) in
    c.loop-x.invariant.1 ∙ ap (total (λ (i : ℕ). pixel_held s.image a.pixels.now s.conversion s.layout.precision i a.y)) all

pub returns-2-clause-painted : goal.returns-2-clause-painted
returns-2-clause-painted c =
    let a = c.args in
    let s = a.self.now in
    let x = c.loop-x.x in
    let count = c.min-count.result in
    let t = ready _ _ _ _ _ _ c.requires.paintable in
    row-next s.layout s.target s.image a.pixels.now s.conversion a.buffer.now x a.y count s.image.width c.loop-x-test.true c.min-count.ensures c.loop-x.invariant.0
    c.paint_strip-held.ensures.painted
    ∙ row-end s.layout s.target s.image a.pixels.now s.conversion a.buffer.now (x + 256) a.y s.image.width (omega (arith, t.setting.width_le)) c.requires.paintable.columns

pub returns-2-clause-counted : goal.returns-2-clause-counted
unfolding row_held
returns-2-clause-counted c =
    let a = c.args in
    let s = a.self.now in
    let x = c.loop-x.x in
    let count = c.min-count.result in
    let t = ready _ _ _ _ _ _ c.requires.paintable in
    let all : min (x + 256) s.image.width ≡ s.image.width = omega (arith, t.setting.width_le) in
    row-more s.image a.pixels.now s.conversion s.layout.precision x a.y count s.image.width c.loop-x-test.true c.min-count.ensures c.loop-x.invariant.1 c.paint_strip-held.ensures.counted
    ∙ ap (total (λ (i : ℕ). pixel_held s.image a.pixels.now s.conversion s.layout.precision i a.y)) all
