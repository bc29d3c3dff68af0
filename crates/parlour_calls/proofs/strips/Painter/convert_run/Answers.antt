-- `parlour_calls::strips::Painter::convert_run` meets its contract. The loop's invariant: the first i elements are converted, and those of them that were held
-- are counted; p is where component i begins. Assumes nothing.
use Prim.Native.Nat.{ℕ, ◌+◌, ◌*◌, ◌≤◌}
use native.Mathlib.Omega.{arith}
use mathlib.Core.Path.{refl, ap, ◌∙◌}
use native.Mathlib.Nat.{mul-le-mul_left}
use Rattle.columns.proofs.ReadLaws.{bytes-start, bytes-step}
use Rattle.parlour.specs.Components.{component_at}
use Rattle.quantize.specs.Quantize.{conversion}
use Rattle.parlour_calls.specs.Steps.{run_element}
use Rattle.parlour_calls.proofs.ComponentLaws.{value-back}
use Rattle.parlour_calls.proofs.CountLaws.{run_none, run_more, run-le}
use Rattle.parlour_calls.proofs.strips.Painter.convert_run.Goals as goal

pub loop-i-init : goal.loop-i-init
loop-i-init c =
    let a = c.args in
    let s = a.self.now in
    let step = s.image.channels * s.size in (
      bytes-start (run_element s.image.format s.conversion s.layout.precision a.pixels.now a.at step) a.from a.tile.now,
      run_none s.image.format s.conversion s.layout.precision a.pixels.now a.at step,
      omega arith,
    )

pub converted_at-c-requires : goal.converted_at-c-requires
converted_at-c-requires c =
    let s = c.args.self.now in
    let next : c.loop-i.i + 1 ≤ c.args.count = omega (arith, c.loop-i-test.true) in (
      refl,
      omega (arith, c.loop-i.invariant.2, c.requires.0, mul-le-mul_left {m = c.loop-i.i + 1} {n = c.args.count} (s.image.channels * s.size) next),
    )

pub overflow_add-held : goal.overflow_add-held
overflow_add-held c =
    let a = c.args in
    let s = a.self.now in
    let step = s.image.channels * s.size in
    let i = c.loop-i.i in
    let converted = c.converted_at-c.ensures ∙ ap (λ (p : ℕ). conversion (component_at s.image.format a.pixels.now p) s.conversion.offset s.conversion.scale s.conversion.shift s.layout.precision) c.loop-i.invariant.2 in
    omega (
      arith,
      run_more s.image.format s.conversion s.layout.precision a.pixels.now a.at step i c.loop-i.invariant.1 converted,
      run-le s.image.format s.conversion s.layout.precision a.pixels.now a.at step (i + 1),
      c.requires.1,
    )

pub overflow_add-p : goal.overflow_add-p
overflow_add-p c =
    let s = c.args.self.now in
    let next : c.loop-i.i + 1 ≤ c.args.count = omega (arith, c.loop-i-test.true) in
    omega (
      arith,
      c.loop-i.invariant.2,
      c.requires.0,
      mul-le-mul_left {m = c.loop-i.i + 1} {n = c.args.count} (s.image.channels * s.size) next,
      mul-le-mul_left {m = s.size} {n = 2} s.image.channels s.sized.2,
      s.sized.4,
    )

pub loop-i-preserved : goal.loop-i-preserved
unfolding run_element
loop-i-preserved c =
    let a = c.args in
    let s = a.self.now in
    let step = s.image.channels * s.size in
    let i = c.loop-i.i in
    let converted = c.converted_at-c.ensures ∙ ap (λ (p : ℕ). conversion (component_at s.image.format a.pixels.now p) s.conversion.offset s.conversion.scale s.conversion.shift s.layout.precision) c.loop-i.invariant.2 in (
      bytes-step (run_element s.image.format s.conversion s.layout.precision a.pixels.now a.at step) i a.from _ a.tile.now c.loop-i.invariant.0
          (value-back s.conversion s.layout.precision (component_at s.image.format a.pixels.now (a.at + step * i)) converted),
      run_more s.image.format s.conversion s.layout.precision a.pixels.now a.at step i c.loop-i.invariant.1 converted,
      omega (arith, c.loop-i.invariant.2),
    )
