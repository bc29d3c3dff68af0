-- `parlour_calls::strips::paint_rows` meets its contract. The loop's invariant: the first y rows of the box are painted, and the components of them that were
-- held are counted. Assumes nothing.
use Prim.Native.Nat.{ℕ, ◌/◌, ◌≤◌}
use native.Mathlib.Omega.{arith}
use native.Mathlib.Nat.{mul-le-mul}
use mathlib.Core.Path.{◌≡◌, ap, subst⁻¹, ◌∙◌}
use Rattle.pixels.specs.declared.PixelFormat.{PixelFormat}
use Rattle.pixels.specs.Formats.{format_of}
use Rattle.parlour.specs.Components.{component_bytes}
use Rattle.parlour.specs.Counts.{total, row_held, held_count}
use Rattle.parlour.proofs.CountLaws.{total-none, total-more, total-le, row_held-le}
use Rattle.parlour_calls.proofs.StripLaws.{ready, rows_none, rows_more}
use Rattle.parlour_calls.proofs.strips.paint_rows.Goals as goal

-- a component's bytes, of the format that was looked up
bytes_of : {f : PixelFormat} (code : ℕ) → f ≡ format_of code → f.bytes / f.channels ≡ component_bytes code
unfolding component_bytes
bytes_of code e = ap (λ (f : PixelFormat). f.bytes / f.channels) e

pub nonzero_div-painter : goal.nonzero_div-painter
nonzero_div-painter c =
    let t = ready _ _ _ _ _ _ c.requires in
    omega (arith, ap (λ (f : PixelFormat). f.channels) c.format-format.ensures, t.some)

pub levels-requires : goal.levels-requires
levels-requires c = (ready _ _ _ _ _ _ c.requires).picture.conversion

pub invariant_of-painter : goal.invariant_of-painter
invariant_of-painter c =
    let t = ready _ _ _ _ _ _ c.requires in
    let e = bytes_of c.args.image.format c.format-format.ensures in
    record {
      sized = (e, subst⁻¹ (λ (n : ℕ). 1 ≤ n) e t.components.some, subst⁻¹ (λ (n : ℕ). n ≤ 2) e t.components.two, omega (arith, t.some, t.setting.channels_is), omega (arith, t.components.four, t.setting.channels_is));
      converts = t.picture.conversion;
      told = c.levels.ensures;
    }

pub loop-y-init : goal.loop-y-init
loop-y-init c =
    let a = c.args in
    (rows_none a.layout a.target a.image a.pixels.now a.conversion a.buffer.now, total-none (row_held a.image a.pixels.now a.conversion a.layout.precision))

pub overflow_add-held : goal.overflow_add-held
overflow_add-held c =
    let a = c.args in
    let y = c.loop-y.y in
    let t = ready _ _ _ _ _ _ c.requires in
    let rows : ℕ → ℕ = row_held a.image a.pixels.now a.conversion a.layout.precision in
    let four : a.image.channels ≤ 4 = omega (arith, t.setting.channels_is, t.components.four) in
    let le : (n : ℕ) → rows n ≤ 32768 =
    λ n.
    omega (
      arith,
      row_held-le a.image a.pixels.now a.conversion a.layout.precision n,
      mul-le-mul {n₁ = a.image.channels} {m₁ = a.image.width} {n₂ = 4} {m₂ = 8192} four t.setting.width_le,
    ) in
    omega (
      arith,
      c.loop-y.invariant.1,
      c.paint_row-held.ensures.counted,
      total-le rows 32768 y (λ n h. le n),
      le y,
      c.loop-y-test.true,
      t.setting.height_le,
    )

pub loop-y-preserved : goal.loop-y-preserved
loop-y-preserved c =
    let a = c.args in
    let y = c.loop-y.y in (
      rows_more a.layout a.target a.image a.pixels.now a.conversion a.buffer.now y c.loop-y.invariant.0 c.paint_row-held.ensures.painted,
      omega (arith, c.loop-y.invariant.1, c.paint_row-held.ensures.counted, total-more (row_held a.image a.pixels.now a.conversion a.layout.precision) y),
    )

pub returns-clause-counted : goal.returns-clause-counted
unfolding held_count
returns-clause-counted c =
    let a = c.args in
    let all : c.loop-y.y ≡ a.image.height = omega arith in
    c.loop-y.invariant.1 ∙ ap (total (row_held a.image a.pixels.now a.conversion a.layout.precision)) all
