-- `padding_calls::check` meets its contract: the frame's checks by its extent, then those of the part and the report. Assumes nothing.
use Prim.Native.Nat.{ℕ, ◌^◌, ◌<◌}
use native.Mathlib.Omega.{arith}
use mathlib.Core.Path.{◌≡◌, sym, ◌∙◌}
use Rattle.std.specs.Prelude.{Ok}
use Rattle.refusal.specs.Checks.{Accepted, in_order}
use Rattle.refusal.proofs.CheckLaws.{given-ok, given-err, handed-on}
use Rattle.layout.specs.declared.CubeLayout.{CubeLayout}
use Rattle.layout.specs.Geometry.{cube_extent}
use Rattle.layout.specs.Rules.{layout_checks}
use Rattle.layout.specs.Calls.{extent_quantity}
use Rattle.layout.proofs.Valid.{valid}
use Rattle.layout.proofs.Extents.{extent-lt}
use Rattle.padding.proofs.CheckLaws.{mend-refused, mend-short, mend-framed}
use Rattle.padding_calls.proofs.check.Goals as goal

-- a cube whose extent is given keeps the rules, and that is its extent
framed : (q : CubeLayout) (bytes : ℕ) → extent_quantity q ≡ Ok bytes → (in_order (layout_checks q) ≡ Accepted) × (cube_extent q ≡ bytes)
unfolding extent_quantity
framed q bytes e = given-ok (in_order (layout_checks q)) (cube_extent q) bytes e

pub returns-in_err-extent : goal.returns-in_err-extent
unfolding extent_quantity
returns-in_err-extent c =
    let a = c.args in
    handed-on c.from_residual.result c.from_residual.ensures.1
    ∙ sym (mend-refused a.layout a.first a.length a.n a.positions a.olds _ (given-err (in_order (layout_checks a.layout)) (cube_extent a.layout) _ (sym c.extent.ensures ∙ c.in_err-extent.was)))

pub overflow_add-layout : goal.overflow_add-layout
overflow_add-layout c =
    let q = c.args.layout in
    let m = framed q c.in_ok-extent.extent (sym c.extent.ensures ∙ c.in_ok-extent.was) in
    let line : q.line < 2 ^ 32 = omega arith in
    let surface : q.surface < 2 ^ 32 = omega arith in
    record { fits = omega (arith, m.1, extent-lt q (valid q m.0) line surface) }

pub returns-then-length-layout : goal.returns-then-length-layout
returns-then-length-layout c =
    let a = c.args in
    let m = framed a.layout c.in_ok-extent.extent (sym c.extent.ensures ∙ c.in_ok-extent.was) in
    sym (mend-short a.layout a.first a.length a.n a.positions a.olds m.0 (omega (arith, c.if-length-layout.true, m.1)))

pub returns : goal.returns
returns c =
    let a = c.args in
    let m = framed a.layout c.in_ok-extent.extent (sym c.extent.ensures ∙ c.in_ok-extent.was) in
    c.check.ensures ∙ sym (mend-framed a.layout a.first a.length a.n a.positions a.olds m.0 (omega (arith, c.if-length-layout.false, m.1)))
