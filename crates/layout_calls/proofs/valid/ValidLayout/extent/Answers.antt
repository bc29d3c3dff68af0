-- `layout_calls::valid::ValidLayout::extent` meets its contract: its sum is the definition's, below 2 ^ 46. Assumes nothing.
use Prim.Native.Nat.{ℕ, ◌+◌, ◌-◌, ◌*◌, ◌^◌, ◌<◌}
use native.Mathlib.Omega.{arith}
use mathlib.Core.Path.{◌≡◌, ap, subst⁻¹}
use Rattle.refusal.specs.Checks.{in_order, Accepted}
use Rattle.layout.specs.declared.CubeLayout.{CubeLayout}
use Rattle.layout.specs.Geometry.{surfaces, cube_extent}
use Rattle.layout.specs.Rules.{layout_checks}
use Rattle.layout.proofs.Valid.{valid}
use Rattle.layout.proofs.Extents.{surfaces-pos, extent-lt}
use Rattle.layout_calls.proofs.valid.ValidLayout.extent.Goals as goal

-- the whole sum, in terms of the surfaces counted
parts : (q : CubeLayout) (n : ℕ) → in_order (layout_checks q) ≡ Accepted → n ≡ surfaces q → q.line < 2 ^ 32 → q.surface < 2 ^ 32
    → (n - 1) * q.surface + (q.height - 1) * q.line + 32 * q.width < 2 ^ 46
unfolding cube_extent
parts q n ok e hl hs = subst⁻¹ (λ (n : ℕ). (n - 1) * q.surface + (q.height - 1) * q.line + 32 * q.width < 2 ^ 46) e (extent-lt q (valid q ok) hl hs)

pub overflow_sub-lines : goal.overflow_sub-lines
overflow_sub-lines c = (valid c.args.self.layout c.args.self.accepted).height_pos

pub overflow_sub-result : goal.overflow_sub-result
overflow_sub-result c =
    subst⁻¹ (λ (n : ℕ). 0 < n) c.surfaces-surfaces.ensures (surfaces-pos c.args.self.layout (valid c.args.self.layout c.args.self.accepted))

pub overflow_add-result : goal.overflow_add-result
overflow_add-result c = omega (arith, parts c.args.self.layout c.surfaces-surfaces.result c.args.self.accepted c.surfaces-surfaces.ensures (omega arith) (omega arith))

pub overflow_add-result-2 : goal.overflow_add-result-2
overflow_add-result-2 c = omega (arith, parts c.args.self.layout c.surfaces-surfaces.result c.args.self.accepted c.surfaces-surfaces.ensures (omega arith) (omega arith))

pub returns : goal.returns
unfolding cube_extent
returns c =
    let q = c.args.self.layout in
    ap (λ (n : ℕ). (n - 1) * q.surface + (q.height - 1) * q.line + 32 * q.width) c.surfaces-surfaces.ensures
