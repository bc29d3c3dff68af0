-- `layout_calls::valid::ValidLayout::surfaces` meets its contract: its sum is the definition's, at most 8192 * 2 + 31. Assumes nothing.
use Prim.Native.Nat.{ℕ, ◌+◌, ◌*◌, ◌/◌, ◌≤◌}
use native.Mathlib.Nat.{mul-le-mul}
use native.Mathlib.Omega.{arith}
use mathlib.Core.Path.{ap, subst⁻¹}
use Rattle.elements.proofs.ByteLaws.{element_bytes-le}
use Rattle.layout.specs.Geometry.{surfaces}
use Rattle.layout.proofs.Valid.{valid}
use Rattle.layout_calls.proofs.valid.ValidLayout.surfaces.Goals as goal

bytes_le : (c : goal.After-struct_known-1) → c.args.self.layout.channels * c.element_bytes.result ≤ 16384
bytes_le c =
    let q = c.args.self.layout in
    mul-le-mul {n₂ = 8192} {m₂ = 2} (valid q c.args.self.accepted).channels_le
    (subst⁻¹ (λ (n : ℕ). n ≤ 2) c.element_bytes.ensures (element_bytes-le q.precision))

pub overflow_mul-bytes : goal.overflow_mul-bytes
overflow_mul-bytes c = omega (arith, bytes_le c)

pub overflow_add-result : goal.overflow_add-result
overflow_add-result c = omega (arith, bytes_le c)

pub returns : goal.returns
unfolding surfaces
returns c = ap (λ (e : ℕ). (c.args.self.layout.channels * e + 31) / 32) c.element_bytes.ensures
