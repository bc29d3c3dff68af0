-- `layout_calls::valid::ValidLayout::atom_owner` meets its contract: its test and its digits are the definition's. Assumes nothing.
use Prim.Native.Nat.{ℕ, ◌+◌, ◌*◌, ◌/◌, ◌%◌, ◌≤◌, ◌<◌}
use native.Mathlib.Nat.{mul-le-mul}
use native.Mathlib.Omega.{arith}
use mathlib.Core.Path.{sym, ap, subst, subst⁻¹, ◌∙◌}
use mathlib.Core.Bool.{true}
use Rattle.elements.proofs.ByteLaws.{element_bytes-le}
use Rattle.layout.specs.declared.ByteOwner.TheVariants.{Element}
use Rattle.layout.specs.Whose.{byte_owner}
use Rattle.layout.proofs.Valid.{valid}
use Rattle.layout.proofs.Extents.{surfaces-le}
use Rattle.layout.proofs.Views.{padding-owner}
use Rattle.layout.proofs.WhoseLaws.{atom_owner-element}
use Rattle.layout_calls.proofs.valid.ValidLayout.atom_owner.Goals as goal

pub overflow_mul-at : goal.overflow_mul-at
overflow_mul-at c = omega (arith, c.requires.0, surfaces-le c.args.self.layout (valid c.args.self.layout c.args.self.accepted))

pub overflow_add-at : goal.overflow_add-at
overflow_add-at c = omega (arith, c.requires.0, c.requires.1, surfaces-le c.args.self.layout (valid c.args.self.layout c.args.self.accepted))

pub overflow_mul-layout : goal.overflow_mul-layout
overflow_mul-layout c =
    let q = c.args.self.layout in
    let at_most : q.channels * c.element_bytes-size.result ≤ 16384 =
    mul-le-mul {n₂ = 8192} {m₂ = 2} (valid q c.args.self.accepted).channels_le
    (subst⁻¹ (λ (n : ℕ). n ≤ 2) c.element_bytes-size.ensures (element_bytes-le q.precision)) in
    omega arith

pub returns-then-layout-size : goal.returns-then-layout-size
unfolding byte_owner
returns-then-layout-size c = let d = c in
    let a = d.args in
    sym (ap (byte_owner true) (padding-owner a.self.layout a.surface a.row a.column a.byte (subst (λ (n : ℕ). a.self.layout.channels * n ≤ 32 * a.surface + a.byte) d.element_bytes-size.ensures c.if-layout-size.true)))

pub returns : goal.returns
unfolding byte_owner
returns c = let d = c in
    let a = d.args in
    let n = 32 * a.surface + a.byte in
    ap (λ (e : ℕ). Element (n / e) a.row a.column (n % e)) d.element_bytes-size.ensures
    ∙ sym (ap (byte_owner true) (atom_owner-element a.self.layout a.surface a.row a.column a.byte (subst (λ (e : ℕ). n < a.self.layout.channels * e) d.element_bytes-size.ensures c.if-layout-size.false)))
