-- `weights_calls::pack` meets its contract: it makes the definition's checks in their order, and all runs written, with the fill cleared, give the packed
-- buffer. Assumes nothing.
use Prim.Native.Nat.{◌≤◌}
use native.Mathlib.Omega.{arith}
use mathlib.Core.Path.{◌≡◌, sym, ap, subst, ◌∙◌}
use lib.ListN.{length}
use Rattle.refusal.specs.Checks.{Accepted, in_order}
use Rattle.refusal.proofs.CheckLaws.{handed-on}
use Rattle.elements.proofs.ValueLaws.{precision_checks-known}
use Rattle.weights.specs.declared.WeightLayout.{WeightLayout}
use Rattle.weights.specs.Geometry.{surface_bytes}
use Rattle.weights.specs.Rules.{weight_checks}
use Rattle.weights.specs.Contents.{packed}
use Rattle.weights.proofs.CallLaws.{admitted, pack-refused, pack-outside, pack-valid}
use Rattle.weights.proofs.SurfaceLaws.{surface_ge}
use Rattle.weights_calls.proofs.WriteLaws.{write-packed}
use Rattle.weights_calls.proofs.pack.Goals as goal

pub returns-in_err-tensor : goal.returns-in_err-tensor
returns-in_err-tensor c =
    let a = c.args in
    let p = pack-refused a.layout a.elements.now a.buffer.now (sym c.in_err-tensor.ensures.answered) in
    record { value = handed-on c.from_residual.result c.from_residual.ensures.1 ∙ p.0; buffer_after = p.1 }

pub returns-in_err-check_values : goal.returns-in_err-check_values
returns-in_err-check_values c =
    let a = c.args in
    let accepted = sym c.in_ok-tensor.ensures.answered in
    let adm = admitted a.layout (length a.elements.now) (length a.buffer.now) accepted in
    let known = precision_checks-known a.layout.precision a.elements.now adm.precision_lt in
    let p = pack-outside a.layout a.elements.now a.buffer.now accepted (sym known ∙ sym c.check_values.ensures ∙ c.in_err-check_values.was) in
    record { value = handed-on c.from_residual-in_err-check_values.result c.from_residual-in_err-check_values.ensures.1 ∙ p.0; buffer_after = p.1 }

pub runs-requires : goal.runs-requires
runs-requires c =
    let a = c.args in
    subst (λ (q : WeightLayout). in_order (weight_checks q (length a.elements.now) (length a.buffer.now)) ≡ Accepted) (sym c.in_ok-tensor.ensures.same) (sym c.in_ok-tensor.ensures.answered)

pub overflow_sub-whole : goal.overflow_sub-whole
overflow_sub-whole c = omega (arith, c.weight_bytes-end.ensures, c.surface_bytes-whole.ensures, surface_ge c.in_ok-tensor.tensor.layout)

pub returns : goal.returns
returns c =
    let a = c.args in
    let passed = sym c.in_ok-tensor.ensures.answered in
    let adm = admitted a.layout (length a.elements.now) (length a.buffer.now) passed in
    let known = precision_checks-known a.layout.precision a.elements.now adm.precision_lt in
    let p = pack-valid a.layout a.elements.now a.buffer.now passed (sym known ∙ sym c.check_values.ensures ∙ c.in_ok-check_values.was) in
    let same = c.in_ok-tensor.ensures.same in
    let room = subst (λ (q : WeightLayout). surface_bytes q ≤ length a.buffer.now) (sym same) adm.room in
    let written = write-packed c.in_ok-tensor.tensor.layout a.elements.now a.buffer.now room c.weight_bytes-end.ensures c.surface_bytes-whole.ensures c.runs.ensures c.clear.ensures in
    record { value = p.0; buffer_after = written ∙ ap (λ (q : WeightLayout). packed q a.elements.now a.buffer.now) same ∙ p.1 }
