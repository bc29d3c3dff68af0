-- `weights_calls::check` meets its contract: it makes the definition's checks in their order. Assumes nothing.
use Prim.Native.Nat.{ℕ, ◌≤◌, ◌<◌}
use mathlib.Core.Path.{sym, ap, ◌∙◌, subst}
use Rattle.refusal.specs.Codes.{answer_of}
use Rattle.refusal.proofs.CheckLaws.{handed-on}
use Rattle.weights.specs.declared.WeightLayout.{WeightLayout}
use Rattle.weights.specs.Geometry.{element_count, surface_bytes}
use Rattle.weights.proofs.RuleLaws.{check-setting, check-count, check-room, check-valid}
use Rattle.weights_calls.proofs.check.Goals as goal

pub returns-in_err-tensor-clause-answered : goal.returns-in_err-tensor-clause-answered
returns-in_err-tensor-clause-answered c =
    let a = c.args in
    ap answer_of (handed-on c.from_residual.result c.from_residual.ensures.1) ∙ sym (check-setting a.layout a.given a.len (sym c.in_err-tensor.ensures.answered))

pub returns-then-given-element_count-clause-answered : goal.returns-then-given-element_count-clause-answered
returns-then-given-element_count-clause-answered c =
    let a = c.args in
    let counted = c.element_count.ensures ∙ ap (λ (q : WeightLayout). element_count q) c.in_ok-tensor.ensures.same in
    check-count a.layout a.given a.len (sym c.in_ok-tensor.ensures.answered) (λ e. c.if-given-element_count.true (e ∙ sym counted))

pub returns-then-len-surface_bytes-clause-answered : goal.returns-then-len-surface_bytes-clause-answered
returns-then-len-surface_bytes-clause-answered c =
    let a = c.args in
    let counted = c.element_count.ensures ∙ ap (λ (q : WeightLayout). element_count q) c.in_ok-tensor.ensures.same in
    let measured = c.surface_bytes.ensures ∙ ap (λ (q : WeightLayout). surface_bytes q) c.in_ok-tensor.ensures.same in
    check-room a.layout a.given a.len (sym c.in_ok-tensor.ensures.answered) (c.if-given-element_count.false ∙ counted)
    (subst (λ (s : ℕ). a.len < s) measured c.if-len-surface_bytes.true)

pub returns-clause-answered : goal.returns-clause-answered
returns-clause-answered c =
    let a = c.args in
    let counted = c.element_count.ensures ∙ ap (λ (q : WeightLayout). element_count q) c.in_ok-tensor.ensures.same in
    let measured = c.surface_bytes.ensures ∙ ap (λ (q : WeightLayout). surface_bytes q) c.in_ok-tensor.ensures.same in
    check-valid a.layout a.given a.len (sym c.in_ok-tensor.ensures.answered) (c.if-given-element_count.false ∙ counted)
    (subst (λ (s : ℕ). s ≤ a.len) measured c.if-len-surface_bytes.false)
