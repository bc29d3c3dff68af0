-- `weights_calls::check_element` meets its contract: it makes checks 1, 2, 9 in their order. Assumes nothing.
use mathlib.Core.Path.{sym, ap, ◌∙◌}
use Rattle.refusal.specs.Codes.{answer_of}
use Rattle.refusal.proofs.CheckLaws.{handed-on}
use Rattle.weights.proofs.RuleLaws.{element-setting, element-outside, element-valid}
use Rattle.weights_calls.proofs.check_element.Goals as goal

pub returns-in_err-tensor-clause-answered : goal.returns-in_err-tensor-clause-answered
returns-in_err-tensor-clause-answered c =
    let a = c.args in
    ap answer_of (handed-on c.from_residual.result c.from_residual.ensures.1)
    ∙ sym (element-setting a.layout a.index.kernel a.index.channel a.index.row a.index.column (sym c.in_err-tensor.ensures.answered))

pub returns-then-not-element_inside-clause-answered : goal.returns-then-not-element_inside-clause-answered
returns-then-not-element_inside-clause-answered c =
    let a = c.args in
    element-outside a.layout a.index.kernel a.index.channel a.index.row a.index.column (sym c.in_ok-tensor.ensures.answered) (sym c.element_inside.ensures ∙ c.if-not-element_inside.true)

pub returns-clause-answered : goal.returns-clause-answered
returns-clause-answered c =
    let a = c.args in
    element-valid a.layout a.index.kernel a.index.channel a.index.row a.index.column (sym c.in_ok-tensor.ensures.answered) (sym c.element_inside.ensures ∙ c.if-not-element_inside.false)
