-- `layout_calls::check_box` meets its contract: it makes the definition's checks in their order. Assumes nothing.
use mathlib.Core.Path.{sym, ◌∙◌}
use Rattle.refusal.proofs.CheckLaws.{handed-on}
use Rattle.layout.proofs.CallLaws.{box-refused, box-outside, box-accepted}
use Rattle.layout_calls.proofs.check_box.Goals as goal

pub returns-in_err-check : goal.returns-in_err-check
returns-in_err-check c =
    let a = c.args in
    handed-on c.from_residual.result c.from_residual.ensures.1 ∙ box-refused a.layout a.b (sym c.check.ensures ∙ c.in_err-check.was)

pub returns-then-not-box_inside : goal.returns-then-not-box_inside
returns-then-not-box_inside c =
    let a = c.args in
    box-outside a.layout a.b (sym c.check.ensures ∙ c.in_ok-check.was) (sym c.box_inside.ensures ∙ c.if-not-box_inside.true)

pub returns : goal.returns
returns c =
    let a = c.args in
    box-accepted a.layout a.b (sym c.check.ensures ∙ c.in_ok-check.was) (sym c.box_inside.ensures ∙ c.if-not-box_inside.false)
