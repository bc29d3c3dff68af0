-- `parlour_calls::rules::check_picture` meets its contract: it makes the definition's checks in their order. Assumes nothing.
use native.Mathlib.Omega.{arith}
use mathlib.Core.Path.{sym, ◌∙◌}
use Rattle.refusal.proofs.CheckLaws.{handed-on}
use Rattle.parlour.proofs.RuleLaws.{picture-setting, picture-kind, picture-conversion, picture-short, picture-valid}
use Rattle.parlour_calls.proofs.rules.check_picture.Goals as goal

pub returns-in_err-setting : goal.returns-in_err-setting
returns-in_err-setting c =
    let a = c.args in
    handed-on c.from_residual.result c.from_residual.ensures.1 ∙ picture-setting a.layout a.image a.shift a.given (sym c.setting.ensures ∙ c.in_err-setting.was)

pub returns-then-not-kind_taken : goal.returns-then-not-kind_taken
returns-then-not-kind_taken c =
    let a = c.args in
    picture-kind a.layout a.image a.shift a.given (sym c.setting.ensures ∙ c.in_ok-setting.was) (sym c.kind_taken.ensures ∙ c.if-not-kind_taken.true)

pub returns-in_err-check : goal.returns-in_err-check
returns-in_err-check c =
    let a = c.args in
    handed-on c.from_residual-in_err-check.result c.from_residual-in_err-check.ensures.1
    ∙ picture-conversion a.layout a.image a.shift a.given (sym c.setting.ensures ∙ c.in_ok-setting.was) (sym c.kind_taken.ensures ∙ c.if-not-kind_taken.false)
    (sym c.check.ensures ∙ c.in_err-check.was)

pub returns-then-given-image_end : goal.returns-then-given-image_end
returns-then-given-image_end c =
    let a = c.args in
    picture-short a.layout a.image a.shift a.given (sym c.setting.ensures ∙ c.in_ok-setting.was) (sym c.kind_taken.ensures ∙ c.if-not-kind_taken.false)
    (sym c.check.ensures ∙ c.in_ok-check.was) (omega (arith, c.if-given-image_end.true, c.image_end.ensures))

pub returns : goal.returns
returns c =
    let a = c.args in
    picture-valid a.layout a.image a.shift a.given (sym c.setting.ensures ∙ c.in_ok-setting.was) (sym c.kind_taken.ensures ∙ c.if-not-kind_taken.false)
    (sym c.check.ensures ∙ c.in_ok-check.was) (omega (arith, c.if-given-image_end.false, c.image_end.ensures))
