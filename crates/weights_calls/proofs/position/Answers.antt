-- `weights_calls::position` meets its contract: it checks, and computes the position in an accepted setting. Assumes nothing.
use mathlib.Core.Path.{sym, ap, subst, ◌∙◌}
use Rattle.std.specs.Prelude.{Ok}
use Rattle.refusal.proofs.CheckLaws.{given-accepted, given-refused, handed-on}
use Rattle.weights.specs.declared.WeightLayout.{WeightLayout}
use Rattle.weights.specs.Geometry.{element_position}
use Rattle.weights.specs.Places.{Element}
use Rattle.weights.specs.Calls.{position_quantity}
use Rattle.weights.proofs.RuleLaws.{element-held}
use Rattle.weights.proofs.Valid.{element}
use Rattle.weights_calls.proofs.position.Goals as goal

pub returns-in_err-tensor : goal.returns-in_err-tensor
unfolding position_quantity
returns-in_err-tensor c =
    let a = c.args in
    handed-on c.from_residual.result c.from_residual.ensures.1
    ∙ sym (given-refused (element_position a.layout a.kernel a.channel a.row a.column) (sym c.in_err-tensor.ensures.answered))

pub position_of-requires : goal.position_of-requires
position_of-requires c =
    let a = c.args in
    let inside = (element-held a.layout a.kernel a.channel a.row a.column (sym c.in_ok-tensor.ensures.answered)).1 in
    subst (λ (q : WeightLayout). Element q a.kernel a.channel a.row a.column) (sym c.in_ok-tensor.ensures.same) (element a.layout a.kernel a.channel a.row a.column inside)

pub returns : goal.returns
unfolding position_quantity
returns c =
    let a = c.args in
    let value = c.position_of.ensures ∙ ap (λ (q : WeightLayout). element_position q a.kernel a.channel a.row a.column) c.in_ok-tensor.ensures.same in
    ap Ok value ∙ sym (given-accepted (element_position a.layout a.kernel a.channel a.row a.column) (sym c.in_ok-tensor.ensures.answered))
