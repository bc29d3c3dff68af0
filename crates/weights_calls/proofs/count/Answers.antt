-- `weights_calls::count` meets its contract: it checks, and counts the elements of an accepted setting. Assumes nothing.
use mathlib.Core.Path.{sym, ap, ◌∙◌}
use Rattle.std.specs.Prelude.{Ok}
use Rattle.refusal.proofs.CheckLaws.{given-accepted, given-refused, handed-on}
use Rattle.weights.specs.declared.WeightLayout.{WeightLayout}
use Rattle.weights.specs.Geometry.{element_count}
use Rattle.weights.specs.Calls.{count_quantity}
use Rattle.weights_calls.proofs.count.Goals as goal

pub returns-in_err-counted : goal.returns-in_err-counted
unfolding count_quantity
returns-in_err-counted c =
    handed-on c.from_residual.result c.from_residual.ensures.1 ∙ sym (given-refused (element_count c.args.layout) (sym c.in_err-counted.ensures.answered))

pub returns : goal.returns
unfolding count_quantity
returns c =
    let value = c.element_count.ensures ∙ ap (λ (q : WeightLayout). element_count q) c.in_ok-counted.ensures.same in
    ap Ok value ∙ sym (given-accepted (element_count c.args.layout) (sym c.in_ok-counted.ensures.answered))
