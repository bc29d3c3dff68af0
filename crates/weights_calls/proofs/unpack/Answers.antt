-- `weights_calls::unpack` meets its contract: it makes the definition's checks in their order, and all runs read give the raw weights. Assumes
-- nothing.
use mathlib.Core.Path.{◌≡◌, sym, ap, subst, ◌∙◌}
use lib.ListN.{length}
use Rattle.refusal.specs.Checks.{Accepted, in_order}
use Rattle.refusal.proofs.CheckLaws.{handed-on}
use Rattle.weights.specs.declared.WeightLayout.{WeightLayout}
use Rattle.weights.specs.Rules.{weight_checks}
use Rattle.weights.specs.Contents.{unpacked}
use Rattle.weights.proofs.CallLaws.{unpack-refused, unpack-valid}
use Rattle.weights_calls.proofs.unpack.Goals as goal

pub returns-in_err-checked : goal.returns-in_err-checked
returns-in_err-checked c =
    let a = c.args in
    let p = unpack-refused a.layout a.buffer.now a.elements.now (sym c.in_err-checked.ensures.answered) in
    record { value = handed-on c.from_residual.result c.from_residual.ensures.1 ∙ p.0; elements_after = p.1 }

pub runs-requires : goal.runs-requires
runs-requires c =
    let a = c.args in
    subst (λ (q : WeightLayout). in_order (weight_checks q (length a.elements.now) (length a.buffer.now)) ≡ Accepted) (sym c.in_ok-checked.ensures.same) (sym c.in_ok-checked.ensures.answered)

pub returns : goal.returns
returns c =
    let a = c.args in
    let p = unpack-valid a.layout a.buffer.now a.elements.now (sym c.in_ok-checked.ensures.answered) in
    record { value = p.0; elements_after = c.runs.ensures ∙ ap (λ (q : WeightLayout). unpacked q a.buffer.now) c.in_ok-checked.ensures.same ∙ p.1 }
