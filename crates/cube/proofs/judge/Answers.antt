-- `cube::judge` meets its contract: it makes the definition's checks in their order. Assumes nothing.
use mathlib.Core.Path.{sym, ◌∙◌}
use lib.ListN.{length}
use Rattle.refusal.proofs.CheckLaws.{handed-on}
use Rattle.elements.proofs.ValueLaws.{precision_checks-known}
use Rattle.layout.proofs.CallLaws.{admitted, write-refused, write-values}
use Rattle.cube.proofs.judge.Goals as goal

pub returns-in_err-admit : goal.returns-in_err-admit
returns-in_err-admit c =
    let a = c.args in
    handed-on c.from_residual.result c.from_residual.ensures.1 ∙ write-refused a.layout a.b a.elements.now a.len (sym c.admit.ensures ∙ c.in_err-admit.was)

pub returns : goal.returns
returns c =
    let a = c.args in
    let passed = sym c.admit.ensures ∙ c.in_ok-admit.was in
    c.check_values.ensures
    ∙ precision_checks-known a.layout.precision a.elements.now (admitted a.layout a.b (length a.elements.now) a.len passed).layout.precision_lt
    ∙ write-values a.layout a.b a.elements.now a.len passed
