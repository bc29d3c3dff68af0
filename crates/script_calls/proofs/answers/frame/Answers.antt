-- `script_calls::answers::frame` meets its contract: the extent, or its refusal. Assumes nothing.
use mathlib.Core.Path.{sym, ◌∙◌}
use Rattle.refusal.proofs.CheckLaws.{handed-on}
use Rattle.script_calls.proofs.AnswerLaws.{frame-refused, frame-valid}
use Rattle.script_calls.proofs.answers.frame.Goals as goal

pub returns-in_err-value : goal.returns-in_err-value
returns-in_err-value c =
    let a = c.args in
    handed-on _ c.from_residual.ensures.1 ∙ frame-refused a.desk a.layout (sym c.extent.ensures ∙ c.in_err-value.was)

pub returns : goal.returns
returns c =
    let a = c.args in
    rw c.empty.ensures (frame-valid a.desk a.layout (sym c.extent.ensures ∙ c.in_ok-value.was))
