-- `script_calls::answers::cell` meets its contract: before a frame it is refused, after one it is the position, or its refusal. Assumes nothing.
use mathlib.Core.Path.{sym, ◌∙◌}
use Rattle.refusal.proofs.CheckLaws.{handed-on}
use Rattle.script_calls.proofs.AnswerLaws.{cell-unframed, cell-refused, cell_at}
use Rattle.script_calls.proofs.answers.cell.Goals as goal

pub returns-in_err-check_framed : goal.returns-in_err-check_framed
returns-in_err-check_framed c =
    let a = c.args in
    handed-on _ c.from_residual.ensures.1 ∙ cell-unframed a.desk a.slot a.channel a.row a.column a.id (sym c.check_framed.ensures ∙ c.in_err-check_framed.was)

pub returns-in_err-value : goal.returns-in_err-value
returns-in_err-value c =
    let a = c.args in
    let framed = sym c.check_framed.ensures ∙ c.in_ok-check_framed.was in
    handed-on _ c.from_residual-in_err-value.ensures.1
    ∙ cell-refused a.desk a.slot a.channel a.row a.column a.id framed (sym c.position.ensures ∙ c.in_err-value.was)

pub returns : goal.returns
returns c =
    let a = c.args in
    let framed = sym c.check_framed.ensures ∙ c.in_ok-check_framed.was in
    cell_at a.desk a.slot a.channel a.row a.column a.id framed (sym c.position.ensures ∙ c.in_ok-value.was)
