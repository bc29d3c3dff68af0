-- `script_calls::answers::leave` meets its contract: before a frame it is refused, after one it is the count, or its refusal; a region that was counted is in
-- one of the sixteen slots. Assumes nothing.
use mathlib.Core.Path.{sym, ◌∙◌}
use Rattle.refusal.proofs.CheckLaws.{handed-on}
use Rattle.script_calls.proofs.AnswerLaws.{leave-unframed, leave-slot, leave-refused, leave-counted}
use Rattle.script_calls.proofs.answers.leave.Goals as goal

pub returns-in_err-check_framed : goal.returns-in_err-check_framed
returns-in_err-check_framed c =
    let a = c.args in
    handed-on _ c.from_residual.ensures.1 ∙ leave-unframed a.desk a.slot a.id (sym c.check_framed.ensures ∙ c.in_err-check_framed.was)

pub returns-in_err-value : goal.returns-in_err-value
returns-in_err-value c =
    let a = c.args in
    let framed = sym c.check_framed.ensures ∙ c.in_ok-check_framed.was in
    handed-on _ c.from_residual-in_err-value.ensures.1 ∙ leave-refused a.desk a.slot a.id framed (sym c.count.ensures ∙ c.in_err-value.was)

pub emptied-table-requires : goal.emptied-table-requires
emptied-table-requires c = let a = c.args in leave-slot a.desk a.slot a.id (sym c.count.ensures ∙ c.in_ok-value.was)

pub returns : goal.returns
returns c =
    let a = c.args in
    let framed = sym c.check_framed.ensures ∙ c.in_ok-check_framed.was in
    leave-counted a.desk a.slot a.id framed (sym c.count.ensures ∙ c.in_ok-value.was) c.emptied-table.ensures
