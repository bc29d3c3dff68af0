-- `script_calls::answers::stall` meets its contract: before a frame it is refused, after one it is placed, or refused as the placing is. Assumes nothing.
use mathlib.Core.Path.{sym, ◌∙◌}
use Rattle.refusal.proofs.CheckLaws.{handed-on}
use Rattle.script_calls.proofs.AnswerLaws.{stall-unframed, stall-refused, stall-placed}
use Rattle.script_calls.proofs.answers.stall.Goals as goal

pub returns-in_err-check_framed : goal.returns-in_err-check_framed
returns-in_err-check_framed c =
    let a = c.args in
    handed-on _ c.from_residual.ensures.1 ∙ stall-unframed a.desk a.slot a.id a.rectangle (sym c.check_framed.ensures ∙ c.in_err-check_framed.was)

pub returns-in_err-placed : goal.returns-in_err-placed
returns-in_err-placed c =
    let a = c.args in
    let framed = sym c.check_framed.ensures ∙ c.in_ok-check_framed.was in
    handed-on _ c.from_residual-in_err-placed.ensures.1
    ∙ stall-refused a.desk a.slot a.id a.rectangle framed (sym c.place-placed.ensures.answered ∙ c.in_err-placed.was)

pub returns : goal.returns
returns c =
    let a = c.args in
    let framed = sym c.check_framed.ensures ∙ c.in_ok-check_framed.was in
    stall-placed a.desk a.slot a.id a.rectangle framed (sym c.place-placed.ensures.answered ∙ c.in_ok-placed.was) c.region_count.ensures c.place-placed.ensures.left
