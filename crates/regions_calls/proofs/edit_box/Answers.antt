-- `regions_calls::edit_box` meets its contract: a call refused by 1 to 4, 8, 25 or 9 writes nothing, and past them it writes the box that was found. Assumes nothing.
use mathlib.Core.Path.{sym, ◌∙◌}
use Rattle.refusal.proofs.CheckLaws.{handed-on}
use Rattle.regions_calls.proofs.StepLaws.{edit-refused, edit-found}
use Rattle.regions_calls.proofs.edit_box.Goals as goal

pub returns-in_err-target : goal.returns-in_err-target
returns-in_err-target c =
    let a = c.args in
    let e = edit-refused a.table a.slot a.id a.b a.elements.now a.buffer.now (sym c.find_box.ensures ∙ c.in_err-target.was) in
    record { answered = handed-on c.from_residual.result c.from_residual.ensures.1 ∙ e.0; left = e.1 }

pub returns : goal.returns
returns c =
    let a = c.args in
    let e = edit-found a.table a.slot a.id a.b a.elements.now a.buffer.now (sym c.find_box.ensures ∙ c.in_ok-target.was) in
    record { answered = c.write_box.ensures.answered ∙ e.0; left = c.write_box.ensures.left ∙ e.1 }
