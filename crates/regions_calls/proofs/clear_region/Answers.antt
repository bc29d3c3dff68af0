-- `regions_calls::clear_region` meets its contract: a call refused by 1 to 4, 8, 25 or 9 writes nothing, and past them it clears the box that was found. Assumes nothing.
use mathlib.Core.Path.{sym, ◌∙◌}
use Rattle.refusal.proofs.CheckLaws.{handed-on}
use Rattle.regions_calls.proofs.StepLaws.{release-refused, release-found}
use Rattle.regions_calls.proofs.clear_region.Goals as goal

pub returns-in_err-all : goal.returns-in_err-all
returns-in_err-all c =
    let a = c.args in
    let e = release-refused a.table a.slot a.id a.buffer.now (sym c.find_box.ensures ∙ c.in_err-all.was) in
    record { answered = handed-on c.from_residual.result c.from_residual.ensures.1 ∙ e.0; left = e.1 }

pub returns : goal.returns
returns c =
    let a = c.args in
    let e = release-found a.table a.slot a.id a.buffer.now (sym c.find_box.ensures ∙ c.in_ok-all.was) in
    record { answered = c.clear_box.ensures.answered ∙ e.0; left = c.clear_box.ensures.left ∙ e.1 }
