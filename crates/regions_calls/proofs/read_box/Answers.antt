-- `regions_calls::read_box` meets its contract: a call refused by 1 to 4, 8, 25 or 9 fills nothing, and past them it reads the box that was found. Assumes nothing.
use mathlib.Core.Path.{sym, ◌∙◌}
use Rattle.refusal.proofs.CheckLaws.{handed-on}
use Rattle.regions_calls.proofs.StepLaws.{read-refused, read_found}
use Rattle.regions_calls.proofs.read_box.Goals as goal

pub returns-in_err-source : goal.returns-in_err-source
returns-in_err-source c =
    let a = c.args in
    let e = read-refused a.table a.slot a.id a.b a.buffer.now a.elements.now (sym c.find_box.ensures ∙ c.in_err-source.was) in
    record { answered = handed-on c.from_residual.result c.from_residual.ensures.1 ∙ e.0; left = e.1 }

pub returns : goal.returns
returns c =
    let a = c.args in
    let e = read_found a.table a.slot a.id a.b a.buffer.now a.elements.now (sym c.find_box.ensures ∙ c.in_ok-source.was) in
    record { answered = c.read_box.ensures.answered ∙ e.0; left = c.read_box.ensures.left ∙ e.1 }
