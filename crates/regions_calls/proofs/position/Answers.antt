-- `regions_calls::position` meets its contract: past check 9 it is the cube's position of the box that was found. Assumes nothing.
use mathlib.Core.Path.{sym, ◌∙◌}
use Rattle.refusal.proofs.CheckLaws.{handed-on}
use Rattle.regions_calls.proofs.StepLaws.{position-refused, position-found}
use Rattle.regions_calls.proofs.position.Goals as goal

pub returns-in_err-found : goal.returns-in_err-found
returns-in_err-found c =
    let a = c.args in
    handed-on c.from_residual.result c.from_residual.ensures.1
    ∙ position-refused a.table a.slot a.id a.channel a.row a.column (sym c.find_box.ensures ∙ c.in_err-found.was)

pub returns : goal.returns
returns c =
    let a = c.args in
    c.position.ensures ∙ position-found a.table a.slot a.id a.channel a.row a.column (sym c.find_box.ensures ∙ c.in_ok-found.was)
