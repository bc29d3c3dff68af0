-- `regions_calls::rules::find_box` meets its contract: 9 is checked of a part of the rectangle of a slot that is valid. Assumes nothing.
use mathlib.Core.Path.{sym, ap, ◌∙◌}
use Rattle.refusal.proofs.CheckLaws.{handed-on, given-ok, given-err}
use Rattle.regions.specs.Rules.{access_of}
use Rattle.regions.proofs.RuleLaws.{slot-accepted}
use Rattle.regions_calls.specs.Steps.{box_in}
use Rattle.regions_calls.proofs.StepLaws.{found_box-slot, found_part-named}
use Rattle.regions_calls.proofs.rules.find_box.Goals as goal

pub returns-in_err-region : goal.returns-in_err-region
returns-in_err-region c =
    let a = c.args in
    handed-on c.from_residual.result c.from_residual.ensures.1
    ∙ found_box-slot (access_of a.table a.slot a.id) _ (given-err _ _ _ (sym c.region_named.ensures ∙ c.in_err-region.was))

pub box_in-requires : goal.box_in-requires
box_in-requires c =
    let a = c.args in
    (slot-accepted (access_of a.table a.slot a.id) (given-ok _ _ _ (sym c.region_named.ensures ∙ c.in_ok-region.was)).0).checked

pub returns : goal.returns
returns c =
    let a = c.args in
    let r = c.in_ok-region.region in
    c.box_in.ensures ∙ ap (box_in a.table.layout r.rectangle) c.part_box-b.ensures
    ∙ found_part-named a.table a.slot a.id a.part (given-ok _ _ _ (sym c.region_named.ensures ∙ c.in_ok-region.was))
