-- `parlour_calls::rules::find_target` meets its contract: it makes the definition's checks in their order. Assumes nothing.
use mathlib.Core.Path.{sym, ◌∙◌}
use Rattle.refusal.proofs.CheckLaws.{handed-on}
use Rattle.parlour_calls.proofs.TargetLaws.{target-denied, target-wide, target-high, target-refused, target-found}
use Rattle.parlour_calls.proofs.rules.find_target.Goals as goal

pub returns-in_err-all : goal.returns-in_err-all
returns-in_err-all c =
    let a = c.args in
    handed-on c.from_residual.result c.from_residual.ensures.1 ∙ target-denied a.table a.slot a.id a.image a.len (sym c.find.ensures ∙ c.in_err-all.was)

pub returns-then-image-all : goal.returns-then-image-all
returns-then-image-all c = let a = c.args in target-wide a.table a.slot a.id a.image a.len (sym c.find.ensures ∙ c.in_ok-all.was) c.if-image-all.true

pub returns-then-image-all-2 : goal.returns-then-image-all-2
returns-then-image-all-2 c =
    let a = c.args in
    target-high a.table a.slot a.id a.image a.len (sym c.find.ensures ∙ c.in_ok-all.was) c.if-image-all.false c.if-image-all-2.true

pub returns-in_err-check_room : goal.returns-in_err-check_room
returns-in_err-check_room c =
    let a = c.args in
    handed-on c.from_residual-in_err-check_room.result c.from_residual-in_err-check_room.ensures.1
    ∙ target-refused a.table a.slot a.id a.image a.len (sym c.find.ensures ∙ c.in_ok-all.was) c.if-image-all.false c.if-image-all-2.false (sym c.check_room.ensures ∙ c.in_err-check_room.was)

pub returns : goal.returns
returns c =
    let a = c.args in
    target-found a.table a.slot a.id a.image a.len (sym c.find.ensures ∙ c.in_ok-all.was) c.if-image-all.false c.if-image-all-2.false (sym c.check_room.ensures ∙ c.in_ok-check_room.was)
