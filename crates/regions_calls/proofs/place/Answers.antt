-- `regions_calls::place` meets its contract: a refused placing leaves the table, an accepted one sets the slot. Assumes nothing.
use mathlib.Core.Path.{sym, ◌∙◌}
use Rattle.regions.specs.Rules.{access_of}
use Rattle.regions.specs.Calls.{place_answer}
use Rattle.regions.proofs.CallLaws.{place_kept, place-left}
use Rattle.regions.proofs.RuleLaws.{place-accepted}
use Rattle.regions_calls.proofs.StepLaws.{refused-is, accepted-is}
use Rattle.regions_calls.proofs.place.Goals as goal

pub returns-then-is_err-clause-left : goal.returns-then-is_err-clause-left
returns-then-is_err-clause-left c =
    let a = c.args in
    let e = refused-is c.check_place-answer.result (sym c.is_err.ensures.value ∙ c.if-is_err.true) in
    place_kept a.table a.slot a.id a.rectangle (sym c.check_place-answer.ensures ∙ e.1)

pub with_slot-after-requires : goal.with_slot-after-requires
unfolding place_answer
with_slot-after-requires c =
    let a = c.args in
    let e = accepted-is c.check_place-answer.result (sym c.is_err.ensures.value ∙ c.if-is_err.false) in
    (place-accepted (access_of a.table a.slot a.id) a.rectangle (sym c.check_place-answer.ensures ∙ e)).number

pub returns-clause-left : goal.returns-clause-left
returns-clause-left c =
    let a = c.args in
    let e = accepted-is c.check_place-answer.result (sym c.is_err.ensures.value ∙ c.if-is_err.false) in
    c.with_slot-after.ensures ∙ place-left a.table a.slot a.id a.rectangle (sym c.check_place-answer.ensures ∙ e)
