-- `regions_calls::release` meets its contract: a refused release leaves the table, an accepted one empties the slot. Assumes nothing.
use mathlib.Core.Path.{sym, ap, ◌∙◌}
use lib.ListN.{length}
use Rattle.regions.specs.declared.Region.{Region}
use Rattle.regions.specs.Calls.{with_slot}
use Rattle.regions.proofs.CallLaws.{release-kept, release-left}
use Rattle.regions_calls.proofs.StepLaws.{refused-is, accepted-is, released_number}
use Rattle.regions_calls.proofs.release.Goals as goal

pub returns-then-is_err-clause-handed : goal.returns-then-is_err-clause-handed
returns-then-is_err-clause-handed c =
    let a = c.args in
    let e = refused-is c.clear_region-answer.result (sym c.is_err.ensures.value ∙ c.if-is_err.true) in
    release-kept a.table a.slot a.id (length a.buffer.now) (sym c.clear_region-answer.ensures.answered ∙ e.1)

pub with_slot-emptied-requires : goal.with_slot-emptied-requires
with_slot-emptied-requires c =
    let a = c.args in
    let e = accepted-is c.clear_region-answer.result (sym c.is_err.ensures.value ∙ c.if-is_err.false) in
    released_number a.table a.slot a.id (length a.buffer.now) (sym c.clear_region-answer.ensures.answered ∙ e)

pub returns-clause-handed : goal.returns-clause-handed
returns-clause-handed c =
    let a = c.args in
    let e = accepted-is c.clear_region-answer.result (sym c.is_err.ensures.value ∙ c.if-is_err.false) in
    c.with_slot-emptied.ensures ∙ ap (λ (r : Region). with_slot a.table a.slot r) c.none.ensures
    ∙ release-left a.table a.slot a.id (length a.buffer.now) (sym c.clear_region-answer.ensures.answered ∙ e)
