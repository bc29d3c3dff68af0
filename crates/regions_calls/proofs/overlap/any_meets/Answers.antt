-- `regions_calls::overlap::any_meets` meets its contract: some struct passes the test, or none does. Assumes nothing.
use mathlib.Core.Path.{◌∙◌}
use Rattle.std.proofs.Common.{rules, tests}
use Rattle.std.proofs.lemmas.Iterator.{YieldsList-from_slice}
use Rattle.std.proofs.lemmas.Iterator.Search.{any_from_yields_List}
use Rattle.regions.specs.Slots.{slot_of}
use Rattle.regions_calls.specs.Steps.{slot_meets}
use Rattle.regions_calls.proofs.MeetLaws.{any_overlaps}
use Rattle.regions_calls.proofs.overlap.any_meets.Goals as goal

pub returns : goal.returns
returns c =
    any_from_yields_List (λ region. slot_meets (slot_of region) c.args.g) _ _ _ c.any.ensures.ran
    (YieldsList-from_slice c.args.slots.now cc) (λ x b q k. search (rules, tests))
    ∙ any_overlaps c.args.g c.args.slots.now
