-- `regions_calls::rules::check_place` meets its contract: it makes the definition's checks in their order. Assumes nothing.
use mathlib.Core.Path.{sym, ◌∙◌}
use Rattle.refusal.proofs.CheckLaws.{in_order-refused, handed-on}
use Rattle.layout.specs.Rules.{layout_checks}
use Rattle.regions.specs.Rules.{place_checks}
use Rattle.regions.specs.Calls.{place_answer}
use Rattle.regions_calls.proofs.rules.check_place.Goals as goal

pub returns-in_err-check : goal.returns-in_err-check
unfolding place_answer place_checks
returns-in_err-check c =
    handed-on c.from_residual.result c.from_residual.ensures.1
    ∙ sym (in_order-refused (layout_checks c.args.table.layout) _ (sym c.check.ensures ∙ c.in_err-check.was))
