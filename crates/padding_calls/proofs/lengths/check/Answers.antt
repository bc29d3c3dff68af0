-- `padding_calls::lengths::check` meets its contract: it makes the definition's two checks in their order. Assumes nothing.
use mathlib.Core.Path.{sym, ◌∙◌}
use Rattle.padding.proofs.CheckLaws.{part-refused, report-refused, both-accepted}
use Rattle.padding_calls.proofs.lengths.check.Goals as goal

pub returns-then-not-part_inside : goal.returns-then-not-part_inside
returns-then-not-part_inside c = let a = c.args in sym (part-refused a.first a.length a.n a.positions a.olds (sym c.part_inside.ensures ∙ c.if-not-part_inside.true))

pub returns-then-not-report_roomy : goal.returns-then-not-report_roomy
returns-then-not-report_roomy c =
    let a = c.args in
    sym (report-refused a.first a.length a.n a.positions a.olds (sym c.part_inside.ensures ∙ c.if-not-part_inside.false) (sym c.report_roomy.ensures ∙ c.if-not-report_roomy.true))

pub returns : goal.returns
returns c =
    let a = c.args in
    sym (both-accepted a.first a.length a.n a.positions a.olds (sym c.part_inside.ensures ∙ c.if-not-part_inside.false) (sym c.report_roomy.ensures ∙ c.if-not-report_roomy.false))
