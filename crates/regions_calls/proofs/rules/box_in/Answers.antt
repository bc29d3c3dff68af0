-- `regions_calls::rules::box_in` meets its contract: both sums of the rectangle's corner and the box's stay in the cube. Assumes nothing.
use native.Mathlib.Omega.{arith}
use mathlib.Core.Path.{sym, ◌∙◌}
use Rattle.layout.proofs.Valid.{valid}
use Rattle.regions.proofs.RuleLaws.{bounds-valid}
use Rattle.regions_calls.proofs.StepLaws.{row_fits, column_fits}
use Rattle.regions_calls.proofs.rules.box_in.Goals as goal

pub overflow_add-result : goal.overflow_add-result
overflow_add-result c =
    let a = c.args in
    let bounds =
    bounds-valid a.layout a.g a.b (sym c.rectangle_inside.ensures ∙ c.if-not-rectangle_inside.false) (sym c.box_inside.ensures ∙ c.if-not-box_inside.false) in
    omega (arith, row_fits a.layout (valid a.layout c.requires) a.g a.b bounds)

pub overflow_add-result-2 : goal.overflow_add-result-2
overflow_add-result-2 c =
    let a = c.args in
    let bounds =
    bounds-valid a.layout a.g a.b (sym c.rectangle_inside.ensures ∙ c.if-not-rectangle_inside.false) (sym c.box_inside.ensures ∙ c.if-not-box_inside.false) in
    omega (arith, column_fits a.layout (valid a.layout c.requires) a.g a.b bounds)
