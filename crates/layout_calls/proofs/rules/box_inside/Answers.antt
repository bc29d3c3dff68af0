-- `layout_calls::rules::box_inside` meets its contract: its tests are the definition's. Assumes nothing.
use mathlib.Core.Path.{sym, ◌∙◌}
use Rattle.layout.proofs.RuleLaws.{box-channels, box-rows, box-columns}
use Rattle.layout_calls.proofs.rules.box_inside.Goals as goal

pub returns-then-not-span_inside : goal.returns-then-not-span_inside
returns-then-not-span_inside c = let a = c.args in box-channels a.layout a.b (sym c.span_inside.ensures ∙ c.if-not-span_inside.true)

pub returns-then-not-span_inside-2 : goal.returns-then-not-span_inside-2
returns-then-not-span_inside-2 c = let a = c.args in
    box-rows a.layout a.b
    (sym c.span_inside.ensures ∙ c.if-not-span_inside.false)
    (sym c.span_inside-2.ensures ∙ c.if-not-span_inside-2.true)

pub returns : goal.returns
returns c = let a = c.args in
    c.span_inside-3.ensures
    ∙ box-columns a.layout a.b
    (sym c.span_inside.ensures ∙ c.if-not-span_inside.false)
    (sym c.span_inside-2.ensures ∙ c.if-not-span_inside-2.false)
