-- `layout_calls::rules::sizes_valid` meets its contract: its tests are the definition's. Assumes nothing.
use mathlib.Core.Path.{sym, ◌∙◌}
use Rattle.layout.proofs.RuleLaws.{sizes-width, sizes-height, sizes-channels}
use Rattle.layout_calls.proofs.rules.sizes_valid.Goals as goal

pub returns-then-not-size_valid : goal.returns-then-not-size_valid
returns-then-not-size_valid c = sizes-width c.args.layout (sym c.size_valid.ensures ∙ c.if-not-size_valid.true)

pub returns-then-not-size_valid-2 : goal.returns-then-not-size_valid-2
returns-then-not-size_valid-2 c = let q = c.args.layout in
    sizes-height q
    (sym c.size_valid.ensures ∙ c.if-not-size_valid.false)
    (sym c.size_valid-2.ensures ∙ c.if-not-size_valid-2.true)

pub returns : goal.returns
returns c = let q = c.args.layout in
    c.size_valid-3.ensures
    ∙ sizes-channels q
    (sym c.size_valid.ensures ∙ c.if-not-size_valid.false)
    (sym c.size_valid-2.ensures ∙ c.if-not-size_valid-2.false)
