-- `layout_calls::rules::strides_valid` meets its contract: its tests are the definition's; the lines of a surface stay below 2 ^ 46. Assumes nothing.
use Rattle.layout.proofs.RuleLaws.{strides-line, strides-surface, strides-short, strides-last}
use Rattle.layout_calls.proofs.rules.strides_valid.Goals as goal

pub returns-then-line-ne0 : goal.returns-then-line-ne0
returns-then-line-ne0 c = let a = c.args in strides-line a.width a.height a.line a.surface c.if-line-ne0.true

pub returns-then-surface-ne0 : goal.returns-then-surface-ne0
returns-then-surface-ne0 c = let a = c.args in strides-surface a.width a.height a.line a.surface c.if-line-ne0.false c.if-surface-ne0.true

pub returns-then-line-atoms : goal.returns-then-line-atoms
returns-then-line-atoms c = let a = c.args in
    strides-short a.width a.height a.line a.surface c.if-line-ne0.false c.if-surface-ne0.false c.if-line-atoms.true

pub returns : goal.returns
returns c = let a = c.args in
    strides-last a.width a.height a.line a.surface c.if-line-ne0.false c.if-surface-ne0.false c.if-line-atoms.false
