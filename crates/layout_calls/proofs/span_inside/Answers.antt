-- `layout_calls::span_inside` meets its contract: its tests are the definition's. Assumes nothing.
use Rattle.layout.proofs.RuleLaws.{span_none, span-some}
use Rattle.layout_calls.proofs.span_inside.Goals as goal

pub returns-then-count-lt1 : goal.returns-then-count-lt1
returns-then-count-lt1 c = let a = c.args in span_none a.first a.count a.size c.if-count-lt1.true

pub returns : goal.returns
returns c = let a = c.args in span-some a.first a.count a.size c.if-count-lt1.false
