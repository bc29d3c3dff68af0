-- `elements::limit` meets its contract. Assumes nothing.
use Rattle.elements.proofs.StepLaws.{limit-int8, limit-other}
use Rattle.elements.proofs.limit.Goals as goal

pub returns-then-precision-eq0 : goal.returns-then-precision-eq0
returns-then-precision-eq0 c = limit-int8 c.args.precision c.if-precision-eq0.true

pub returns-else-precision-eq0 : goal.returns-else-precision-eq0
returns-else-precision-eq0 c = limit-other c.args.precision c.if-precision-eq0.false
