-- `quantize::limits` meets its contract: its cases are the definitions'. Assumes nothing.
use Rattle.quantize.proofs.AnswerLaws.{limits-zero, limits-other}
use Rattle.quantize.proofs.limits.Goals as goal

pub returns-then-precision-eq0 : goal.returns-then-precision-eq0
returns-then-precision-eq0 c = limits-zero c.if-precision-eq0.true

pub returns-else-precision-eq0 : goal.returns-else-precision-eq0
returns-else-precision-eq0 c = limits-other c.args.precision c.if-precision-eq0.false
