-- `weights_calls::runs::group_size` meets its contract: its test is the definition's. Assumes nothing.
use mathlib.Core.Path.{sym}
use Rattle.weights.proofs.NumberLaws.{group_size-int8, group_size-other}
use Rattle.weights_calls.proofs.runs.group_size.Goals as goal

pub returns-then-precision-eq0 : goal.returns-then-precision-eq0
returns-then-precision-eq0 c = sym (group_size-int8 c.args.precision c.if-precision-eq0.true)

pub returns-else-precision-eq0 : goal.returns-else-precision-eq0
returns-else-precision-eq0 c = sym (group_size-other c.args.precision c.if-precision-eq0.false)
