-- `walk_calls::atoms::size` meets its contract: its test is the definition's. Assumes nothing.
use mathlib.Core.Path.{sym}
use Rattle.elements.proofs.ByteLaws.{element_bytes-int8, element_bytes-other}
use Rattle.walk_calls.proofs.atoms.size.Goals as goal

pub returns-then-precision-eq0 : goal.returns-then-precision-eq0
returns-then-precision-eq0 c = sym (element_bytes-int8 c.args.precision c.if-precision-eq0.true)

pub returns-else-precision-eq0 : goal.returns-else-precision-eq0
returns-else-precision-eq0 c = sym (element_bytes-other c.args.precision c.if-precision-eq0.false)
