-- `walk_calls::atoms::full` meets its contract: its test is that of the element's size. Assumes nothing.
use mathlib.Core.Path.{sym}
use Rattle.walk.proofs.SizeLaws.{atom_elements-int8, atom_elements-other}
use Rattle.walk_calls.proofs.atoms.full.Goals as goal

pub returns-then-precision-eq0 : goal.returns-then-precision-eq0
returns-then-precision-eq0 c = sym (atom_elements-int8 c.args.precision c.if-precision-eq0.true)

pub returns-else-precision-eq0 : goal.returns-else-precision-eq0
returns-else-precision-eq0 c = sym (atom_elements-other c.args.precision c.if-precision-eq0.false)
