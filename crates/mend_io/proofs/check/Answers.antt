-- `mend_io::check` meets its contract: the box check of the whole cube never refuses. Assumes nothing.
use mathlib.Core.Path.{◌∙◌}
use Rattle.mend_io.proofs.EndLaws.{room-checks}
use Rattle.mend_io.proofs.check.Goals as goal

pub returns : goal.returns
returns c = let a = c.args in c.check_room.ensures ∙ room-checks a.layout a.size
