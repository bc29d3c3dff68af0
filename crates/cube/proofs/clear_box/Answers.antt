-- `cube::clear_box` meets its contract: a refused call clears nothing, an accepted one clears the box. Assumes nothing.
use mathlib.Core.Path.{sym, ◌∙◌}
use Rattle.cube.proofs.FinalLaws.{was-cleared, clear_kept}
use Rattle.cube.proofs.clear_box.Goals as goal

pub returns-in_err-check_room-clause-left : goal.returns-in_err-check_room-clause-left
returns-in_err-check_room-clause-left c =
    let a = c.args in
    clear_kept a.layout a.b a.buffer.now (sym c.check_room.ensures ∙ c.in_err-check_room.was)

pub returns-clause-left : goal.returns-clause-left
returns-clause-left c =
    let a = c.args in
    was-cleared a.layout a.b a.buffer.now (sym c.check_room.ensures ∙ c.in_ok-check_room.was) c.zeros.ensures
