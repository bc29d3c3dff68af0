-- `cube::read_box` meets its contract: a refused call fills nothing, an accepted one reads the box row by row. Assumes nothing.
use mathlib.Core.Path.{◌≡◌, sym, ◌∙◌}
use lib.ListN.{length}
use Rattle.refusal.specs.Checks.{Accepted}
use Rattle.refusal.proofs.CheckLaws.{handed-on}
use Rattle.layout.specs.Calls.{read_box_answer}
use Rattle.cube.proofs.FinalLaws.{was_read, read_kept}
use Rattle.cube.proofs.read_box.Goals as goal

pub returns-in_err-admit : goal.returns-in_err-admit
unfolding read_box_answer
returns-in_err-admit c =
    let a = c.args in
    record {
      answered = handed-on c.from_residual.result c.from_residual.ensures.1 ∙ sym c.in_err-admit.was ∙ c.admit.ensures;
      left = read_kept a.layout a.b a.buffer.now a.elements.now (sym c.admit.ensures ∙ c.in_err-admit.was);
    }

pub returns : goal.returns
unfolding read_box_answer
returns c =
    let a = c.args in
    let accepted : read_box_answer a.layout a.b (length a.elements.now) (length a.buffer.now) ≡ Accepted = sym c.admit.ensures ∙ c.in_ok-admit.was in
    record { answered = sym accepted; left = was_read a.layout a.b a.buffer.now a.elements.now accepted c.all.ensures }
