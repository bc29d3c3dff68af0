-- `lut_calls::run` meets its contract: a refused run leaves everything, an accepted one answers every sample. Assumes nothing.
use mathlib.Core.Path.{◌≡◌, sym, ◌∙◌}
use native.Mathlib.Omega.{arith}
use lib.ListN.{length}
use Rattle.refusal.specs.Checks.{Accepted}
use Rattle.lut.specs.Calls.{run_answer}
use Rattle.lut.proofs.ValidLaws.{valid-run, outputs-left, counters-left, outputs-kept, counters-kept}
use Rattle.lut_calls.proofs.run.Goals as goal

-- the answer is the definition's
pub returns-in-Err : goal.returns-in-Err
unfolding run_answer
returns-in-Err c =
    let a = c.args in
    let e = sym c.check.ensures ∙ c.in-Err.is in
    record {
      answered = sym e;
      counted = counters-kept a.s a.xs.now a.ys.now a.samples.now a.outputs.now a.counters e;
      left = outputs-kept a.s a.xs.now a.ys.now a.samples.now a.outputs.now a.counters e;
    }

pub answer_all-requires : goal.answer_all-requires
unfolding run_answer
answer_all-requires c =
    let a = c.args in
    let t = valid-run a.s a.xs.now a.ys.now a.samples.now a.outputs.now a.counters (sym c.check.ensures ∙ c.in-Ok.is) in
    record { in_bounds = (omega (arith, t.x_long), omega (arith, t.y_long), t.valid_x, t.valid_y); outputs_len = (t.long, t.room) }

pub returns-in-Ok : goal.returns-in-Ok
unfolding run_answer
returns-in-Ok c =
    let a = c.args in
    let e : run_answer a.s a.xs.now a.ys.now a.samples.now (length a.outputs.now) a.counters ≡ Accepted = sym c.check.ensures ∙ c.in-Ok.is in
    record {
      answered = sym e;
      counted = c.answer_all.ensures.tallied ∙ counters-left a.s a.xs.now a.ys.now a.samples.now a.outputs.now a.counters e;
      left = c.answer_all.ensures.answered ∙ outputs-left a.s a.xs.now a.ys.now a.samples.now a.outputs.now a.counters e;
    }
