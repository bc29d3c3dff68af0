-- `script_calls::end_line` meets its contract: the row and the state are made of the line's record, number and answer. Assumes nothing.
use mathlib.Core.Path.{sym, ◌∙◌}
use Rattle.script_calls.proofs.AnswerLaws.{line-refused, line-done}
use Rattle.script_calls.proofs.end_line.Goals as goal
use Rattle.script_calls.proofs.end_line.Goals.{in-Ok, in-Err}

pub returns : goal.returns
returns c =
    let s = c.args in
    elim c.match-after_record.branch [
      | in-Ok w ↦ rw w.answer-is (line-done s.sheet s.read c.of_line-item.ensures c.next-lines.ensures (sym c.after_record.ensures ∙ w.in-Ok.is))
      | in-Err w ↦ rw w.answer-is (line-refused s.sheet s.read c.of_line-item.ensures c.next-lines.ensures (sym c.after_record.ensures ∙ w.in-Err.is))
    ]
