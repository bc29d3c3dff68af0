-- `lines_calls::read_signed` meets its contract: a minus first, and the number behind it, or a number. Assumes nothing.
use Rattle.std.proofs.Common.{sym, ◌∙◌}
use Rattle.lines.proofs.NumberLaws.{signed-minus, signed-plain}
use Rattle.lines_calls.proofs.read_signed.Goals as goal

pub returns-in_err-read_number-in-Some : goal.returns-in_err-read_number-in-Some
returns-in_err-read_number-in-Some c =
    let found = c.in-Some.ensures.cases in
    c.from_residual.ensures ∙ sym (signed-minus c.args.text.now found.0 ∙ rw (← found.1, ← c.read_number.ensures, c.in_err-read_number-in-Some.was))

pub returns-in_ok-read_number-in-Some : goal.returns-in_ok-read_number-in-Some
returns-in_ok-read_number-in-Some c =
    let found = c.in-Some.ensures.cases in
    c.negated.ensures ∙ sym (signed-minus c.args.text.now found.0 ∙ rw (← found.1, ← c.read_number.ensures, c.in_ok-read_number-in-Some.was))

pub returns-in-None : goal.returns-in-None
returns-in-None c = c.read_number-in-None.ensures ∙ sym (signed-plain c.args.text.now c.in-None.ensures.cases)
