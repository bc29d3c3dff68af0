-- `mend_text::gather` meets its contract. The loop's invariant: the first i lines, of `at` bytes, are gathered, and those of what is left that fit decide (`Gathering`). Assumes
-- nothing.
use Rattle.mend_text.proofs.StepLaws.{Gathering}
use Rattle.mend_text.proofs.gather.Given as goal

abbrev pub invariant-loop-i : goal.invariant-loop-i
invariant-loop-i l = Gathering l.positions l.olds l.initial.out l.i l.at l.out
