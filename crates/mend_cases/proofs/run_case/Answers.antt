-- `mend_cases::run_case` is safe: the name ends within the case. Assumes nothing.
use mathlib.Core.Path.{sym}
use lib.Seq.{length-take-le}
use Rattle.lines.proofs.SplitLaws.{part_length-le}
use Rattle.mend_cases.proofs.run_case.Goals as goal

pub slice_bounds-show-end : goal.slice_bounds-show-end
slice_bounds-show-end c = sym (length-take-le _ _ (rw c.part_length-n.ensures (part_length-le 10 c.args.case.now)))
