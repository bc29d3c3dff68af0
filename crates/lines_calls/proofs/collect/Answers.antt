-- `lines_calls::collect` meets its contract: the bytes up to the first newline, or all, are added to the line. Assumes nothing.
use Prim.Native.Nat.{◌≤◌}
use mathlib.Core.Path.{sym}
use lib.ListN.{length}
use lib.Seq.{length-take-le}
use Rattle.lines.proofs.SplitLaws.{part_length-le}
use Rattle.lines.proofs.StepLaws.{collected-ended, collected-open}
use Rattle.lines_calls.proofs.collect.Goals as goal

pub slice_bounds-add-end : goal.slice_bounds-add-end
slice_bounds-add-end c =
    let within : c.part_length-n.result ≤ length c.args.part.now = rw c.part_length-n.ensures (part_length-le 10 c.args.part.now) in
    sym (length-take-le _ _ within)

pub returns-then-n-part : goal.returns-then-n-part
returns-then-n-part c =
    let a = c.args in
    collected-ended a.lines a.part.now c.part_length-n.ensures c.add-line.ensures c.if-n-part.true

pub returns-else-n-part : goal.returns-else-n-part
returns-else-n-part c =
    let a = c.args in
    collected-open a.lines a.part.now c.part_length-n.ensures c.add-line.ensures c.if-n-part.false
