-- `lines_calls::add` meets its contract: each byte is added, or lost behind the line's 120. Assumes nothing.
use mathlib.Core.Path.{◌∙◌}
use Rattle.lines.specs.declared.Line.{Line}
use Rattle.lines.proofs.StepLaws.{added-kept, added-lost, added-end}
use Rattle.lines_calls.proofs.add.Goals as goal
use Rattle.lines_calls.proofs.add.Goals.{then-length-lt120, else-length-lt120}

pub loop-b-preserved : goal.loop-b-preserved
loop-b-preserved c =
    let l = c.loop-b in
    let line : Line = record { length = l.length; bytes = l.bytes } in
    elim c.if-length-lt120.branch [
      | then-length-lt120 w ↦ rw (w.length-is, w.bytes-is) (added-kept line c.args.more.now l.b-index c.loop-b-test.true w.if-length-lt120.true ∙ l.invariant)
      | else-length-lt120 w ↦ rw (w.length-is, w.bytes-is) (added-lost line c.args.more.now l.b-index c.loop-b-test.true w.if-length-lt120.false ∙ l.invariant)
    ]

pub returns : goal.returns
returns c =
    let l = c.loop-b in
    added-end (record { length = l.length; bytes = l.bytes }) c.args.more.now l.b-index c.loop-b-test.false ∙ l.invariant
