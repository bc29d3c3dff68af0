-- `weights_calls::write::runs` meets its contract. The loop's invariant: the buffer comes nearer to what it is to be, and the bytes of all runs
-- before the walk's are written. The measure is the walk's rank. Assumes nothing.
use mathlib.Core.Path.{ap, ◌∙◌}
use lib.ListN.{length}
use Rattle.columns.specs.declared.ColumnBlock.{ColumnBlock}
use Rattle.columns.specs.Blocks.{block_written}
use Rattle.weights.proofs.CallLaws.{admitted}
use Rattle.weights_calls.proofs.RunLaws.{next-less}
use Rattle.weights_calls.proofs.WriteLaws.{write-first, write-next, write_done}
use Rattle.weights_calls.proofs.write.runs.Goals as goal

pub loop-run-init : goal.loop-run-init
loop-run-init c =
    let a = c.args in
    let adm = admitted a.tensor.layout (length a.elements.now) (length a.buffer.now) c.requires in
    write-first a.tensor.layout a.elements.now a.buffer.now adm.layout

pub loop-run-smaller : goal.loop-run-smaller
loop-run-smaller c =
    let a = c.args in
    let adm = admitted a.tensor.layout (length a.elements.now) (length a.buffer.now) c.requires in
    next-less a.tensor.layout adm.layout c.loop-run.run c.next-run.result (c.loop-run.invariant.at c.loop-run-test.true) c.next-run.ensures

pub loop-run-preserved : goal.loop-run-preserved
loop-run-preserved c =
    let a = c.args in
    let l = c.loop-run in
    let adm = admitted a.tensor.layout (length a.elements.now) (length a.buffer.now) c.requires in
    write-next a.tensor.layout a.elements.now a.buffer.now adm.room adm.layout adm.count l.run c.next-run.result
    (l.invariant.at c.loop-run-test.true) l.invariant (c.write.ensures ∙ ap (λ (k : ColumnBlock). block_written k a.elements.now l.buffer) c.run_columns.ensures) c.next-run.ensures

pub returns : goal.returns
returns c =
    let a = c.args in
    let adm = admitted a.tensor.layout (length a.elements.now) (length a.buffer.now) c.requires in
    write_done a.tensor.layout a.elements.now a.buffer.now adm.room adm.layout c.loop-run.run c.loop-run.buffer c.loop-run-test.false c.loop-run.invariant
