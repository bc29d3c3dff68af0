-- `weights_calls::read::runs` meets its contract. The loop's invariant: the elements come nearer to the raw weights, and those of all runs before the
-- walk's are read. The measure is the walk's rank. Assumes nothing.
use mathlib.Core.Path.{ap, ◌∙◌}
use lib.ListN.{length}
use Rattle.columns.specs.declared.ColumnBlock.{ColumnBlock}
use Rattle.columns.specs.Blocks.{block_read}
use Rattle.weights.proofs.CallLaws.{admitted}
use Rattle.weights_calls.proofs.RunLaws.{next-less}
use Rattle.weights_calls.proofs.ReadLaws.{read_first, read_next, read_done}
use Rattle.weights_calls.proofs.read.runs.Goals as goal

pub loop-run-init : goal.loop-run-init
loop-run-init c =
    let a = c.args in
    let adm = admitted a.tensor.layout (length a.elements.now) (length a.buffer.now) c.requires in
    read_first a.tensor.layout a.buffer.now adm.layout a.elements.now

pub loop-run-smaller : goal.loop-run-smaller
loop-run-smaller c =
    let a = c.args in
    let adm = admitted a.tensor.layout (length a.elements.now) (length a.buffer.now) c.requires in
    next-less a.tensor.layout adm.layout c.loop-run.run c.next-run.result (c.loop-run.invariant.at c.loop-run-test.true) c.next-run.ensures

pub loop-run-preserved : goal.loop-run-preserved
loop-run-preserved c =
    let a = c.args in
    let l = c.loop-run in
    let adm = admitted a.tensor.layout (length a.elements.now) (length a.buffer.now) c.requires in
    read_next a.tensor.layout a.buffer.now adm.layout adm.room a.elements.now adm.count l.run c.next-run.result
    (l.invariant.at c.loop-run-test.true) l.invariant (c.read.ensures ∙ ap (λ (k : ColumnBlock). block_read k a.buffer.now l.elements) c.run_columns.ensures) c.next-run.ensures

pub returns : goal.returns
returns c =
    let a = c.args in
    let adm = admitted a.tensor.layout (length a.elements.now) (length a.buffer.now) c.requires in
    read_done a.tensor.layout a.buffer.now adm.layout a.elements.now adm.count c.loop-run.run c.loop-run.elements c.loop-run-test.false c.loop-run.invariant
