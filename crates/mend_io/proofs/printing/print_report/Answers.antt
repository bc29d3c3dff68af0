-- `mend_io::printing::print_report` meets its contract. The loop's invariant: the lines before `from` are printed. The measure is what is left of the report. Assumes nothing.
use Prim.Native.Nat.{◌+◌}
use native.Mathlib.Omega.{arith}
use mathlib.Core.Path.{refl}
use mathlib.Core.List.{flatten}
use lib.ListN.{length}
use Rattle.lines.specs.Sums.{checksum}
use Rattle.mend_text.specs.Reports.{report_text}
use Rattle.mend_io.proofs.ReportLaws.{batch-rest, batch-turn, shown-all, shown-broken, shown-whole}
use borrow.Author.Rules.{rules}
use Rattle.mend_io.proofs.printing.print_report.Goals as goal

pub loop-from-init : goal.loop-from-init
unfolding checksum report_text flatten
loop-from-init c = (omega arith, refl, refl)

pub overflow_add-from : goal.overflow_add-from
overflow_add-from c =
    let a = c.args in
    let l = c.loop-from in
    let turn = batch-turn a.positions.now a.olds.now l.from (length l.text) c.requires.positions_len a.before l.sum l.invariant.0 l.invariant.1 c.print_lines-batch.ensures.printed in
    omega (arith, turn.0)

pub returns-then-not-batch : goal.returns-then-not-batch
returns-then-not-batch c =
    let a = c.args in
    let l = c.loop-from in
    let turn = batch-turn a.positions.now a.olds.now l.from (length l.text) c.requires.positions_len a.before l.sum l.invariant.0 l.invariant.1 c.print_lines-batch.ensures.printed in
    shown-broken _ _ (l.from + c.print_lines-batch.result.lines) turn.1

pub loop-from-smaller : goal.loop-from-smaller
loop-from-smaller c =
    let a = c.args in
    let l = c.loop-from in
    let turn = batch-turn a.positions.now a.olds.now l.from (length l.text) c.requires.positions_len a.before l.sum l.invariant.0 l.invariant.1 c.print_lines-batch.ensures.printed in
    let rest = batch-rest a.positions.now a.olds.now l.from (length l.text) c.requires.positions_len in
    let test = c.loop-from-test.true in
    let some = c.print_lines-batch.ensures.some (omega (arith, l.invariant.2, c.requires.in_bounds)) (omega (arith, rest, test)) in
    omega (arith, some, test, turn.0)

pub loop-from-preserved : goal.loop-from-preserved
loop-from-preserved c =
    let a = c.args in
    let l = c.loop-from in
    let turn = batch-turn a.positions.now a.olds.now l.from (length l.text) c.requires.positions_len a.before l.sum l.invariant.0 l.invariant.1 c.print_lines-batch.ensures.printed in
    (turn.0, turn.1, search rules)

pub returns : goal.returns
returns c =
    let a = c.args in
    let l = c.loop-from in
    shown-whole _ _ l.from l.invariant.1 (shown-all a.positions.now a.olds.now l.from c.requires.positions_len c.loop-from-test.false)
