-- `padding_calls::rows::row` meets its contract: what stands before the loop's byte is mended; each turn ends an atom, or the row. Assumes nothing.
use Prim.Native.Nat.{ℕ, ◌+◌, ◌-◌, ◌%◌, ◌<◌, min}
use native.Mathlib.Omega.{arith}
use mathlib.Core.Path.{◌≡◌}
use lib.Dec.{leb}
use Rattle.padding_calls.proofs.GoesLaws.{mends_then, goes-atom}
use Rattle.padding_calls.proofs.rows.row.Goals as goal

pub loop-i-preserved : goal.loop-i-preserved
loop-i-preserved c =
    let l = c.loop-i in
    let a = c.args in
    let m = l.invariant.2 in
    let e = c.clear.ensures in
    let end = l.i + c.min.result in
    let start = l.i + c.min-in-loop-i.result in
    let end-is : end ≡ min (l.i + (32 - (a.first + l.i) % 32)) a.to = omega (arith, c.min.ensures, c.loop-i-test.true) in
    let start-is : start ≡ min (l.i + (a.pad - (a.first + l.i) % 32)) end = omega (arith, c.min-in-loop-i.ensures, c.saturating_sub.ensures) in
    let onward : l.i < end = omega (arith, end-is, c.loop-i-test.true) in
    let one =
    goes-atom a.first l.part l.report.positions.now l.report.olds.now a.pad l.i a.to start end l.report.lines _ _ _ _ c.loop-i-test.true
    (omega (arith, c.requires.to_le, m.goes.part_length)) m.goes.count_le end-is start-is e.goes in (
      omega (arith, onward, l.invariant.0),
      omega (arith, end-is),
      mends_then (λ (x : ℕ). leb a.pad (x % 32)) a.first a.from l.i end a.part.now a.report.now l.part l.report _ _ l.invariant.0 (omega (arith, onward)) m
          (record { same_positions = e.same_positions; same_olds = e.same_olds; goes = one }),
    )
