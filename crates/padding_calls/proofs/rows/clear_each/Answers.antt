-- `padding_calls::rows::clear_each` meets its contract: the bytes before the loop's are mended; each turn takes one, zero or not. Assumes nothing.
use Prim.Native.Nat.{ℕ, ◌+◌, ◌<◌}
use native.Mathlib.Omega.{arith}
use mathlib.Core.Path.{ap, ◌∙◌}
use mathlib.Core.Bool.{true}
use lib.ListN.{length}
use Rattle.padding_calls.specs.declared.rows.Report.{Report}
use Rattle.padding_calls.proofs.GoesLaws.{mends_then, goes-zero, goes-dirt}
use Rattle.padding_calls.proofs.rows.clear_each.Goals as goal
use Rattle.padding_calls.proofs.rows.clear_each.Goals.{then-old-ne0, else-old-ne0}

-- the report has a place for one line more
pub push-requires : goal.push-requires
push-requires c =
    let r = c.requires in
    let g = c.loop-i.invariant.goes in
    let t = c.loop-i-test.true in (
      omega (arith, t, r.to_le, g.count_le, r.positions_ge, g.positions_length),
      omega (arith, t, r.to_le, g.count_le, r.olds_ge, g.olds_length),
    )

pub loop-i-preserved : goal.loop-i-preserved
loop-i-preserved c =
    let a = c.args in
    let l = c.loop-i in
    let r = c.requires in
    let g = l.invariant.goes in
    let t = c.loop-i-test.true in
    let inside : l.i < length l.part = omega (arith, t, r.to_le, g.part_length) in
    let place : l.report.lines < length l.report.positions.now = omega (arith, t, r.to_le, g.count_le, r.positions_ge, g.positions_length) in
    let old_place : l.report.lines < length l.report.olds.now = omega (arith, t, r.to_le, g.count_le, r.olds_ge, g.olds_length) in
    let more = mends_then (λ (x : ℕ). true) a.first a.from l.i (l.i + 1) a.part.now a.report.now l.part l.report c.if-old-ne0.part c.if-old-ne0.report l.auto.i (omega arith) l.invariant in
    elim c.if-old-ne0.branch [
      | then-old-ne0 w ↦
          let p = w.push.ensures in
          let is = w.report-is in
          more
          (record {
            same_positions = ap (λ (x : Report). x.positions.ghost_name) is ∙ p.same_reference.0;
            same_olds = ap (λ (x : Report). x.olds.ghost_name) is ∙ p.same_reference.1;
            goes = goes-dirt a.first l.part l.report.positions.now l.report.olds.now l.i l.report.lines _ _ _ _ inside g.count_le place old_place w.if-old-ne0.true
                (w.part-is, ap (λ (x : Report). x.positions.now) is ∙ p.positions, ap (λ (x : Report). x.olds.now) is ∙ p.olds, ap (λ (x : Report). x.lines) is ∙ p.lines);
          })
      | else-old-ne0 w ↦
          let is = w.report-is in
          more
          (record {
            same_positions = ap (λ (x : Report). x.positions.ghost_name) is;
            same_olds = ap (λ (x : Report). x.olds.ghost_name) is;
            goes = goes-zero (λ (x : ℕ). true) a.first l.part l.report.positions.now l.report.olds.now l.i l.report.lines _ _ _ _ inside g.count_le w.if-old-ne0.false
                (w.part-is, ap (λ (x : Report). x.positions.now) is, ap (λ (x : Report). x.olds.now) is, ap (λ (x : Report). x.lines) is);
          })
    ]
