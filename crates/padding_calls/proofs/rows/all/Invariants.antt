-- `padding_calls::rows::all` meets its contract: what stands before the loop's byte is mended; each turn ends a stretch, or the part. Assumes nothing.
use Prim.Native.Nat.{◌-◌, ◌≤◌}
use mathlib.Core.Path.{◌≡◌}
use lib.ListN.{length}
use Rattle.padding.specs.Calls.{lent}
use Rattle.padding_calls.specs.Steps.{Done}
use Rattle.padding_calls.proofs.rows.all.Given as goal

abbrev pub invariant-loop-i : goal.invariant-loop-i
invariant-loop-i l =
    (l.report.positions.ghost_name ≡ l.initial.report.positions.ghost_name) × (l.report.olds.ghost_name ≡ l.initial.report.olds.ghost_name)
    × (l.i ≤ length l.initial.part) × (l.report.lines ≤ l.i) × (length l.part ≡ length l.initial.part) × (length l.report.positions.now ≡ length l.initial.report.positions.now) × (length l.report.olds.now ≡ length l.initial.report.olds.now)
    × Done l.layout l.first (lent l.initial.part l.initial.report.positions.now l.initial.report.olds.now) l.i l.report.lines l.part l.report.positions.now l.report.olds.now

abbrev pub decreases-loop-i : goal.decreases-loop-i
decreases-loop-i l = length l.part - l.i
