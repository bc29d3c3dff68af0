-- `padding_calls::rows::row` meets its contract: what stands before the loop's byte is mended; each turn ends an atom, or the row. Assumes nothing.
use Prim.Native.Nat.{ℕ, ◌-◌, ◌%◌, ◌≤◌}
use lib.Dec.{leb}
use Rattle.padding_calls.specs.Steps.{Mends}
use Rattle.padding_calls.proofs.rows.row.Given as goal

abbrev pub invariant-loop-i : goal.invariant-loop-i
invariant-loop-i l = (l.from ≤ l.i) × (l.i ≤ l.to) × Mends (λ (x : ℕ). leb l.pad (x % 32)) l.first l.from l.i l.initial.part l.initial.report l.part l.report

abbrev pub decreases-loop-i : goal.decreases-loop-i
decreases-loop-i l = l.to - l.i
