-- `padding_calls::rows::clear_each` meets its contract: the bytes before the loop's are mended; each turn takes one, zero or not. Assumes nothing.
use Prim.Native.Nat.{ℕ}
use mathlib.Core.Bool.{true}
use Rattle.padding_calls.specs.Steps.{Mends}
use Rattle.padding_calls.proofs.rows.clear_each.Given as goal

abbrev pub invariant-loop-i : goal.invariant-loop-i
invariant-loop-i l = Mends (λ (x : ℕ). true) l.first l.from l.i l.initial.part l.initial.report l.part l.report
