-- `padding_calls::rows::all_zero` meets its contract: as long as it says yes, the bytes before the loop's are zero. Assumes nothing.
use mathlib.Core.Path.{◌≡◌}
use mathlib.Core.Bool.{true}
use Rattle.padding_calls.specs.Steps.{Zeros}
use Rattle.padding_calls.proofs.rows.all_zero.Given as goal

abbrev pub invariant-loop-b : goal.invariant-loop-b
invariant-loop-b l = l.clean ≡ true → Zeros 0 l.b-index l.bytes
