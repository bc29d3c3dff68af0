-- `lines_calls::add_number` meets its contract. The loop's invariant: the digits of what is left of the number, and those written, are the number's; what
-- is left has at most `at` digits. The measure is what is left. Assumes nothing.
use Prim.Native.Nat.{◌<◌, ◌^◌}
use mathlib.Core.Path.{◌≡◌}
use mathlib.Core.List.{◌++◌}
use lib.ListN.{length, drop}
use Rattle.lines.specs.Digits.{leading, digits}
use Rattle.lines_calls.proofs.add_number.Given as goal

abbrev pub invariant-loop-rest : goal.invariant-loop-rest
invariant-loop-rest l = (l.at < 20) × (l.rest < 10 ^ l.at) × (length l.text ≡ 20) × (leading l.rest ++ drop l.at l.text ≡ digits l.n)

abbrev pub decreases-loop-rest : goal.decreases-loop-rest
decreases-loop-rest l = l.rest
