-- `lines_calls::read_numbers` meets its contract. The loop's invariant: the first `count` values are the numbers of the fields up to `at`. The measure is
-- what is left of the text. Assumes nothing.
use Prim.Native.Nat.{◌-◌, ◌≤◌}
use lib.ListN.{length, drop}
use Rattle.lines.specs.Texts.{parts_behind}
use Rattle.lines.proofs.TableLaws.{Passed}
use Rattle.lines_calls.proofs.read_numbers.Given as goal

abbrev pub invariant-loop-at : goal.invariant-loop-at
invariant-loop-at l =
    (l.at ≤ length l.rest) × (l.count ≤ 7) × Passed (parts_behind 9 l.rest) l.count l.values (parts_behind 9 (drop l.at l.rest))

abbrev pub decreases-loop-at : goal.decreases-loop-at
decreases-loop-at l = length l.rest - l.at
