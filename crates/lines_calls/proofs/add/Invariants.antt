-- `lines_calls::add` meets its contract. The loop's invariant: the rest of the bytes added to the line so far come to all of them added to the line.
-- Assumes nothing.
use mathlib.Core.Path.{◌≡◌}
use lib.ListN.{drop}
use Rattle.lines.specs.Collecting.{added}
use Rattle.lines_calls.proofs.add.Given as goal

abbrev pub invariant-loop-b : goal.invariant-loop-b
invariant-loop-b l =
    added (record { length = l.length; bytes = l.bytes }) (drop l.b-index l.more) ≡ added (record { length = l.initial.length; bytes = l.initial.bytes }) l.more
