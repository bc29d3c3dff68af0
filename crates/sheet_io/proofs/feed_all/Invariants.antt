-- `sheet_io::feed_all` meets its contract: each call reads a byte at least, and its text is written. The loop's invariant: the calls for what is left of the
-- part come to the state and the checksum of those for all of it. The measure is what is left. Assumes nothing.
use Prim.Native.Nat.{◌-◌, ◌≤◌}
use mathlib.Core.Path.{◌≡◌}
use lib.ListN.{length, drop}
use Rattle.script.specs.Feed.{part_fed, whole_part}
use Rattle.sheet_io.specs.Printing.{calls_printed}
use Rattle.sheet_io.proofs.feed_all.Given as goal

abbrev pub invariant-loop-from : goal.invariant-loop-from
invariant-loop-from l =
    (l.from ≤ length l.part) × (calls_printed l.sum (part_fed (length l.part - l.from) l.sheet (drop l.from l.part)) ≡ calls_printed l.initial.sum (whole_part l.initial.sheet l.part))

abbrev pub decreases-loop-from : goal.decreases-loop-from
decreases-loop-from l = length l.part - l.from
