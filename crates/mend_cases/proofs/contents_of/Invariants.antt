-- `mend_cases::contents_of` is safe and ends: each turn reads at least one byte. The loop's invariant: the buffer keeps its length. Assumes nothing.
use Prim.Native.Nat.{◌-◌}
use mathlib.Core.Path.{◌≡◌}
use lib.ListN.{length}
use Rattle.mend_cases.proofs.contents_of.Given as goal

abbrev pub invariant-loop-length : goal.invariant-loop-length
invariant-loop-length l = 65536 ≡ length l.buffer

abbrev pub decreases-loop-length : goal.decreases-loop-length
decreases-loop-length l = 18446744073709551615 - l.length
