-- `mend_io::copying::copy` meets its contract. The loop's invariant: the header and the reports of the parts so far are printed, and the buffers keep their lengths. The measure is what is left
-- of the length read: a part has at least one byte, and ends within it. Assumes nothing.
use Prim.Native.Nat.{◌-◌}
use mathlib.Core.Path.{◌≡◌}
use lib.ListN.{length}
use Rattle.mend_io.proofs.CopyLaws.{Copying}
use Rattle.mend_io.proofs.copying.copy.Given as goal

abbrev pub invariant-loop-next : goal.invariant-loop-next
invariant-loop-next l =
    Copying l.layout l.at l.sum × (length l.part ≡ length l.initial.part) × (length l.positions ≡ length l.initial.positions) × (length l.olds ≡ length l.initial.olds) × (length l.text ≡ length l.initial.text)

abbrev pub decreases-loop-next : goal.decreases-loop-next
decreases-loop-next l = l.size - l.at
