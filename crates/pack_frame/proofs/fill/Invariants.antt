-- `pack_frame::fill` meets its contract. The loop's invariant: each index below `i` has its element. Assumes nothing.
use Rattle.std.proofs.Common.{◌≡◌, ℕ, ◌%◌, ◌<◌, pos, ◌-ℤ◌, get_or}
use Rattle.pack_frame.proofs.fill.Given as goal

abbrev pub invariant-loop-i : goal.invariant-loop-i
invariant-loop-i l = (k : ℕ) → k < l.i → get_or l.elements k (pos 0) ≡ pos (k % 251) -ℤ pos 125
