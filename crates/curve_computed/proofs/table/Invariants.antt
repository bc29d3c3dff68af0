-- `curve_computed::table` meets its contract. The loop's invariant: the first i entries are the curve's. Assumes nothing.
use Prim.Native.Nat.{ℕ, ◌<◌}
use mathlib.Core.Path.{◌≡◌}
use lib.ListN.{length, get_or}
use lib.IntN.{pos}
use Rattle.camera.specs.Curve.{curve_entry}
use Rattle.curve_computed.proofs.table.Given as goal

abbrev pub invariant-loop-i : goal.invariant-loop-i
invariant-loop-i g l = (length l.entries ≡ g.row.N) × ((k : ℕ) → k < l.i → get_or l.entries k (pos 0) ≡ curve_entry l.last l.step k)
