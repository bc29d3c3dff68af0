-- `cube::write::all` meets its contract. The outer loop's invariant: the buffer came toward what it is to become, and reached it in the channels
-- before n; the inner one's: whatever it is to become, since the loop began it came nearer, and reached it in the rows before r. Assumes nothing.
use Prim.Native.Nat.{ℕ, ◌-◌, ◌*◌, ◌%◌, ◌<◌, ◌≤◌}
use mathlib.Core.Path.{◌≡◌}
use mathlib.Core.Bool.{Bool, true, not}
use lib.Dec.{eqb}
use mathlib.Core.List.{List}
use lib.ListN.{length}
use Rattle.general.proofs.Toward.{Toward}
use Rattle.general.proofs.NestLaws.{Before, Rows}
use Rattle.layout.specs.Geometry.{size_of}
use Rattle.cube.specs.Steps.{gathered, box_written}
use Rattle.cube.proofs.GoalLaws.{Goal, Reached}
use Rattle.cube.proofs.write.all.Given as goal

-- `PAD` as a test
abbrev pub pad : goal.Over → Bool
pad g = not (eqb g.row.PAD 0)

abbrev pub invariant-loop-r : goal.invariant-loop-r
invariant-loop-r g l =
    ((before goal : List ℕ) → length l.initial.buffer ≡ length before → Goal l.layout l.b (pad g) l.spacing.plane l.spacing.line l.elements before goal
    → Toward 0 goal l.initial.buffer l.buffer × Rows (Reached l.layout l.b (pad g) goal l.buffer) l.n l.m l.r)

abbrev pub invariant-loop-n : goal.invariant-loop-n
invariant-loop-n g l =
    (l.n ≤ l.b.channels) × ((pad g) ≡ true → l.n < l.b.channels → l.n * size_of l.layout % 32 ≡ 0)
    × Toward 0 (box_written l.layout l.b (pad g) (gathered l.b l.spacing.plane l.spacing.line l.elements) l.initial.buffer) l.initial.buffer l.buffer
    × Before (Reached l.layout l.b (pad g) (box_written l.layout l.b (pad g) (gathered l.b l.spacing.plane l.spacing.line l.elements) l.initial.buffer) l.buffer) l.b.rows l.n

abbrev pub decreases-loop-n : goal.decreases-loop-n
decreases-loop-n g l = l.b.channels - l.n
