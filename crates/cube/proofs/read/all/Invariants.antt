-- `cube::read::all` meets its contract. The outer loop's invariant: the elements of the channels before n are read; the inner one's: since it began
-- the elements came toward the box's, and those of the rows before r are read. Assumes nothing.
use Prim.Native.Nat.{◌-◌, ◌≤◌}
use mathlib.Core.Path.{◌≡◌}
use lib.ListN.{length}
use lib.IntN.{pos}
use Rattle.general.proofs.Toward.{Toward}
use Rattle.general.proofs.NestLaws.{Before, Rows}
use Rattle.layout.specs.Boxes.{box_count}
use Rattle.layout.specs.Contents.{box_elements}
use Rattle.cube.proofs.ReadLaws.{RowRead}
use Rattle.cube.proofs.read.all.Given as goal

abbrev pub invariant-loop-r : goal.invariant-loop-r
invariant-loop-r l =
    (length l.initial.elements ≡ box_count l.b
    → Toward (pos 0) (box_elements l.layout l.b l.buffer) l.initial.elements l.elements × Rows (RowRead l.b (box_elements l.layout l.b l.buffer) l.elements) l.n l.m l.r)

abbrev pub invariant-loop-n : goal.invariant-loop-n
invariant-loop-n l =
    (l.n ≤ l.b.channels) × (length l.elements ≡ box_count l.b) × Before (RowRead l.b (box_elements l.layout l.b l.buffer) l.elements) l.b.rows l.n

abbrev pub decreases-loop-n : goal.decreases-loop-n
decreases-loop-n l = l.b.channels - l.n
