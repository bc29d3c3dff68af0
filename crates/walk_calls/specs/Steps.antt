-- What the private functions of this crate give. Their contracts cite these; no public promise rests on them. Assumes nothing.
use Rattle.std.specs.Prelude.{◌+◌, ◌^◌, cond, ◌&&◌, ltb, Option, Some, None}
use Rattle.walk.specs.declared.Walk.{Walk}
use Rattle.walk.specs.declared.Stride.{Stride}
use Rattle.walk.specs.Walks.{stride_of, moved, atom_left}

-- the walk a stride further on, where both sums are numbers of 64 bits
unfoldable pub moved_on : Walk → Stride → Option Walk
moved_on w s = cond (ltb (w.position + s.bytes) (2 ^ 64) && ltb (w.index + s.elements) (2 ^ 64)) (Some (moved w s)) None

-- the walk behind the next atom, where one is left
unfoldable pub walk_behind : Walk → Option Walk
walk_behind w = cond (atom_left w) (Some (moved w (stride_of w))) None
