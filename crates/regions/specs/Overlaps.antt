-- Overlapping, in the paper's words (scope paper, "Stalls"): "some (w, h) position is in a stall already placed". Assumes nothing.
use Rattle.std.specs.Prelude.{ℕ, ◌≡◌, true, List}
use Rattle.regions.specs.declared.Rectangle.{Rectangle}
use Rattle.regions.specs.Slots.{Slot, filled, rectangle_has}
use Rattle.regions.specs.Rules.{slot_at}

-- position (w, h) is in the rectangle g and in the rectangle of a filled slot
pub record Shared (slots : List Slot) (g : Rectangle) : Type 0 where
  pub w : ℕ
  pub h : ℕ
  pub mine : rectangle_has g w h ≡ true
  pub number : ℕ
  pub id : ℕ
  pub other : Rectangle
  pub there : slot_at slots number ≡ filled id other
  pub theirs : rectangle_has other w h ≡ true
