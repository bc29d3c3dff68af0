-- The slots of a region table (scope paper, "Stalls"). Assumes nothing.
use Rattle.std.specs.Prelude.{ℕ, zero, suc, Bool, false, cond, ◌&&◌, ◌||◌, List, [], ◌∷◌, map, replicate}
use Rattle.layout.specs.declared.CubeLayout.{CubeLayout}
use Rattle.layout.specs.Boxes.{span_inside, span_has}
use Rattle.regions.specs.declared.Rectangle.{Rectangle}
use Rattle.regions.specs.declared.Region.{Region}
use Rattle.regions.specs.declared.RegionTable.{RegionTable}

-- a rectangle of (w, h) positions: first column and row, columns and rows
abbrev pub rectangle : ℕ → ℕ → ℕ → ℕ → Rectangle
rectangle column row columns rows = record { column = column; row = row; columns = columns; rows = rows }

-- a slot: empty, or filled with a region: its owner's id, and its rectangle, which reaches over all channels (the paper's "stall")
pub data Slot : Type 0 where
  empty : Slot
  filled : (id : ℕ) → Rectangle → Slot

-- the slot that a struct of the table stands for: the id and the rectangle of one that is not placed mean nothing
unfoldable pub slot_of : Region → Slot
slot_of r = cond r.placed (filled r.owner r.rectangle) empty

-- the slots of a table
unfoldable pub slots_of : RegionTable → List Slot
slots_of t = map slot_of t.slots

-- sixteen empty slots
unfoldable pub empty_slots : List Slot
empty_slots = replicate 16 empty

-- position (w, h) is in the rectangle
unfoldable pub rectangle_has : Rectangle → ℕ → ℕ → Bool
rectangle_has g w h = span_has g.column g.columns w && span_has g.row g.rows h

-- position (w, h) is in a rectangle already placed
unfoldable pub occupied : List Slot → ℕ → ℕ → Bool
occupied [] w h = false
occupied (empty ∷ slots) w h = occupied slots w h
occupied (filled id g ∷ slots) w h = rectangle_has g w h || occupied slots w h

-- some number of the `count` from `first` on passes the test
unfoldable pub any_from : (ℕ → Bool) → ℕ → ℕ → Bool
any_from test first zero = false
any_from test first (suc count) = test first || any_from test (suc first) count

-- some (w, h) position of the rectangle is in a rectangle already placed
unfoldable pub overlaps : List Slot → Rectangle → Bool
overlaps slots g = any_from (λ (w : ℕ). any_from (λ (h : ℕ). occupied slots w h) g.row g.rows) g.column g.columns

-- the rectangle has positions, and all of them are in the cube
unfoldable pub rectangle_inside : CubeLayout → Rectangle → Bool
rectangle_inside q g = span_inside g.column g.columns q.width && span_inside g.row g.rows q.height
