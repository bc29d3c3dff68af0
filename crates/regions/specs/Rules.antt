-- The checks of placing, editing, reading and releasing, in their order (scope paper, "Stalls", "Refusal numbers"; change request K1). They look at the cube's layout and the
-- slots alone, so that the program's table and the reference model are judged by the same rules. Assumes nothing.
use Rattle.std.specs.Prelude.{ℕ, ◌+◌, Bool, true, false, not, ◌&&◌, List, [], ◌∷◌, ◌++◌, length, get_or, ℤ, ltb, eqb}
use Rattle.refusal.specs.declared.Refusal.TheVariants.{Slot as SlotRefusal, Bounds, Overlap, OwnerId}
use Rattle.refusal.specs.Checks.{require, Answer}
use Rattle.refusal.specs.Sizes.{size_valid}
use Rattle.elements.specs.Values.{value_checks}
use Rattle.layout.specs.declared.CubeLayout.{CubeLayout}
use Rattle.layout.specs.declared.ElementBox.{ElementBox}
use Rattle.layout.specs.Boxes.{span_inside, box_count}
use Rattle.layout.specs.Rules.{layout_checks, room_checks, storage_checks}
use Rattle.regions.specs.declared.Rectangle.{Rectangle}
use Rattle.regions.specs.declared.RegionTable.{RegionTable}
use Rattle.regions.specs.Slots.{rectangle, Slot, empty, filled, slots_of, overlaps, rectangle_inside}

-- the slot with a number; past the last there is none filled
unfoldable pub slot_at : List Slot → ℕ → Slot
slot_at slots n = get_or slots n empty

unfoldable pub is_filled : Slot → Bool
is_filled empty = false
is_filled (filled id g) = true

-- the rectangle of a filled slot
unfoldable pub rectangle_of : Slot → Rectangle
rectangle_of empty = rectangle 0 0 0 0
rectangle_of (filled id g) = g

-- the owner's id of a filled slot
unfoldable pub id_of : Slot → ℕ
id_of empty = 0
id_of (filled id g) = id

abbrev pub rectangle_at : List Slot → ℕ → Rectangle
rectangle_at slots n = rectangle_of (slot_at slots n)

-- the box, counted from the rectangle's corner, has elements, all of them in the rectangle
unfoldable pub box_in_rectangle : CubeLayout → Rectangle → ElementBox → Bool
box_in_rectangle q g b =
    span_inside b.channel b.channels q.channels && span_inside b.row b.rows g.rows && span_inside b.column b.columns g.columns

-- the box of the cube that such a box is
abbrev pub cube_box : Rectangle → ElementBox → ElementBox
cube_box g b =
    record {
      channel = b.channel;
      row = g.row + b.row;
      column = g.column + b.column;
      channels = b.channels;
      rows = b.rows;
      columns = b.columns;
    }

-- what a call on a region goes by: the cube's layout, the slots, the number of the slot that it names, and the owner's id that it gives
pub record Access : Type 0 where
  pub layout : CubeLayout
  pub slots : List Slot
  pub number : ℕ
  pub id : ℕ

abbrev pub access : CubeLayout → List Slot → ℕ → ℕ → Access
access q slots n id = record { layout = q; slots = slots; number = n; id = id }

-- on a table
abbrev pub access_of : RegionTable → ℕ → ℕ → Access
access_of t n id = access t.layout (slots_of t) n id

-- the slot that it names, the rectangle there, and the box of the cube that a box of that region is
abbrev pub slot_named : Access → Slot
slot_named a = slot_at a.slots a.number

abbrev pub rectangle_named : Access → Rectangle
rectangle_named a = rectangle_at a.slots a.number

abbrev pub region_box : Access → ElementBox → ElementBox
region_box a b = cube_box (rectangle_named a) b

-- all of a rectangle, counted from its corner, every channel, row and column; and all of the region named
abbrev pub whole_of : CubeLayout → Rectangle → ElementBox
whole_of q g = record { channel = 0; row = 0; column = 0; channels = q.channels; rows = g.rows; columns = g.columns }

abbrev pub whole_region : Access → ElementBox
whole_region a = whole_of a.layout (rectangle_named a)

-- an owner's id, 1 to 65535
abbrev pub id_valid : ℕ → Bool
id_valid id = size_valid 65535 id

-- place: 1 to 4, 25, 8, 9, 10
unfoldable pub place_checks : Access → Rectangle → List Answer
place_checks a g =
    layout_checks a.layout
    ++ (require OwnerId (id_valid a.id)
    ∷ require SlotRefusal (ltb a.number 16 && not (is_filled (slot_named a)))
    ∷ require Bounds (rectangle_inside a.layout g)
    ∷ require Overlap (not (overlaps a.slots g))
    ∷ [])

-- a slot that a call goes through: 1 to 4, 8, 25; the id is an owner's, and this region's
unfoldable pub slot_checks : Access → List Answer
slot_checks a =
    layout_checks a.layout
    ++ (require SlotRefusal (ltb a.number 16 && is_filled (slot_named a))
    ∷ require OwnerId (id_valid a.id && eqb a.id (id_of (slot_named a)))
    ∷ [])

-- a box in a rectangle: 9; the rectangle is in the cube, the box is in the rectangle
abbrev pub bounds_checks : CubeLayout → Rectangle → ElementBox → List Answer
bounds_checks q g b = require Bounds (rectangle_inside q g) ∷ require Bounds (box_in_rectangle q g b) ∷ []

-- a box in the region of a slot: 1 to 4, 8, 25, 9
unfoldable pub region_box_checks : Access → ElementBox → List Answer
region_box_checks a b = slot_checks a ++ bounds_checks a.layout (rectangle_named a) b

-- read: 1 to 4, 8, 25, 9, 6, 5
unfoldable pub read_checks : Access → ElementBox → ℕ → ℕ → List Answer
read_checks a b given len = region_box_checks a b ++ storage_checks a.layout (box_count b) given len

-- edit: 1 to 4, 8, 25, 9, 6, 5, then 7 or 26
unfoldable pub edit_checks : Access → ElementBox → List ℤ → ℕ → List Answer
edit_checks a b elements len =
    region_box_checks a b ++ (storage_checks a.layout (box_count b) (length elements) len ++ value_checks a.layout.precision elements)

-- release: 1 to 4, 8, 25, 9, 5; all of the region
unfoldable pub release_checks : Access → ℕ → List Answer
release_checks a len = region_box_checks a (whole_region a) ++ room_checks a.layout len
