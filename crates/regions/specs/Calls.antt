-- What placing, editing, reading and releasing answer and leave (scope paper, "Stalls"; change request K1). Where a call is refused, the table and every
-- lent list stay as they were; an edit and a read hand the table back as it came. Assumes nothing.
use Rattle.std.specs.Prelude.{ℕ, ◌+◌, true, false, List, length, set, replicate, ℤ, Result}
use Rattle.refusal.specs.Checks.{in_order, leaves, given, quantity, Answer, Quantity}
use Rattle.refusal.specs.declared.Fault.{Fault}
use Rattle.layout.specs.declared.CubeLayout.{CubeLayout}
use Rattle.layout.specs.declared.ElementBox.{ElementBox}
use Rattle.layout.specs.Boxes.{one_element, box_count}
use Rattle.layout.specs.Geometry.{element_position}
use Rattle.layout.specs.Contents.{edited, zeros_of, box_elements}
use Rattle.regions.specs.declared.Rectangle.{Rectangle}
use Rattle.regions.specs.declared.Region.{Region}
use Rattle.regions.specs.declared.RegionTable.{RegionTable}
use Rattle.regions.specs.Slots.{rectangle}
use Rattle.regions.specs.Rules.{access_of, rectangle_named, region_box, whole_region, place_checks, region_box_checks, read_checks, edit_checks, release_checks}

-- a slot with no region placed in it
abbrev pub no_region : Region
no_region = record { placed = false; owner = 0; rectangle = rectangle 0 0 0 0 }

-- the empty table of a layout
abbrev pub empty_table : CubeLayout → RegionTable
empty_table q = record { layout = q; slots = replicate 16 no_region }

-- a slot with a region placed in it
abbrev pub placed_region : ℕ → Rectangle → Region
placed_region id g = record { placed = true; owner = id; rectangle = g }

-- a table with one slot changed
abbrev pub with_slot : RegionTable → ℕ → Region → RegionTable
with_slot t n r = record { layout = t.layout; slots = set t.slots n r }

-- place: the region is of the owner whose id is given
unfoldable pub place_answer : RegionTable → ℕ → ℕ → Rectangle → Answer
place_answer t n id g = in_order (place_checks (access_of t n id) g)

unfoldable pub place_table : RegionTable → ℕ → ℕ → Rectangle → RegionTable
place_table t n id g = leaves (place_answer t n id g) (with_slot t n (placed_region id g)) t

-- edit: the box is counted from the corner of the region in the slot
unfoldable pub edit_answer : RegionTable → ℕ → ℕ → ElementBox → List ℤ → ℕ → Answer
edit_answer t n id b elements len = in_order (edit_checks (access_of t n id) b elements len)

unfoldable pub edit_buffer : RegionTable → ℕ → ℕ → ElementBox → List ℤ → List ℕ → List ℕ
edit_buffer t n id b elements before =
    leaves (edit_answer t n id b elements (length before)) (edited t.layout (region_box (access_of t n id) b) elements before) before

-- read
unfoldable pub read_answer : RegionTable → ℕ → ℕ → ElementBox → ℕ → ℕ → Answer
read_answer t n id b given len = in_order (read_checks (access_of t n id) b given len)

unfoldable pub read_elements : RegionTable → ℕ → ℕ → ElementBox → List ℕ → List ℤ → List ℤ
read_elements t n id b buffer before =
    leaves (read_answer t n id b (length before) (length buffer)) (box_elements t.layout (region_box (access_of t n id) b) buffer) before

-- release: every element of the region becomes 0, and its slot is again that of an empty table
unfoldable pub release_answer : RegionTable → ℕ → ℕ → ℕ → Answer
release_answer t n id len = in_order (release_checks (access_of t n id) len)

unfoldable pub release_table : RegionTable → ℕ → ℕ → ℕ → RegionTable
release_table t n id len = leaves (release_answer t n id len) (with_slot t n no_region) t

unfoldable pub release_buffer : RegionTable → ℕ → ℕ → List ℕ → List ℕ
release_buffer t n id before =
    let box = region_box (access_of t n id) (whole_region (access_of t n id)) in
    leaves (release_answer t n id (length before)) (edited t.layout box (zeros_of box) before) before

-- the byte at which an element begins, counted from the corner of the region in the slot: 1 to 4, 8, 25, 9, as for a box of one element
unfoldable pub region_position : RegionTable → ℕ → ℕ → ℕ → ℕ → ℕ → Quantity
region_position t n id c h w =
    let g = rectangle_named (access_of t n id) in
    quantity (in_order (region_box_checks (access_of t n id) (one_element c h w))) (element_position t.layout c (g.row + h) (g.column + w))

-- how many elements the region in the slot has: 1 to 4, 8, 25, 9, as for a box of all of them
unfoldable pub region_count : RegionTable → ℕ → ℕ → Quantity
region_count t n id =
    let all = whole_region (access_of t n id) in
    quantity (in_order (region_box_checks (access_of t n id) all)) (box_count all)

-- the box of the cube that the region in the slot is: 1 to 4, 8, 25, 9, as for a box of all of it
unfoldable pub region_found : RegionTable → ℕ → ℕ → Result ElementBox Fault
region_found t n id =
    let all = whole_region (access_of t n id) in
    given (in_order (region_box_checks (access_of t n id) all)) (region_box (access_of t n id) all)
