-- The overlap test, and the search for a box of the cube, as the code makes them. The contracts of the private functions cite these; no public promise
-- rests on them. proofs/MeetLaws.antt proves that the test comes to `overlaps`, proofs/StepLaws.antt what edit, read, position and the others make of the box. Assumes nothing.
use Rattle.std.specs.Prelude.{ℕ, ◌+◌, Bool, false, ◌&&◌, leb, ltb, Result}
use Rattle.refusal.specs.Checks.{in_order, given}
use Rattle.refusal.specs.declared.Fault.{Fault}
use Rattle.layout.specs.declared.CubeLayout.{CubeLayout}
use Rattle.layout.specs.declared.ElementBox.{ElementBox}
use Rattle.regions.specs.declared.Rectangle.{Rectangle}
use Rattle.regions_calls.specs.declared.rules.Part.{Part}
use Rattle.regions_calls.specs.declared.rules.Part.TheVariants.{Within, Whole}
use Rattle.regions.specs.Slots.{Slot, empty, filled}
use Rattle.regions.specs.Rules.{Access, cube_box, rectangle_named, region_box, whole_of, bounds_checks, region_box_checks}

-- the n numbers from a on and the m numbers from b on have one in common
unfoldable pub spans_meet : ℕ → ℕ → ℕ → ℕ → Bool
spans_meet a n b m = leb 1 n && leb 1 m && ltb b (a + n) && ltb a (b + m)

-- the rectangle of a filled slot and another have a position in common
unfoldable pub slot_meets : Slot → Rectangle → Bool
slot_meets empty g = false
slot_meets (filled id f) g = spans_meet f.column f.columns g.column g.columns && spans_meet f.row f.rows g.row g.rows

-- the box of the cube that a box of a rectangle is, or refused by 9
unfoldable pub box_in : CubeLayout → Rectangle → ElementBox → Result ElementBox Fault
box_in q g b = given (in_order (bounds_checks q g b)) (cube_box g b)

-- the box of the cube that a box of a region is, or refused by 1 to 4, 8, 25, 9
unfoldable pub found_box : Access → ElementBox → Result ElementBox Fault
found_box a b = given (in_order (region_box_checks a b)) (region_box a b)

-- the box that a part of a rectangle is, counted from its corner
abbrev pub part_box : CubeLayout → Rectangle → Part → ElementBox
part_box q g (Within b) = b
part_box q g Whole = whole_of q g

-- the box of the cube that a part of a region is, or refused
abbrev pub found_part : Access → Part → Result ElementBox Fault
found_part a part = found_box a (part_box a.layout (rectangle_named a) part)
