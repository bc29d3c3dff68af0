-- Which slot a call names, which elements it writes, and what is read of an element: the words of the claims about lists of calls (proofs/Claims.antt).
-- Assumes nothing.
use Rattle.std.specs.Prelude.{ℕ, ◌≡◌, Bool, true, false, List, [], ◌∷◌, get_or, ℤ, pos}
use Rattle.refusal.specs.Checks.{Accepted}
use Rattle.layout.specs.declared.ElementBox.{ElementBox}
use Rattle.layout.specs.Boxes.{box_has, box_index}
use Rattle.regions.specs.declared.RegionTable.{RegionTable}
use Rattle.regions.specs.Rules.{access_of, region_box, whole_region}
use Rattle.history.specs.Program.{Call, place, edit, read, release, paint, State, step}

-- the slot that a call names
unfoldable pub slot_of_call : Call → ℕ
slot_of_call (place n id g) = n
slot_of_call (edit n id b xs) = n
slot_of_call (read n id b xs) = n
slot_of_call (release n id) = n
slot_of_call (paint n id image pixels k) = n

-- element (c, h, w) is one of the region in a slot
abbrev region_has : RegionTable → (n id : ℕ) → ℕ → ℕ → ℕ → Bool
region_has t n id c h w = box_has (region_box (access_of t n id) (whole_region (access_of t n id))) c h w

-- an edit names element (c, h, w) to be written: it is in its box; a painting is an edit of its whole region
unfoldable pub edits_element : RegionTable → Call → ℕ → ℕ → ℕ → Bool
edits_element t (place n id g) c h w = false
edits_element t (edit n id b xs) c h w = box_has (region_box (access_of t n id) b) c h w
edits_element t (read n id b xs) c h w = false
edits_element t (release n id) c h w = false
edits_element t (paint n id image pixels k) c h w = region_has t n id c h w

-- a call names element (c, h, w) to be written: an edit those of its box, a release and a painting those of the whole region, a placing and a read none
unfoldable pub writes_element : RegionTable → Call → ℕ → ℕ → ℕ → Bool
writes_element t (place n id g) c h w = false
writes_element t (edit n id b xs) c h w = box_has (region_box (access_of t n id) b) c h w
writes_element t (read n id b xs) c h w = false
writes_element t (release n id) c h w = region_has t n id c h w
writes_element t (paint n id image pixels k) c h w = region_has t n id c h w

-- from a state on, no accepted edit or painting of a list writes element (c, h, w)
unfoldable pub Unwritten : State → List Call → (c h w : ℕ) → Type 0
Unwritten s [] c h w = Unit {0}
Unwritten s (call ∷ calls) c h w = ((step s call).reply.answer ≡ Accepted → edits_element s.table call c h w ≡ false) × Unwritten (step s call).state calls c h w

-- every accepted read whose box has element (c, h, w), through any slot and with any id, gives 0 for it; d would stand past the end of what it gives
abbrev pub Reads_zero : State → (c h w : ℕ) → Type 0
Reads_zero s c h w = (m id : ℕ) (b : ElementBox) (xs : List ℤ) → (step s (read m id b xs)).reply.answer ≡ Accepted → box_has (region_box (access_of s.table m id) b) c h w ≡ true
    → (d : ℤ) → get_or (step s (read m id b xs)).elements (box_index (region_box (access_of s.table m id) b) c h w) d ≡ pos 0
