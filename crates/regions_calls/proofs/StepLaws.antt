-- The slots as the code reads them from the table's structs, and the box of the cube as it finds it. Assumes nothing.
--     slot_at-region, slot_at-table           the slot of a number is what the table's struct stands for
--     overlaps-table                        the overlap test of a table's structs
--     filled_at, owner_at                   the flag and the id of a slot with a number
--     slots_checked                         the lemmas that the checks of a slot go by
--     refused-is, accepted-is               what is_err tells of an answer
--     row_fits, column_fits                 the corner of a box in a rectangle of a valid layout
--     found_box-slot, found_part-named        a box in a region refused by the slot's checks, and past them
--     found-refused, found_at               what a box found tells
--     edit-refused, edit-found              an edit refused by 1 to 4, 8, 9, and past them
--     read-refused, read_found              a read
--     position-refused, position-found      a position refused, and given
--     count-refused, count-found            a count
--     found-counts                          a box that was found has small counts
--     release-refused, release-found        a release refused by 1 to 4, 8, 25, 9, and past them
--     released_number                       the slot of an accepted release is one of the sixteen
use Prim.Native.Nat.{ℕ, ◌+◌, ◌*◌, ◌≤◌, ◌<◌}
use native.Mathlib.Omega.{arith}
use mathlib.Core.Path.{◌≡◌, refl, sym, ap, subst⁻¹, ◌∙◌}
use mathlib.Core.Bool.{Bool, true, false, cond}
use mathlib.Core.List.{List, map, append_assoc}
use lib.ListN.{length, get_or, get_or-map}
use lib.IntN.{ℤ}
use Rattle.std.specs.Prelude.{Ok, Err}
use Rattle.std.specs.Result.{is_err}
use Rattle.refusal.specs.declared.Fault.{Fault}
use Rattle.refusal.specs.Checks.{in_order, given, Answer, Accepted}
use Rattle.refusal.proofs.CheckLaws.{in_order-passed, in_order-refused, given-accepted, given-refused, given-ok, given-err, leaves-before, in_order-front}
use Rattle.layout.specs.declared.CubeLayout.{CubeLayout}
use Rattle.layout.specs.declared.ElementBox.{ElementBox}
use Rattle.layout.specs.Boxes.{one_element, box_count}
use Rattle.layout.specs.Rules.{box_checks, admit_checks}
use Rattle.layout.specs.Calls.{write_box_answer, write_box_buffer, clear_box_answer, clear_box_buffer, read_box_answer, read_box_elements, position_quantity}
use Rattle.layout.proofs.Valid.{Valid}
use Rattle.layout.proofs.CallLaws.{box-counts}
use Rattle.regions.specs.declared.Rectangle.{Rectangle}
use Rattle.regions.specs.declared.Region.{Region}
use Rattle.regions.specs.declared.RegionTable.{RegionTable}
use Rattle.regions.specs.Slots.{Slot, empty, filled, slot_of, slots_of, overlaps}
use Rattle.regions.specs.Rules.{Access, slot_at, is_filled, rectangle_of, id_of, rectangle_named, region_box, whole_region, slot_checks, region_box_checks, access_of, read_checks, edit_checks, release_checks}
use Rattle.regions.specs.Calls.{no_region, edit_answer, edit_buffer, read_answer, read_elements, release_answer, release_buffer, region_position, region_count}
use Rattle.regions.proofs.RuleLaws.{ValidBounds, slot-accepted, box-accepted}
use Rattle.regions.proofs.CallLaws.{box-passes, after-9}
use Rattle.regions_calls.specs.declared.rules.Part.{Part}
use Rattle.regions_calls.specs.Steps.{box_in, found_box, part_box, found_part}

pub slot_at-region : (l : List Region) (n : ℕ) → slot_of (get_or l n no_region) ≡ slot_at (map slot_of l) n
unfolding slot_of slot_at
slot_at-region l n = sym (get_or-map slot_of l n no_region)

slot_at-table : (t : RegionTable) (n : ℕ) → slot_of (get_or t.slots n no_region) ≡ slot_at (slots_of t) n
unfolding slots_of
slot_at-table t n = slot_at-region t.slots n

pub overlaps-table : (t : RegionTable) (g : Rectangle) → overlaps (slots_of t) g ≡ overlaps (map slot_of t.slots) g
unfolding slots_of
overlaps-table t g = refl

-- the flag tells whether the slot is filled
flag-filled : (g : Region) → is_filled (slot_of g) ≡ g.placed
unfolding slot_of is_filled
flag-filled g = go g.placed
  where
    go : (t : Bool) → is_filled (cond t (filled g.owner g.rectangle) empty) ≡ t
    go true = refl
    go false = refl

-- the same, of the slot with a number
pub filled_at : (t : RegionTable) (n : ℕ) → is_filled (slot_at (slots_of t) n) ≡ (get_or t.slots n no_region).placed
filled_at t n = ap is_filled (sym (slot_at-table t n)) ∙ flag-filled (get_or t.slots n no_region)

rectangle-is : (g : Region) {s : Slot} {id : ℕ} → slot_of g ≡ s → s ≡ filled id (rectangle_of s) → rectangle_of s ≡ g.rectangle
unfolding slot_of rectangle_of
rectangle-is g {s} {id} there full = go g.placed (there ∙ full)
  where
    go : (t : Bool) → cond t (filled g.owner g.rectangle) empty ≡ filled id (rectangle_of s) → rectangle_of s ≡ g.rectangle
    go true e = cc
    go false e = absurd (let z : ◌≡◌ {A = ℕ} 0 1 = cc in omega arith)

owner-is : (g : Region) {s : Slot} → slot_of g ≡ s → g.placed ≡ true → id_of s ≡ g.owner
unfolding slot_of id_of
owner-is g there t = ap id_of (sym there) ∙ rw t

pub owner_at : (t : RegionTable) (n : ℕ) → (get_or t.slots n no_region).placed ≡ true → id_of (slot_at (slots_of t) n) ≡ (get_or t.slots n no_region).owner
owner_at t n placed = owner-is (get_or t.slots n no_region) (slot_at-table t n) placed

-- ---- what is_err tells of an answer
pub refused-is : (a : Answer) → is_err a ≡ true → (f : Fault) × (a ≡ Err f)
refused-is (Ok _) e = absurd (let z : ◌≡◌ {A = ℕ} 0 1 = cc in omega arith)
refused-is (Err f) e = (f, refl)

pub accepted-is : (a : Answer) → is_err a ≡ false → a ≡ Accepted
accepted-is (Ok _) e = refl
accepted-is (Err f) e = absurd (let z : ◌≡◌ {A = ℕ} 0 1 = cc in omega arith)

-- ---- a box in a rectangle of a valid layout
module _ (q : CubeLayout) (ok : Valid q) (g : Rectangle) (b : ElementBox) (v : ValidBounds q g b) where
  pub row_fits : g.row + b.row ≤ 8192
  row_fits = omega (arith, v.box.rows.fit, ok.height_le)

  pub column_fits : g.column + b.column ≤ 8192
  column_fits = omega (arith, v.box.columns.fit, ok.width_le)

-- ---- a box in a region
module _ (a : Access) (b : ElementBox) where
  pub found_box-slot : {f : Fault} → in_order (slot_checks a) ≡ Err f → Err f ≡ found_box a b
  unfolding found_box region_box_checks
  found_box-slot e = sym (given-refused _ (in_order-refused (slot_checks a) _ e))

  pub found_box-in : in_order (slot_checks a) ≡ Accepted → {g : Rectangle} → rectangle_named a ≡ g → box_in a.layout g b ≡ found_box a b
  unfolding found_box region_box_checks box_in
  found_box-in ok e =
      ap (λ (r : Rectangle). box_in a.layout r b) (sym e) ∙ ap (λ (v : Answer). given v (region_box a b)) (sym (in_order-passed (slot_checks a) _ ok))

  -- what a box found, or not found, tells
  pub found-refused : {f : Fault} → found_box a b ≡ Err f → in_order (region_box_checks a b) ≡ Err f
  unfolding found_box
  found-refused e = given-err _ _ _ e

  pub found_at : {box : ElementBox} → found_box a b ≡ Ok box → (in_order (region_box_checks a b) ≡ Accepted) × (box ≡ region_box a b)
  unfolding found_box
  found_at e = let g = given-ok _ _ _ e in (g.0, sym g.1)

-- a part of a region
found_part-in : (a : Access) (part : Part) → in_order (slot_checks a) ≡ Accepted → {g : Rectangle} → rectangle_named a ≡ g → box_in a.layout g (part_box a.layout g part) ≡ found_part a part
found_part-in a part ok e =
    ap (λ (r : Rectangle). box_in a.layout r (part_box a.layout r part)) (sym e) ∙ found_box-in a (part_box a.layout (rectangle_named a) part) ok refl

-- the same by the struct that the slot's checks gave
pub found_part-named : (t : RegionTable) (n id : ℕ) (part : Part) {r : Region}
    → (in_order (slot_checks (access_of t n id)) ≡ Accepted) × (get_or t.slots n no_region ≡ r)
    → box_in t.layout r.rectangle (part_box t.layout r.rectangle part) ≡ found_part (access_of t n id) part
found_part-named t n id part {r} e =
    let there : slot_of r ≡ slot_at (slots_of t) n = ap slot_of (sym e.1) ∙ slot_at-table t n in
    found_part-in (access_of t n id) part e.0 (rectangle-is r there (slot-accepted (access_of t n id) e.0).placed)

-- ---- edit and read: refused before the box is found, and past it
module _ (t : RegionTable) (n id : ℕ) (b : ElementBox) where
  module _ (xs : List ℤ) (before : List ℕ) where
    pub edit-refused : {f : Fault} → found_box (access_of t n id) b ≡ Err f
        → (Err f ≡ edit_answer t n id b xs (length before)) × (before ≡ edit_buffer t n id b xs before)
    unfolding edit_answer edit_checks edit_buffer
    edit-refused e =
        let denied = in_order-refused (region_box_checks (access_of t n id) b) _ (found-refused (access_of t n id) b e) in
        (sym denied, sym (leaves-before _ before denied))

    pub edit-found : {box : ElementBox} → found_box (access_of t n id) b ≡ Ok box
        → (write_box_answer t.layout box xs (length before) ≡ edit_answer t n id b xs (length before)) × (write_box_buffer t.layout box xs before ≡ edit_buffer t n id b xs before)
    unfolding write_box_answer write_box_buffer admit_checks edit_answer edit_checks edit_buffer box_count
    edit-found e =
        let f = found_at (access_of t n id) b e in
        let same =
        ap in_order (append_assoc (box_checks t.layout (region_box (access_of t n id) b)) _ _) ∙ after-9 (access_of t n id) b _ f.0 in
        (rw f.1 same, rw (f.1, same))

  module _ (buffer : List ℕ) (before : List ℤ) where
    pub read-refused : {f : Fault} → found_box (access_of t n id) b ≡ Err f
        → (Err f ≡ read_answer t n id b (length before) (length buffer)) × (before ≡ read_elements t n id b buffer before)
    unfolding read_answer read_checks read_elements
    read-refused e =
        let denied = in_order-refused (region_box_checks (access_of t n id) b) _ (found-refused (access_of t n id) b e) in
        (sym denied, sym (leaves-before _ before denied))

    pub read_found : {box : ElementBox} → found_box (access_of t n id) b ≡ Ok box
        → (read_box_answer t.layout box (length before) (length buffer) ≡ read_answer t n id b (length before) (length buffer)) × (read_box_elements t.layout box buffer before ≡ read_elements t n id b buffer before)
    unfolding read_box_answer read_box_elements admit_checks read_answer read_checks read_elements box_count
    read_found e =
        let f = found_at (access_of t n id) b e in
        let same = after-9 (access_of t n id) b _ f.0 in
        (rw f.1 same, rw (f.1, same))

-- ---- position
module _ (t : RegionTable) (n id c h w : ℕ) where
  pub position-refused : {f : Fault} → found_box (access_of t n id) (one_element c h w) ≡ Err f → Err f ≡ region_position t n id c h w
  unfolding region_position
  position-refused e = sym (given-refused _ (found-refused (access_of t n id) (one_element c h w) e))

  pub position-found : {box : ElementBox} → found_box (access_of t n id) (one_element c h w) ≡ Ok box → position_quantity t.layout box.channel box.row box.column ≡ region_position t n id c h w
  unfolding region_position position_quantity
  position-found e =
      let f = found_at (access_of t n id) (one_element c h w) e in
      rw f.1 (given-accepted _ (box-passes (access_of t n id) (one_element c h w) f.0) ∙ sym (given-accepted _ f.0))

-- ---- count
pub found-counts : (a : Access) (b : ElementBox) {box : ElementBox} → found_box a b ≡ Ok box → (box.channels ≤ 8192) × (box.rows ≤ 8192) × (box.columns ≤ 8192)
found-counts a b e =
    let f = found_at a b e in
    let v = box-accepted a b f.0 in
    subst⁻¹ (λ (x : ElementBox). (x.channels ≤ 8192) × (x.rows ≤ 8192) × (x.columns ≤ 8192)) f.1 (box-counts a.layout (region_box a b) v.slot.layout v.bounds.box)

module _ (t : RegionTable) (n id : ℕ) where
  pub count-refused : {f : Fault} → found_box (access_of t n id) (whole_region (access_of t n id)) ≡ Err f → Err f ≡ region_count t n id
  unfolding region_count
  count-refused e = sym (given-refused _ (found-refused (access_of t n id) (whole_region (access_of t n id)) e))

  pub count-found : {box : ElementBox} → found_box (access_of t n id) (whole_region (access_of t n id)) ≡ Ok box → Ok (box.channels * box.rows * box.columns) ≡ region_count t n id
  unfolding region_count box_count
  count-found e =
      let f = found_at (access_of t n id) (whole_region (access_of t n id)) e in
      rw f.1 (sym (given-accepted _ f.0))

-- ---- release
module _ (t : RegionTable) (n id : ℕ) (before : List ℕ) where
  pub release-refused : {f : Fault} → found_box (access_of t n id) (whole_region (access_of t n id)) ≡ Err f
      → (Err f ≡ release_answer t n id (length before)) × (before ≡ release_buffer t n id before)
  unfolding release_answer release_checks release_buffer
  release-refused e =
      let denied = in_order-refused (region_box_checks (access_of t n id) (whole_region (access_of t n id))) _ (found-refused (access_of t n id) (whole_region (access_of t n id)) e) in
      (sym denied, sym (leaves-before _ before denied))

  pub release-found : {box : ElementBox} → found_box (access_of t n id) (whole_region (access_of t n id)) ≡ Ok box
      → (clear_box_answer t.layout box (length before) ≡ release_answer t n id (length before)) × (clear_box_buffer t.layout box before ≡ release_buffer t n id before)
  unfolding clear_box_answer clear_box_buffer release_answer release_checks release_buffer
  release-found e =
      let f = found_at (access_of t n id) (whole_region (access_of t n id)) e in
      let same = after-9 (access_of t n id) (whole_region (access_of t n id)) _ f.0 in
      (rw f.1 same, rw (f.1, same))

-- a box that release clears: its slot is one of the sixteen
pub released_number : (t : RegionTable) (n id len : ℕ) → release_answer t n id len ≡ Accepted → n < 16
unfolding release_answer release_checks
released_number t n id len e =
    let a = access_of t n id in
    (box-accepted a (whole_region a) (in_order-front (region_box_checks a (whole_region a)) _ e)).slot.number

-- the lemmas that the checks of a slot go by
pub ruleset slots_checked = (in_order-passed, filled_at, owner_at, overlaps-table)
