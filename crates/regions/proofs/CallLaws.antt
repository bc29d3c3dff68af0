-- What an accepted read, edit or release tells: past check 9 the checks 1 to 4, 9 of the cube's box pass, too. And what placing and
-- releasing leave. Assumes nothing.
--     box-passes, after-9                     the checks of the cube's box pass, and the same follow
--     read-accepted, edit-accepted            what an accepted read or edit tells
--     release-as-edit .. release-writes       a release is an edit of the whole region with zeros
--     others-denied .. release-denied         what is accepted of the owner is refused by 25 of anybody else
--     place_kept .. release-left              the table after a placing and a release, refused and accepted
use Prim.Native.Nat.{ℕ}
use mathlib.Core.Path.{◌≡◌, refl, sym, ap, ◌∙◌}
use mathlib.Core.Logic.{◌≢◌}
use mathlib.Core.Bool.{Bool, true, false, ◌&&◌}
use mathlib.Core.List.{List, [], ◌++◌}
use lib.ListN.{length}
use lib.IntN.{ℤ}
use borrow.Author.Tests.{lt-ltb, ne_eqb}
use Rattle.general.proofs.TestLaws.{and_both}
use Rattle.std.specs.Prelude.{Err}
use Rattle.refusal.specs.declared.Fault.{Fault}
use Rattle.refusal.specs.declared.Refusal.TheVariants.{Slot as SlotRefusal, OwnerId}
use Rattle.refusal.specs.Checks.{in_order, leaves, Answer, Accepted, Refused}
use Rattle.refusal.proofs.CheckLaws.{in_order-front, in_order-back, in_order-passed, in_order-refused, in_order-next, in_order-stop, in_order-then, leaves-done, leaves-before}
use Rattle.elements.specs.Values.{value_checks}
use Rattle.layout.specs.declared.ElementBox.{ElementBox}
use Rattle.layout.specs.Boxes.{box_count}
use Rattle.layout.specs.Rules.{layout_checks, box_checks, storage_checks, admit_checks}
use Rattle.layout.specs.Contents.{edited, zeros_of}
use Rattle.layout.proofs.BoxLaws.{valid-box}
use Rattle.layout.proofs.CallLaws as layout
use Rattle.regions.specs.declared.Rectangle.{Rectangle}
use Rattle.regions.specs.declared.RegionTable.{RegionTable}
use Rattle.regions.specs.Rules.{Access, access, access_of, is_filled, id_of, id_valid, slot_named, rectangle_named, region_box, whole_region, bounds_checks, slot_checks, region_box_checks, read_checks, edit_checks, release_checks}
use Rattle.regions.specs.Calls.{no_region, placed_region, with_slot, place_answer, place_table, edit_answer, edit_buffer, read_answer, release_answer, release_table, release_buffer}
use Rattle.regions.proofs.RuleLaws.{ValidBox, slot-accepted, box-accepted}

-- an accepted read: its box is valid, and the cube's box is admitted
pub record ValidRead (a : Access) (b : ElementBox) (given len : ℕ) : Type 0 where
  pub region : ValidBox a b
  pub admitted : layout.Admitted a.layout (region_box a b) given len

-- an accepted edit: also its elements fit
pub record ValidEdit (a : Access) (b : ElementBox) (xs : List ℤ) (len : ℕ) : Type 0 where
  pub reads : ValidRead a b (length xs) len
  pub values : in_order (value_checks a.layout.precision xs) ≡ Accepted

module _ (a : Access) (b : ElementBox) where
  pub box-passes : in_order (region_box_checks a b) ≡ Accepted → in_order (box_checks a.layout (region_box a b)) ≡ Accepted
  box-passes ok =
      let v = box-accepted a b ok in
      sym (layout.box-accepted a.layout (region_box a b) v.slot.checked (valid-box a.layout (region_box a b) v.bounds.box))

  pub after-9 : (rest : List Answer) → in_order (region_box_checks a b) ≡ Accepted → in_order (box_checks a.layout (region_box a b) ++ rest) ≡ in_order (region_box_checks a b ++ rest)
  after-9 rest ok = in_order-passed _ rest (box-passes ok) ∙ sym (in_order-passed _ rest ok)

  pub read-accepted : (given len : ℕ) → in_order (read_checks a b given len) ≡ Accepted → ValidRead a b given len
  unfolding read_checks admit_checks box_count
  read-accepted given len e =
      let ok = in_order-front (region_box_checks a b) _ e in
      record { region = box-accepted a b ok; admitted = layout.admitted a.layout (region_box a b) given len (after-9 _ ok ∙ e) }

  pub edit-accepted : (xs : List ℤ) (len : ℕ) → in_order (edit_checks a b xs len) ≡ Accepted → ValidEdit a b xs len
  unfolding edit_checks read_checks
  edit-accepted xs len e =
      let ok = in_order-front (region_box_checks a b) _ e in
      let rest = in_order-back (region_box_checks a b) _ e in
      let storage = storage_checks a.layout (box_count b) (length xs) len in
      record { reads = read-accepted (length xs) len (in_order-passed _ storage ok ∙ in_order-front storage _ rest); values = in_order-back storage _ rest }

-- ---- release: 6, 7 and 26 never refuse its zeros
module _ (a : Access) (len : ℕ) where
  pub release-as-edit : in_order (release_checks a len) ≡ in_order (edit_checks a (whole_region a) (zeros_of (whole_region a)) len)
  unfolding release_checks edit_checks
  release-as-edit = in_order-then (region_box_checks a (whole_region a)) _ _ (sym (layout.zeros-stored a.layout (box_count (whole_region a)) len))

  pub release-accepted : in_order (release_checks a len) ≡ Accepted → ValidEdit a (whole_region a) (zeros_of (whole_region a)) len
  release-accepted e = edit-accepted a (whole_region a) (zeros_of (whole_region a)) len (sym release-as-edit ∙ e)

-- it answers and leaves in the buffer what an edit of the whole region with zeros does
module _ (t : RegionTable) (n id : ℕ) (before : List ℕ) where
  abbrev all : ElementBox
  all = whole_region (access_of t n id)

  pub release-answers : release_answer t n id (length before) ≡ edit_answer t n id all (zeros_of all) (length before)
  unfolding release_answer edit_answer
  release-answers = release-as-edit (access_of t n id) (length before)

  pub release-writes : release_buffer t n id before ≡ edit_buffer t n id all (zeros_of all) before
  unfolding release_buffer edit_buffer box_count
  release-writes = ap (λ (v : Answer). leaves v (edited t.layout (region_box (access_of t n id) all) (zeros_of all) before) before) release-answers

-- ---- another owner's id
module _ (a : Access) (id : ℕ) (other : a.id ≢ id) where
  abbrev given : Access
  given = access a.layout a.slots a.number id

  slot-denied : in_order (slot_checks a) ≡ Accepted → in_order (slot_checks given) ≡ Refused OwnerId 0
  unfolding slot_checks id_of is_filled
  slot-denied ok =
      let v = slot-accepted a ok in
      let own : id_of (slot_named a) ≡ a.id = ap id_of v.placed in
      let differs : id ≢ id_of (slot_named a) = λ e. other (sym own ∙ sym e) in
      in_order-passed (layout_checks a.layout) _ v.checked
      ∙ in_order-next 0 SlotRefusal _ (and_both (lt-ltb a.number 16 v.number) (ap is_filled v.placed))
      ∙ in_order-stop 0 OwnerId [] (ap (λ (x : Bool). id_valid id && x) (ne_eqb id (id_of (slot_named a)) differs) ∙ and_no (id_valid id))
    where
      and_no : (b : Bool) → (b && false) ≡ false
      and_no true = refl
      and_no false = refl

-- a call whose box was accepted of the owner is refused by 25 of anybody else, whatever follows
pub others-denied : (a : Access) (b : ElementBox) (id : ℕ) → a.id ≢ id → in_order (region_box_checks a b) ≡ Accepted → (b' : ElementBox) (rest : List Answer)
    → in_order (region_box_checks (access a.layout a.slots a.number id) b' ++ rest) ≡ Refused OwnerId 0
unfolding region_box_checks
others-denied a b id other ok b' rest =
    in_order-refused _ rest (in_order-refused _ _ (slot-denied a id other (in_order-front (slot_checks a) (bounds_checks a.layout (rectangle_named a) b) ok)))

module _ (t : RegionTable) (n id id' : ℕ) (other : id ≢ id') where
  pub read_denied : (b : ElementBox) (given len : ℕ) → read_answer t n id b given len ≡ Accepted → read_answer t n id' b given len ≡ Refused OwnerId 0
  unfolding read_answer read_checks
  read_denied b given len ok = others-denied (access_of t n id) b id' other (in_order-front _ _ ok) b _

  pub edit-denied : (b : ElementBox) (xs : List ℤ) (len : ℕ) → edit_answer t n id b xs len ≡ Accepted → edit_answer t n id' b xs len ≡ Refused OwnerId 0
  unfolding edit_answer edit_checks
  edit-denied b xs len ok = others-denied (access_of t n id) b id' other (in_order-front _ _ ok) b _

  pub release-denied : (len : ℕ) → release_answer t n id len ≡ Accepted → release_answer t n id' len ≡ Refused OwnerId 0
  unfolding release_answer release_checks
  release-denied len ok = others-denied (access_of t n id) (whole_region (access_of t n id)) id' other (in_order-front _ _ ok) (whole_region (access_of t n id')) _

-- ---- place
module _ (t : RegionTable) (n id : ℕ) (g : Rectangle) where
  pub place_kept : {f : Fault} → place_answer t n id g ≡ Err f → t ≡ place_table t n id g
  unfolding place_table
  place_kept e = sym (leaves-before _ t e)

  pub place-left : place_answer t n id g ≡ Accepted → with_slot t n (placed_region id g) ≡ place_table t n id g
  unfolding place_table
  place-left e = sym (leaves-done _ t e)

-- ---- release, the table
module _ (t : RegionTable) (n id len : ℕ) where
  pub release-kept : {f : Fault} → release_answer t n id len ≡ Err f → t ≡ release_table t n id len
  unfolding release_table
  release-kept e = sym (leaves-before _ t e)

  pub release-left : release_answer t n id len ≡ Accepted → with_slot t n no_region ≡ release_table t n id len
  unfolding release_table
  release-left e = sym (leaves-done _ t e)
