-- What one call leaves of the table: a placing fills its slot, a release empties it, every other slot and the layout stay. Assumes nothing.
--     placed-layout, placed-slots       the table after a placing
--     released-layout, released-slots   the table after a release
--     slot-after, layout-after          every other slot and the layout, after any call
use Prim.Native.Nat.{ℕ, zero, suc}
use mathlib.Core.Path.{◌≡◌, refl, sym, ap, ◌∙◌}
use mathlib.Core.Logic.{◌≢◌}
use mathlib.Core.List.{List, [], ◌∷◌, map}
use lib.ListN.{length, set}
use lib.Seq.{get_or-set_other}
use Rattle.std.specs.Prelude.{Ok, Err}
use Rattle.refusal.specs.Checks.{leaves, Answer}
use Rattle.refusal.proofs.CheckLaws.{leaves-ap, leaves-same}
use Rattle.regions.specs.declared.Rectangle.{Rectangle}
use Rattle.regions.specs.declared.Region.{Region}
use Rattle.regions.specs.declared.RegionTable.{RegionTable}
use Rattle.regions.specs.Slots.{Slot, empty, filled, slot_of, slots_of}
use Rattle.regions.specs.Rules.{slot_at}
use Rattle.regions.specs.Calls.{no_region, placed_region, with_slot, place_answer, place_table, release_answer, release_table}
use Rattle.history.specs.Program.{Call, place, edit, read, release, paint, State, step}
use Rattle.history.specs.Writes.{slot_of_call}

-- ---- the table after a placing or a release
map-set : {A B : Type 0} (f : A → B) (l : List A) (i : ℕ) (y : A) → map f (set l i y) ≡ set (map f l) i (f y)
map-set f [] i y = refl
map-set f (x ∷ xs) zero y = refl
map-set {B = B} f (x ∷ xs) (suc i) y = ap (λ (zs : List B). f x ∷ zs) (map-set f xs i y)

-- by the answer v: one slot is changed, or none
module _ (v : Answer) (t : RegionTable) (n : ℕ) (r : Region) where
  changed-layout : (leaves v (with_slot t n r) t).layout ≡ t.layout
  changed-layout = leaves-ap (λ (u : RegionTable). u.layout) v _ t ∙ leaves-same v t.layout

  changed-slots : slots_of (leaves v (with_slot t n r) t) ≡ leaves v (set (slots_of t) n (slot_of r)) (slots_of t)
  unfolding slots_of
  changed-slots = leaves-ap slots_of v _ t ∙ rw (map-set slot_of t.slots n r)

module _ (t : RegionTable) (n id : ℕ) where
  module _ (g : Rectangle) where
    pub placed-layout : (place_table t n id g).layout ≡ t.layout
    unfolding place_table
    placed-layout = changed-layout (place_answer t n id g) t n (placed_region id g)

    pub placed-slots : slots_of (place_table t n id g) ≡ leaves (place_answer t n id g) (set (slots_of t) n (filled id g)) (slots_of t)
    unfolding place_table slot_of
    placed-slots = changed-slots (place_answer t n id g) t n (placed_region id g)

  module _ (len : ℕ) where
    pub released-layout : (release_table t n id len).layout ≡ t.layout
    unfolding release_table
    released-layout = changed-layout (release_answer t n id len) t n no_region

    pub released-slots : slots_of (release_table t n id len) ≡ leaves (release_answer t n id len) (set (slots_of t) n empty) (slots_of t)
    unfolding release_table slot_of
    released-slots = changed-slots (release_answer t n id len) t n no_region

-- ---- any call

-- every slot but the one that is named stays
slot-other : (slots : List Slot) (n m : ℕ) → n ≢ m → (new : Slot) (v : Answer) → slot_at (leaves v (set slots n new) slots) m ≡ slot_at slots m
unfolding leaves slot_at
slot-other slots n m d new (Ok _) = get_or-set_other slots n m new empty (λ e. d (sym e))
slot-other slots n m d new (Err fault) = refl

pub slot-after : (s : State) (c : Call) (m : ℕ) → slot_of_call c ≢ m → slot_at (slots_of (step s c).state.table) m ≡ slot_at (slots_of s.table) m
unfolding step slot_of_call
slot-after s (place n id g) m d =
    ap (λ (l : List Slot). slot_at l m) (placed-slots s.table n id g) ∙ slot-other (slots_of s.table) n m d (filled id g) (place_answer s.table n id g)
slot-after s (edit n id b xs) m d = refl
slot-after s (read n id b xs) m d = refl
slot-after s (release n id) m d =
    ap (λ (l : List Slot). slot_at l m) (released-slots s.table n id (length s.buffer)) ∙ slot-other (slots_of s.table) n m d empty (release_answer s.table n id (length s.buffer))
slot-after s (paint n id image pixels k) m d = refl

-- the layout stays
pub layout-after : (s : State) (c : Call) → (step s c).state.table.layout ≡ s.table.layout
unfolding step
layout-after s (place n id g) = placed-layout s.table n id g
layout-after s (edit n id b xs) = refl
layout-after s (read n id b xs) = refl
layout-after s (release n id) = released-layout s.table n id (length s.buffer)
layout-after s (paint n id image pixels k) = refl
