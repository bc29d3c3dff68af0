-- Program and model in step, and still so after one call: the program's slots are the model's, and its buffer is the model's raw tensor packed over the
-- bytes from before the packing. By cases on the call and on its answer; a release and a painting write as an edit does. Assumes nothing.
--     Agrees                        program and model in step
--     same-reply, same-elements     what one call replies and gives
--     agrees_after                  still in step after one call
use Prim.Native.Nat.{ℕ, ◌<◌}
use native.Mathlib.Omega.{arith}
use mathlib.Core.Path.{◌≡◌, refl, sym, ap, ◌∙◌, subst}
use mathlib.Core.List.{List}
use lib.ListN.{length}
use lib.IntN.{ℤ}
use lib.Signed.{mag}
use Rattle.std.specs.Prelude.{Ok, Err}
use Rattle.refusal.specs.Checks.{in_order, leaves, Answer}
use Rattle.layout.specs.declared.CubeLayout.{CubeLayout}
use Rattle.layout.specs.declared.ElementBox.{ElementBox}
use Rattle.layout.specs.Geometry.{element_count}
use Rattle.layout.specs.Boxes.{box_count}
use Rattle.layout.specs.Contents.{packed, zeros_of, box_elements}
use Rattle.layout.proofs.ContentLaws.{packed-length}
use Rattle.pixels.specs.declared.PixelSetting.{PixelSetting}
use Rattle.regions.specs.declared.Rectangle.{Rectangle}
use Rattle.regions.specs.declared.RegionTable.{RegionTable}
use Rattle.regions.specs.Slots.{Slot, slots_of}
use Rattle.regions.specs.Rules.{Access, region_box, whole_region, place_checks, read_checks, edit_checks, release_checks}
use Rattle.regions.specs.Calls.{place_answer, edit_answer, edit_buffer, read_answer, read_elements, release_answer, release_buffer}
use Rattle.regions.proofs.CallLaws.{read-accepted, edit-accepted}
use Rattle.parlour.specs.declared.Conversion.{Conversion}
use Rattle.parlour.specs.Components.{painted_elements}
use Rattle.parlour.specs.Counts.{held_count}
use Rattle.parlour.specs.Rules.{paint_checks}
use Rattle.parlour.specs.Calls.{paint_answer, paint_buffer}
use Rattle.parlour.proofs.ElementLaws.{painted-sixteen}
use Rattle.parlour.proofs.CallLaws.{paint-as-edit}
use Rattle.history.specs.Program.{Call, place, edit, read, release, paint, none, held, reply_of, lends, SixteenBit, State, state_of, step}
use Rattle.history.specs.Model.{box_written, box_read, Plain, named, plain_answer, plain_step}
use Rattle.history.proofs.TensorLaws.{box_written-length, packed-boxWritten, Fits, checked-fits, box_written-fits, packed-box_read, zeros-at}
use Rattle.history.proofs.TableLaws.{placed-layout, placed-slots, released-layout, released-slots}
use Rattle.history.proofs.BufferLaws.{AsEdit, written, release-as}

-- zeros are 16-bit numbers
zeros-sixteen : (box : ElementBox) → SixteenBit (zeros_of box)
zeros-sixteen box = record { each = λ i. subst (λ (z : ℤ). mag z < 32768) (sym (zeros-at (box_count box) i)) (omega arith) }

-- ---- in step
module _ (q : CubeLayout) (before : List ℕ) where
  pub record Agrees (s : State) (m : Plain) : Type 0 where
    pub layout : s.table.layout ≡ q
    pub slots : slots_of s.table ≡ m.slots
    pub count : length m.raw ≡ element_count q
    pub fits : Fits q m.raw
    pub bytes : s.buffer ≡ packed q m.raw before

  module _ (s : State) (m : Plain) (a : Agrees s m) where
    len : length s.buffer ≡ length before
    len = ap length a.bytes ∙ packed-length q m.raw before

    -- what a call goes by in the model
    abbrev theirs : ℕ → ℕ → Access
    theirs n id = named q (length before) m n id

    same_place : (n id : ℕ) (g : Rectangle) → place_answer s.table n id g ≡ in_order (place_checks (theirs n id) g)
    unfolding place_answer
    same_place n id g = rw (a.slots, a.layout)

    same-release : (n id : ℕ) → release_answer s.table n id (length s.buffer) ≡ in_order (release_checks (theirs n id) (length before))
    unfolding release_answer
    same-release n id = rw (a.slots, a.layout, len)

    same-paint : (n id : ℕ) (image : PixelSetting) (given : ℕ) (k : Conversion)
        → paint_answer s.table n id image given k (length s.buffer) ≡ in_order (paint_checks (theirs n id) image k.shift given (length before))
    unfolding paint_answer
    same-paint n id image given k = rw (a.slots, a.layout, len)

    module _ (n id : ℕ) (b : ElementBox) (xs : List ℤ) where
      same-edit : edit_answer s.table n id b xs (length s.buffer) ≡ in_order (edit_checks (theirs n id) b xs (length before))
      unfolding edit_answer
      same-edit = rw (a.slots, a.layout, len)

      same_read : read_answer s.table n id b (length xs) (length s.buffer) ≡ in_order (read_checks (theirs n id) b (length xs) (length before))
      unfolding read_answer
      same_read = rw (a.slots, a.layout, len)

    pub same-reply : (c : Call) → (step s c).reply ≡ (plain_step q (length before) m c).reply
    unfolding step plain_step plain_answer
    same-reply (place n id g) = ap (λ (x : Answer). record { answer = x; value = none }) (same_place n id g)
    same-reply (edit n id b xs) = ap (λ (x : Answer). record { answer = x; value = none }) (same-edit n id b xs)
    same-reply (read n id b xs) = ap (λ (x : Answer). record { answer = x; value = none }) (same_read n id b xs)
    same-reply (release n id) = ap (λ (x : Answer). record { answer = x; value = none }) (same-release n id)
    same-reply (paint n id image pixels k) = λ i. reply_of (same-paint n id image (length pixels) k i) (held (held_count image pixels k (a.layout i).precision))

    -- ---- a read
    read-cases : (n id : ℕ) (b : ElementBox) (xs : List ℤ) (v : Answer) → in_order (read_checks (theirs n id) b (length xs) (length before)) ≡ v
        → leaves v (box_elements q (region_box (theirs n id) b) (packed q m.raw before)) xs ≡ leaves v (box_read q (region_box (theirs n id) b) m.raw) xs
    unfolding leaves
    read-cases n id b xs (Ok _) e =
        let d = (read-accepted (theirs n id) b (length xs) (length before) e).admitted in
        packed-box_read q d.layout (region_box (theirs n id) b) d.inside m.raw before a.count a.fits d.room
    read-cases n id b xs (Err fault) e = refl

    pub same-elements : (c : Call) → (step s c).elements ≡ (plain_step q (length before) m c).elements
    unfolding step plain_step plain_answer read_elements
    same-elements (place n id g) = refl
    same-elements (edit n id b xs) = refl
    same-elements (read n id b xs) = rw (same_read n id b xs, a.slots, a.layout, a.bytes) (read-cases n id b xs _ refl)
    same-elements (release n id) = refl
    same-elements (paint n id image pixels k) = refl

    -- ---- a call that writes as an edit does
    module _ (n id : ℕ) (b : ElementBox) (xs : List ℤ) (sixteen : SixteenBit xs) where
      -- the model's raw tensor after it, by its answer v
      abbrev left : Answer → List ℤ
      left v = leaves v (box_written q (region_box (theirs n id) b) xs m.raw) m.raw

      -- program and model are in step after it, with the table and the slots that it leaves
      write-agrees : {t : RegionTable} {slots : List Slot} {buf : List ℕ} (v : Answer) → AsEdit (theirs n id) b xs (length before) v → t.layout ≡ q → slots_of t ≡ slots
          → buf ≡ written (theirs n id) b xs (packed q m.raw before) v → Agrees (state_of t buf) (record { raw = left v; slots = slots })
      unfolding leaves
      write-agrees (Ok _) e same_layout same-slots same-buffer =
          let box = region_box (theirs n id) b in
          let v = edit-accepted (theirs n id) b xs (length before) (e refl) in
          let d = v.reads.admitted in
          record {
            layout = same_layout;
            slots = same-slots;
            count = box_written-length q box xs m.raw ∙ a.count;
            fits = box_written-fits q box xs m.raw d.count (checked-fits q xs sixteen v.values) a.fits;
            bytes = same-buffer ∙ sym (packed-boxWritten q box xs m.raw a.count d.layout before);
          }
      write-agrees (Err fault) e same_layout same-slots same-buffer =
          record { layout = same_layout; slots = same-slots; count = a.count; fits = a.fits; bytes = same-buffer }

    pub agrees_after : (c : Call) → SixteenBit (lends c) → Agrees (step s c).state (plain_step q (length before) m c).state
    unfolding step plain_step plain_answer lends edit_buffer release_buffer paint_buffer box_count
    agrees_after (place n id g) sixteen =
        record {
          layout = placed-layout s.table n id g ∙ a.layout;
          slots = placed-slots s.table n id g ∙ rw (same_place n id g, a.slots);
          count = a.count;
          fits = a.fits;
          bytes = a.bytes;
        }
    agrees_after (edit n id b xs) sixteen = write-agrees n id b xs sixteen _ (λ ok. ok) a.layout a.slots (rw (same-edit n id b xs, a.slots, a.layout, a.bytes))
    agrees_after (read n id b xs) sixteen = a
    agrees_after (release n id) sixteen =
        let all = whole_region (theirs n id) in
        write-agrees n id all (zeros_of all) (zeros-sixteen all) _ (release-as (theirs n id) (length before))
        (released-layout s.table n id (length s.buffer) ∙ a.layout)
        (released-slots s.table n id (length s.buffer) ∙ rw (same-release n id, a.slots))
        (rw (same-release n id, a.slots, a.layout, a.bytes))
    agrees_after (paint n id image pixels k) sixteen =
        let xs = painted_elements image pixels k q.precision in
        write-agrees n id (whole_region (theirs n id)) xs (painted-sixteen image pixels k q.precision) _ (paint-as-edit (theirs n id) image k pixels (length before))
        a.layout
        a.slots
        (rw (same-paint n id image (length pixels) k, a.slots, a.layout, a.bytes))
