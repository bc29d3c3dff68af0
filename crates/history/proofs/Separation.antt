-- A read through one region is undisturbed by a call through another: what an edit, a release or a painting through one region writes is no byte of
-- another. By cases on the call and on the two answers. Assumes nothing.
--     read-undisturbed     a read replies and gives the same before and after a call through another slot
use Prim.Native.Nat.{ℕ, ◌+◌, ◌<◌}
use native.Mathlib.Omega.{arith}
use mathlib.Core.Path.{◌≡◌, refl, sym, ap, ◌∙◌, subst}
use mathlib.Core.Logic.{◌≢◌}
use mathlib.Core.List.{List}
use lib.ListN.{length, get_or}
use lib.IntN.{ℤ}
use Rattle.std.specs.Prelude.{Ok, Err}
use Rattle.refusal.specs.Checks.{leaves, Answer, Accepted}
use Rattle.refusal.proofs.CheckLaws.{leaves-before}
use Rattle.layout.specs.declared.CubeLayout.{CubeLayout}
use Rattle.layout.specs.declared.ElementBox.{ElementBox}
use Rattle.layout.specs.Geometry.{size_of, element_position}
use Rattle.layout.specs.Boxes.{box_count}
use Rattle.layout.specs.Contents.{zeros_of}
use Rattle.layout.proofs.BoxLaws.{InBox, box_has-in, in_cube}
use Rattle.regions.specs.declared.Rectangle.{Rectangle}
use Rattle.regions.specs.declared.RegionTable.{RegionTable}
use Rattle.regions.specs.Slots.{slots_of}
use Rattle.regions.specs.Rules.{access_of, rectangle_at, cube_box, region_box, whole_region, slot_checks, region_box_checks, read_checks}
use Rattle.regions.specs.Calls.{edit_answer, edit_buffer, read_answer, read_elements, release_answer, release_buffer}
use Rattle.regions.specs.Reads.{SameRead}
use Rattle.regions.proofs.RuleLaws.{ValidBounds}
use Rattle.regions.proofs.CallLaws.{read-accepted, edit-accepted}
use Rattle.regions.proofs.ReadLaws.{same-elements}
use Rattle.regions.proofs.OverlapLaws.{InRectangle, in-has}
use Rattle.parlour.specs.Components.{painted_elements}
use Rattle.parlour.specs.Calls.{paint_answer, paint_buffer}
use Rattle.parlour.proofs.CallLaws.{paint-as-edit}
use Rattle.history.specs.Program.{Call, place, edit, read, release, paint, none, State, step}
use Rattle.history.specs.Writes.{slot_of_call}
use Rattle.history.proofs.TableLaws.{slot-after, layout-after}
use Rattle.history.proofs.Apart.{Apart, no-shared-byte}
use Rattle.history.proofs.BufferLaws.{AsEdit, written, written-names, release-as, length-after}

-- ---- a read through another region
in-rectangle : (q : CubeLayout) (g : Rectangle) (b : ElementBox) → ValidBounds q g b → (c h w : ℕ) → InBox (cube_box g b) c h w → InRectangle g w h
in-rectangle q g b v c h w i =
    record {
      column_ge = omega (arith, i.column_ge);
      column_lt = omega (arith, i.column_lt, v.columns.fit);
      row_ge = omega (arith, i.row_ge);
      row_lt = omega (arith, i.row_lt, v.rows.fit);
    }

-- a read through slot m with an id, at a moment whose regions are apart
module _ (s : State) (a : Apart s.table.layout (slots_of s.table)) (m id' : ℕ) (b' : ElementBox) (ys : List ℤ) where
  abbrev t : RegionTable
  t = s.table

  abbrev q : CubeLayout
  q = t.layout

  abbrev accepted : Type 0
  accepted = read_answer t m id' b' (length ys) (length s.buffer) ≡ Accepted

  -- an element of its box, if it is accepted, keeps its bytes over a call that writes through another slot
  written_keeps : accepted → (n id : ℕ) → n ≢ m → (b : ElementBox) (xs : List ℤ) (v : Answer) → AsEdit (access_of t n id) b xs (length s.buffer) v
      → (c h w k : ℕ) → InBox (region_box (access_of t m id') b') c h w → k < size_of q
      → get_or (written (access_of t n id) b xs s.buffer v) (element_position q c h w + k) 0 ≡ get_or s.buffer (element_position q c h w + k) 0
  unfolding leaves read_answer
  written_keeps r n id d b xs (Ok _) e c h w k i hk =
      let slots = slots_of t in
      let mine = (read-accepted (access_of t m id') b' (length ys) (length s.buffer) r).region in
      let theirs = (edit-accepted (access_of t n id) b xs (length s.buffer) (e refl)).reads.region in
      written-names (access_of t n id) b xs s.buffer Accepted e (element_position q c h w + k)
      (λ c' h' w' k' i' hk' same.
      no-shared-byte q mine.slot.layout slots a m n (λ z. d (sym z)) id' id (rectangle_at slots m) (rectangle_at slots n) mine.slot.placed theirs.slot.placed c h w k c' h' w' k'
      (in_cube q (cube_box (rectangle_at slots m) b') c h w mine.bounds.box i).channel_lt
      (in-has (rectangle_at slots m) w h (in-rectangle q (rectangle_at slots m) b' mine.bounds c h w i))
      hk
      (in_cube q (cube_box (rectangle_at slots n) b) c' h' w' theirs.bounds.box i').channel_lt
      (in-has (rectangle_at slots n) w' h' (in-rectangle q (rectangle_at slots n) b theirs.bounds c' h' w' i'))
      hk'
      same)
  written_keeps r n id d b xs (Err fault) e c h w k i hk = refl

  -- and so over any call through another slot
  call-keeps : accepted → (call : Call) → slot_of_call call ≢ m → (c h w k : ℕ) → InBox (region_box (access_of t m id') b') c h w → k < size_of q
      → get_or (step s call).state.buffer (element_position q c h w + k) 0 ≡ get_or s.buffer (element_position q c h w + k) 0
  unfolding step slot_of_call edit_answer edit_buffer release_answer release_buffer paint_answer paint_buffer box_count
  call-keeps r (place n id g) d c h w k i hk = refl
  call-keeps r (edit n id b xs) d c h w k i hk = written_keeps r n id d b xs _ (λ ok. ok) c h w k i hk
  call-keeps r (read n id b xs) d c h w k i hk = refl
  call-keeps r (release n id) d c h w k i hk =
      let all = whole_region (access_of t n id) in
      written_keeps r n id d all (zeros_of all) _ (release-as (access_of t n id) (length s.buffer)) c h w k i hk
  call-keeps r (paint n id image pixels conversion) d c h w k i hk =
      let all = whole_region (access_of t n id) in
      written_keeps r n id d all (painted_elements image pixels conversion q.precision) _ (paint-as-edit (access_of t n id) image conversion pixels (length s.buffer)) c h w k i hk

  module _ (call : Call) (d : slot_of_call call ≢ m) where
    abbrev after : State
    after = (step s call).state

    answer-kept : read_answer after.table m id' b' (length ys) (length after.buffer) ≡ read_answer t m id' b' (length ys) (length s.buffer)
    unfolding read_answer read_checks region_box_checks slot_checks
    answer-kept = rw (slot-after s call m d, layout-after s call, length-after s call)

    same_read : accepted → SameRead m b' t after.table id' id' s.buffer after.buffer ys ys
    same_read r =
        record {
          layout = sym (layout-after s call);
          slot = sym (slot-after s call m d);
          given = refl;
          buffers = sym (length-after s call);
          lent = refl;
          bytes = λ c h w k i hk. sym (call-keeps r call d c h w k (box_has-in (region_box (access_of t m id') b') c h w i) hk);
        }

    elements-kept : read_elements after.table m id' b' after.buffer ys ≡ read_elements t m id' b' s.buffer ys
    unfolding read_elements
    elements-kept = go (read_answer t m id' b' (length ys) (length s.buffer)) refl
      where
        go : (v : Answer) → read_answer t m id' b' (length ys) (length s.buffer) ≡ v → read_elements after.table m id' b' after.buffer ys ≡ read_elements t m id' b' s.buffer ys
        go (Ok _) r = sym (same-elements m b' t after.table id' id' s.buffer after.buffer ys ys (same_read r) r)
        go (Err fault) r = leaves-before _ ys (answer-kept ∙ r) ∙ sym (leaves-before _ ys r)

pub read-undisturbed : (q : CubeLayout) (s : State) → s.table.layout ≡ q → Apart q (slots_of s.table) → (call : Call) (m id : ℕ) → slot_of_call call ≢ m → (b : ElementBox) (ys : List ℤ)
    → ((step (step s call).state (read m id b ys)).reply ≡ (step s (read m id b ys)).reply) × ((step (step s call).state (read m id b ys)).elements ≡ (step s (read m id b ys)).elements)
unfolding step
read-undisturbed q s same a call m id d b ys =
    let apart = subst (λ (x : CubeLayout). Apart x (slots_of s.table)) (sym same) a in
    (ap (λ (x : Answer). record { answer = x; value = none }) (answer-kept s apart m id b ys call d), elements-kept s apart m id b ys call d)
