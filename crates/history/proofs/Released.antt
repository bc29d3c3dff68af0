-- An element of a region that was released is read as 0 until an accepted edit writes it, a painting being one: its bytes are 0 after the release, and
-- every later call keeps them or writes zeros. By induction on the list. Assumes nothing.
--     zero-released, zero-after     what the release leaves, and what one call keeps
--     zero-run                      what a list of calls keeps
--     released-zero                 from the beginning on
use Prim.Native.Nat.{ℕ, ◌<◌}
use native.Mathlib.Omega.{arith}
use mathlib.Core.Path.{◌≡◌, refl, sym, subst}
use mathlib.Core.Bool.{true, false}
use mathlib.Core.List.{List, [], ◌∷◌, ◌++◌}
use lib.ListN.{length}
use lib.IntN.{ℤ}
use Rattle.refusal.specs.Checks.{Accepted}
use Rattle.layout.specs.declared.CubeLayout.{CubeLayout}
use Rattle.layout.specs.declared.ElementBox.{ElementBox}
use Rattle.layout.specs.Boxes.{box_count, box_has, box_index}
use Rattle.layout.specs.Contents.{zeros_of}
use Rattle.layout.proofs.BoxLaws.{InCube, in-box_has, box_has-in, in_cube}
use Rattle.regions.specs.Slots.{slots_of, rectangle_has}
use Rattle.regions.specs.Rules.{Access, access_of, rectangle_at, region_box, whole_region}
use Rattle.regions.specs.Calls.{edit_answer, edit_buffer, release_answer, release_buffer}
use Rattle.regions.proofs.CallLaws.{release-accepted}
use Rattle.regions.proofs.OverlapLaws.{has_in}
use Rattle.parlour.specs.Components.{painted_elements}
use Rattle.parlour.specs.Calls.{paint_answer, paint_buffer}
use Rattle.parlour.proofs.CallLaws.{paint-as-edit}
use Rattle.history.specs.Program.{Call, place, edit, read, release, paint, State, beginning, step, run_to, moment, slots_at}
use Rattle.history.specs.Writes.{edits_element, Unwritten, Reads_zero}
use Rattle.history.proofs.TensorLaws.{zeros-at}
use Rattle.history.proofs.TableLaws.{layout-after}
use Rattle.history.proofs.BufferLaws.{release-as}
use Rattle.history.proofs.Apart.{layout-at}
use Rattle.history.proofs.ZeroLaws.{Zeroed, zero-read, zero-written, zero-kept, zero-unwritten}

-- ---- the release: an accepted one writes 0 to every element of its region
module _ (s : State) (n id : ℕ) (ok : release_answer s.table n id (length s.buffer) ≡ Accepted) (c h w : ℕ) (hc : c < s.table.layout.channels)
    (has : rectangle_has (rectangle_at (slots_of s.table) n) w h ≡ true) where
  abbrev a : Access
  a = access_of s.table n id

  abbrev all : ElementBox
  all = whole_region a

  in_all : box_has (region_box a all) c h w ≡ true
  in_all =
      let i = has_in (rectangle_at (slots_of s.table) n) w h has in
      in-box_has (region_box a all) c h w
      (record {
        channel_ge = omega arith;
        channel_lt = omega (arith, hc);
        row_ge = omega (arith, i.row_ge);
        row_lt = omega (arith, i.row_lt);
        column_ge = omega (arith, i.column_ge);
        column_lt = omega (arith, i.column_lt);
      })

  released-cube : InCube s.table.layout c h w
  unfolding release_answer
  released-cube =
      in_cube s.table.layout (region_box a all) c h w (release-accepted a (length s.buffer) ok).reads.admitted.inside (box_has-in (region_box a all) c h w in_all)

  zero-released : Zeroed s.table.layout (step s (release n id)).state.buffer c h w
  unfolding step release_answer release_buffer box_count
  zero-released =
      zero-written a all (zeros_of all) s.buffer _ (release-as a (length s.buffer)) c h w ok in_all (zeros-at (box_count all) (box_index (region_box a all) c h w))

-- ---- one call after it, and a list of calls
module _ (c h w : ℕ) where
  zero-after : (s : State) (call : Call) → InCube s.table.layout c h w → ((step s call).reply.answer ≡ Accepted → edits_element s.table call c h w ≡ false)
      → Zeroed s.table.layout s.buffer c h w → Zeroed s.table.layout (step s call).state.buffer c h w
  unfolding step edits_element edit_answer edit_buffer release_answer release_buffer paint_answer paint_buffer box_count
  zero-after s (place n id g) cube f z = z
  zero-after s (edit n id b xs) cube f z = zero-unwritten (access_of s.table n id) b xs s.buffer _ (λ ok. ok) c h w cube z f
  zero-after s (read n id b xs) cube f z = z
  zero-after s (release n id) cube f z =
      let a = access_of s.table n id in
      let all = whole_region a in
      zero-kept a all (zeros_of all) s.buffer _ (release-as a (length s.buffer)) c h w cube z (λ ok has. zeros-at (box_count all) (box_index (region_box a all) c h w))
  zero-after s (paint n id image pixels k) cube f z =
      let a = access_of s.table n id in
      zero-unwritten a (whole_region a) (painted_elements image pixels k a.layout.precision) s.buffer _ (paint-as-edit a image k pixels (length s.buffer)) c h w cube z f

  zero-run : (s : State) (calls : List Call) → InCube s.table.layout c h w → Unwritten s calls c h w → Zeroed s.table.layout s.buffer c h w
      → Zeroed (run_to s calls).table.layout (run_to s calls).buffer c h w
  unfolding run_to Unwritten
  zero-run s [] cube u z = z
  zero-run s (call ∷ calls) cube u z =
      let same = sym (layout-after s call) in
      zero-run (step s call).state calls (subst (λ (x : CubeLayout). InCube x c h w) same cube) u.1
      (subst (λ (x : CubeLayout). Zeroed x (step s call).state.buffer c h w) same (zero-after s call cube u.0 z))

-- ---- from the beginning on
run_to-append : (s : State) (first rest : List Call) → run_to s (first ++ rest) ≡ run_to (run_to s first) rest
unfolding run_to
run_to-append s [] rest = refl
run_to-append s (call ∷ first) rest = run_to-append (step s call).state first rest

released-run : (s : State) (rest : List Call) (n id : ℕ) → (step s (release n id)).reply.answer ≡ Accepted → (c h w : ℕ) → c < s.table.layout.channels
    → rectangle_has (rectangle_at (slots_of s.table) n) w h ≡ true → Unwritten (step s (release n id)).state rest c h w → Reads_zero (run_to s (release n id ∷ rest)) c h w
unfolding step run_to
released-run s rest n id ok c h w hc has u =
    let same = sym (layout-after s (release n id)) in
    zero-read (run_to (step s (release n id)).state rest) c h w
    (zero-run c h w (step s (release n id)).state rest (subst (λ (x : CubeLayout). InCube x c h w) same (released-cube s n id ok c h w hc has)) u
    (subst (λ (x : CubeLayout). Zeroed x (step s (release n id)).state.buffer c h w) same (zero-released s n id ok c h w hc has)))

pub released-zero : (q : CubeLayout) (raw : List ℤ) (before : List ℕ) (first rest : List Call) (n id : ℕ) → (step (moment q raw before first) (release n id)).reply.answer ≡ Accepted
    → (c h w : ℕ) → c < q.channels → rectangle_has (rectangle_at (slots_at q raw before first) n) w h ≡ true
    → Unwritten (step (moment q raw before first) (release n id)).state rest c h w → Reads_zero (moment q raw before (first ++ (release n id ∷ rest))) c h w
released-zero q raw before first rest n id ok c h w hc has u =
    let s = moment q raw before first in
    let hc' : c < s.table.layout.channels = subst (λ (x : CubeLayout). c < x.channels) (sym (layout-at q raw before first)) hc in
    subst (λ (x : State). Reads_zero x c h w) (sym (run_to-append (beginning q raw before).state first (release n id ∷ rest)))
    (released-run s rest n id ok c h w hc' has u)
