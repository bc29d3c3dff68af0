-- What a call leaves of the buffer: it changes only bytes of the elements that it names to be written. An edit, a release and a painting are here one: each
-- writes elements to a box of its region, by an answer that is accepted only where such an edit is. By cases on the call and on its answer. Assumes nothing.
--     AsEdit, written                   a call that writes as an edit does
--     written-names, written-length     the buffer after it
--     release-as                        a release is one, with zeros; a painting is by `paint-as-edit`
--     call-changes, length-after        the buffer after any call
use Prim.Native.Nat.{ℕ, ◌+◌, ◌<◌}
use mathlib.Core.Path.{◌≡◌, refl, sym, ◌∙◌, subst}
use mathlib.Core.Bool.{true}
use mathlib.Core.List.{List}
use lib.ListN.{length, get_or}
use lib.IntN.{ℤ}
use Rattle.std.specs.Prelude.{Ok, Err}
use Rattle.refusal.specs.Checks.{in_order, leaves, Answer, Accepted}
use Rattle.layout.specs.declared.CubeLayout.{CubeLayout}
use Rattle.layout.specs.declared.ElementBox.{ElementBox}
use Rattle.layout.specs.Geometry.{size_of, element_position}
use Rattle.layout.specs.Boxes.{box_count, box_has}
use Rattle.layout.specs.Contents.{edited, zeros_of}
use Rattle.layout.proofs.BoxLaws.{InBox, in-box_has}
use Rattle.layout.proofs.ContentLaws.{edited-kept, edited-length}
use Rattle.regions.specs.Rules.{Access, access_of, region_box, whole_region, edit_checks, release_checks}
use Rattle.regions.specs.Calls.{edit_answer, edit_buffer, release_answer, release_buffer}
use Rattle.regions.proofs.CallLaws.{edit-accepted, release-as-edit}
use Rattle.parlour.specs.Components.{painted_elements}
use Rattle.parlour.specs.Calls.{paint_answer, paint_buffer}
use Rattle.parlour.proofs.CallLaws.{paint-as-edit}
use Rattle.history.specs.Program.{Call, place, edit, read, release, paint, State, step}
use Rattle.history.specs.Writes.{writes_element}

-- ---- a call that writes as an edit of a box with elements xs does
module _ (a : Access) (b : ElementBox) (xs : List ℤ) where
  -- its answer v is accepted only where the edit is
  abbrev pub AsEdit : (len : ℕ) → Answer → Type 0
  AsEdit len v = v ≡ Accepted → in_order (edit_checks a b xs len) ≡ Accepted

  -- what it leaves of a buffer
  abbrev pub written : List ℕ → Answer → List ℕ
  written buf v = leaves v (edited a.layout (region_box a b) xs buf) buf

  module _ (buf : List ℕ) where
    -- a byte of no element of the box stays
    pub written-names : (v : Answer) → AsEdit (length buf) v → (p : ℕ)
        → ((c h w k : ℕ) → InBox (region_box a b) c h w → k < size_of a.layout → p ≡ element_position a.layout c h w + k → ⊥) → get_or (written buf v) p 0 ≡ get_or buf p 0
    unfolding leaves
    written-names (Ok _) e p f = edited-kept a.layout (region_box a b) xs buf (edit-accepted a b xs (length buf) (e refl)).reads.admitted.layout p f
    written-names (Err fault) e p f = refl

    -- in the words of the claims
    written-changes : (q : CubeLayout) → a.layout ≡ q → (v : Answer) → AsEdit (length buf) v → (p : ℕ)
        → ((c h w k : ℕ) → box_has (region_box a b) c h w ≡ true → k < size_of q → p ≡ element_position q c h w + k → ⊥) → get_or (written buf v) p 0 ≡ get_or buf p 0
    written-changes q same v e p f =
        written-names v e p
        (λ c h w k i hk at.
        f c h w k (in-box_has (region_box a b) c h w i) (subst (λ (x : CubeLayout). k < size_of x) same hk) (subst (λ (x : CubeLayout). p ≡ element_position x c h w + k) same at))

    written-length : (v : Answer) → length (written buf v) ≡ length buf
    unfolding leaves
    written-length (Ok _) = edited-length a.layout (region_box a b) xs buf
    written-length (Err fault) = refl

-- a release writes zeros to the whole region
pub release-as : (a : Access) (len : ℕ) → AsEdit a (whole_region a) (zeros_of (whole_region a)) len (in_order (release_checks a len))
release-as a len ok = sym (release-as-edit a len) ∙ ok

-- ---- any call
pub call-changes : (q : CubeLayout) (s : State) → s.table.layout ≡ q → (call : Call) (p : ℕ)
    → ((c h w k : ℕ) → writes_element s.table call c h w ≡ true → k < size_of q → p ≡ element_position q c h w + k → ⊥)
    → get_or (step s call).state.buffer p 0 ≡ get_or s.buffer p 0
unfolding step writes_element edit_answer edit_buffer release_answer release_buffer paint_answer paint_buffer box_count
call-changes q s same (place n id g) p f = refl
call-changes q s same (edit n id b xs) p f = written-changes (access_of s.table n id) b xs s.buffer q same _ (λ ok. ok) p f
call-changes q s same (read n id b xs) p f = refl
call-changes q s same (release n id) p f =
    let a = access_of s.table n id in
    written-changes a (whole_region a) (zeros_of (whole_region a)) s.buffer q same _ (release-as a (length s.buffer)) p f
call-changes q s same (paint n id image pixels k) p f =
    let a = access_of s.table n id in
    written-changes a (whole_region a) (painted_elements image pixels k a.layout.precision) s.buffer q same _ (paint-as-edit a image k pixels (length s.buffer)) p f

pub length-after : (s : State) (call : Call) → length (step s call).state.buffer ≡ length s.buffer
unfolding step edit_buffer release_buffer paint_buffer
length-after s (place n id g) = refl
length-after s (edit n id b xs) = written-length (access_of s.table n id) b xs s.buffer _
length-after s (read n id b xs) = refl
length-after s (release n id) = let a = access_of s.table n id in written-length a (whole_region a) _ s.buffer _
length-after s (paint n id image pixels k) = let a = access_of s.table n id in written-length a (whole_region a) _ s.buffer _
