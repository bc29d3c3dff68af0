-- An element whose bytes are 0: it is read as 0, and what a call that writes as an edit does leaves of it. By cases on the call's answer and on whether its
-- box has the element. Assumes nothing.
--     Zeroed, zero-read              the bytes of an element are 0, and it is read as 0
--     zero-written, element-kept     an accepted call that writes 0 to it, and one that does not write it
--     zero-kept, zero-unwritten      a call that does not write it, or writes 0; one that does not write it
use Prim.Native.Nat.{ℕ, ◌+◌, ◌/◌, ◌^◌, ◌<◌}
use native.Mathlib.Nat.{zero-div}
use native.Mathlib.Omega.{arith}
use mathlib.Core.Path.{◌≡◌, refl, sym, ap, ◌∙◌, subst}
use mathlib.Core.Logic.{⊎_elim}
use mathlib.Core.Bool.{Bool, true, false}
use mathlib.Core.List.{List}
use lib.ListN.{length, get_or}
use lib.IntN.{ℤ, pos}
use Rattle.std.specs.Prelude.{Ok, Err}
use Rattle.refusal.specs.Checks.{Answer, Accepted}
use Rattle.refusal.proofs.CheckLaws.{leaves-done, leaves-before}
use Rattle.elements.specs.Bytes.{byte_of}
use Rattle.elements.proofs.ByteLaws.{element_bytes-cases, element_at-byte_of}
use Rattle.elements.proofs.TabulateLaws.{get_d_tabulate}
use Rattle.layout.specs.declared.CubeLayout.{CubeLayout}
use Rattle.layout.specs.declared.ElementBox.{ElementBox}
use Rattle.layout.specs.Geometry.{size_of, element_position}
use Rattle.layout.specs.Boxes.{box_count, box_has, box_index, channel_at, row_at, column_at}
use Rattle.layout.specs.Contents.{edited, read_element, box_elements}
use Rattle.layout.proofs.BoxLaws.{InCube, in-box_has, box_has-in, in_cube, box_index-lt, index-channel, index-row, index-column}
use Rattle.layout.proofs.Extents.{element-within}
use Rattle.layout.proofs.ContentLaws.{edited-element}
use Rattle.layout.proofs.Formulas.{element-own}
use Rattle.regions.specs.Rules.{Access, access_of, region_box}
use Rattle.regions.specs.Calls.{read_elements}
use Rattle.regions.proofs.CallLaws.{edit-accepted}
use Rattle.history.specs.Program.{State, step}
use Rattle.history.specs.Writes.{Reads_zero}
use Rattle.history.proofs.BufferLaws.{AsEdit, written, written-names}

-- the bytes of element (c, h, w) are 0
abbrev pub Zeroed : CubeLayout → List ℕ → ℕ → ℕ → ℕ → Type 0
Zeroed q buf c h w = (k : ℕ) → k < size_of q → get_or buf (element_position q c h w + k) 0 ≡ 0

zero-byte : (k : ℕ) → byte_of (pos 0) k ≡ 0
unfolding byte_of
zero-byte k = rw (zero-div (256 ^ k))

-- such an element is read as 0
zero-element : (q : CubeLayout) (buf : List ℕ) (c h w : ℕ) → Zeroed q buf c h w → read_element q buf c h w ≡ pos 0
unfolding read_element
zero-element q buf c h w z = element_at-byte_of (size_of q) (pos 0) buf (element_position q c h w) half (λ k l. z k l ∙ sym (zero-byte k))
  where
    half : 0 < 256 ^ size_of q / 2
    half = ⊎_elim (λ e. subst (λ (n : ℕ). 0 < 256 ^ n / 2) (sym e) (omega arith)) (λ e. subst (λ (n : ℕ). 0 < 256 ^ n / 2) (sym e) (omega arith)) (element_bytes-cases q.precision)

pub zero-read : (s : State) (c h w : ℕ) → Zeroed s.table.layout s.buffer c h w → Reads_zero s c h w
unfolding step read_elements box_elements
zero-read s c h w z m id b xs ok has d =
    let q = s.table.layout in
    let box = region_box (access_of s.table m id) b in
    let i = box_has-in box c h w has in
    let j = box_index box c h w in
    ap (λ (l : List ℤ). get_or l j d) (leaves-done _ xs ok)
    ∙ get_d_tabulate (λ (x : ℕ). read_element q s.buffer (channel_at box x) (row_at box x) (column_at box x)) (box_count box) j d (box_index-lt box c h w i)
    ∙ rw (index-channel box c h w i, index-row box c h w i, index-column box c h w i) (zero-element q s.buffer c h w z)

-- ---- what a call that writes as an edit does leaves of it
module _ (a : Access) (b : ElementBox) (xs : List ℤ) (buf : List ℕ) (v : Answer) (as-edit : AsEdit a b xs (length buf) v) (c h w : ℕ) where
  abbrev q : CubeLayout
  q = a.layout

  abbrev box : ElementBox
  box = region_box a b

  abbrev after : List ℕ
  after = written a b xs buf v

  -- accepted, and 0 is what it writes there
  pub zero-written : v ≡ Accepted → box_has box c h w ≡ true → get_or xs (box_index box c h w) (pos 0) ≡ pos 0 → Zeroed q after c h w
  zero-written ok has e k hk =
      let d = (edit-accepted a b xs (length buf) (as-edit ok)).reads.admitted in
      let i = box_has-in box c h w has in
      let cube = in_cube q box c h w d.inside i in
      let end = element-within q d.layout c h w cube.channel_lt cube.row_lt cube.column_lt in
      ap (λ (l : List ℕ). get_or l (element_position q c h w + k) 0) (leaves-done (edited q box xs buf) buf ok)
      ∙ edited-element q box xs buf d.layout c h w k cube i hk (omega (arith, d.room, end, hk))
      ∙ ap (λ (z : ℤ). byte_of z k) e
      ∙ zero-byte k

  -- accepted, and its box does not have the element, whose bytes stay
  element-kept : InCube q c h w → v ≡ Accepted → box_has box c h w ≡ false → (k : ℕ) → k < size_of q → get_or after (element_position q c h w + k) 0 ≡ get_or buf (element_position q c h w + k) 0
  element-kept cube ok not_in k hk =
      let d = (edit-accepted a b xs (length buf) (as-edit ok)).reads.admitted in
      written-names a b xs buf v as-edit (element_position q c h w + k)
      (λ c' h' w' k' i' hk' e.
      let same = element-own q d.layout c h w k c' h' w' k' cube (in_cube q box c' h' w' d.inside i') hk hk' e in
      let has : box_has box c h w ≡ true = rw (same.0, same.1, same.2) (in-box_has box c' h' w' i') in
      let z : ◌≡◌ {A = ℕ} 0 1 = cc in
      omega arith)

  -- it does not write the element, or writes 0
  pub zero-kept : InCube q c h w → Zeroed q buf c h w → (v ≡ Accepted → box_has box c h w ≡ true → get_or xs (box_index box c h w) (pos 0) ≡ pos 0) → Zeroed q after c h w
  zero-kept cube z f = by_answer v refl
    where
      by-box : v ≡ Accepted → (x : Bool) → box_has box c h w ≡ x → Zeroed q after c h w
      by-box ok true has = zero-written ok has (f ok has)
      by-box ok false has = λ k hk. element-kept cube ok has k hk ∙ z k hk

      by_answer : (x : Answer) → v ≡ x → Zeroed q after c h w
      by_answer (Ok _) ok = by-box ok (box_has box c h w) refl
      by_answer (Err fault) e = λ k hk. ap (λ (l : List ℕ). get_or l (element_position q c h w + k) 0) (leaves-before _ buf e) ∙ z k hk

  -- it does not write the element
  pub zero-unwritten : InCube q c h w → Zeroed q buf c h w → (v ≡ Accepted → box_has box c h w ≡ false) → Zeroed q after c h w
  zero-unwritten cube z f =
      zero-kept cube z (λ ok has. absurd (let not_in = f ok in let x : ◌≡◌ {A = ℕ} 0 1 = cc in let no_such : ⊥ = omega arith in no_such))
