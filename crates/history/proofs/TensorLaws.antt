-- The raw tensor and its packed buffer say the same: writing elements at a box and packing is packing and writing the box, and the box's elements
-- are the raw tensor's. By cases on a byte's owner, and index by index. Assumes nothing.
--     box_written-length, box_written-at     the raw tensor after elements were written at a box
--     packed-boxWritten                    the commuting law
--     Fits, checked-fits, box_written-fits   every element is one that the precision takes, and fits its bytes
--     packed-box_read                       what a box of the packed buffer reads
--     zeros-at                             an element of a list of zeros
use Prim.Native.Nat.{ℕ, zero, suc, ◌+◌, ◌/◌, ◌^◌, ◌≤◌, ◌<◌}
use mathlib.Core.Path.{◌≡◌, refl, sym, ap, ◌∙◌, subst}
use mathlib.Core.Bool.{Bool, true, false, cond}
use mathlib.Core.List.{List}
use lib.ListN.{length, get_or, replicate}
use lib.Seq.{ext_get_or}
use lib.IntN.{ℤ, pos}
use lib.Signed.{mag}
use Rattle.refusal.specs.Checks.{in_order, Accepted}
use Rattle.elements.specs.Bytes.{byte_of}
use Rattle.elements.specs.Values.{SixteenBit, value_valid, value_checks}
use Rattle.elements.proofs.ListLaws.{length-remade, get_or-remade}
use Rattle.elements.proofs.TabulateLaws.{tabulate-ext}
use Rattle.elements.proofs.ElementLaws.{value_valid-fits}
use Rattle.elements.proofs.ValueLaws.{value_checks-valid}
use Rattle.layout.specs.declared.CubeLayout.{CubeLayout}
use Rattle.layout.specs.declared.ElementBox.{ElementBox}
use Rattle.layout.specs.Geometry.{size_of, element_count, raw_index, cube_extent}
use Rattle.layout.specs.Boxes.{whole_box, box_count, box_has, box_index, channel_at, row_at, column_at}
use Rattle.layout.specs.Owners.{Owner, owner}
use Rattle.layout.specs.Contents.{packed_byte, packed, edited_byte, edited, read_element, box_elements}
use Rattle.layout.proofs.Valid.{Valid}
use Rattle.layout.proofs.Views.{View, is_element, padding_is, is_outside, see}
use Rattle.layout.proofs.BoxLaws.{BoxValid, InCube, in_cube, box_has-in, box_index-lt, index-channel, index-row, index-column, at_in, whole-count, whole-index, whole_in}
use Rattle.layout.proofs.ContentLaws.{packed-length, packed-at, edited-length, edited-at}
use Rattle.layout.proofs.RoundTrip.{stored-raw}
use Rattle.history.specs.Model.{box_written, box_read}

-- an element of the cube is one of the raw tensor's
raw-index-lt : (q : CubeLayout) (c h w : ℕ) → InCube q c h w → raw_index q c h w < element_count q
raw-index-lt q c h w i =
    subst (λ (n : ℕ). n < element_count q) (whole-index q c h w)
    (subst (λ (n : ℕ). box_index (whole_box q) c h w < n) (whole-count q) (box_index-lt (whole_box q) c h w (whole_in q c h w i.channel_lt i.row_lt i.column_lt)))

module _ (q : CubeLayout) (box : ElementBox) (xs raw : List ℤ) where
  -- what is written at raw index i
  new : ℕ → ℤ → ℤ
  new i old =
      let c = channel_at (whole_box q) i in
      let h = row_at (whole_box q) i in
      let w = column_at (whole_box q) i in
      cond (box_has box c h w) (get_or xs (box_index box c h w) (pos 0)) old

  pub box_written-length : length (box_written q box xs raw) ≡ length raw
  unfolding box_written new
  box_written-length = length-remade new raw

  box_written-entry : (i : ℕ) → i < length raw → get_or (box_written q box xs raw) i (pos 0) ≡ new i (get_or raw i (pos 0))
  unfolding box_written new
  box_written-entry i hi = get_or-remade new raw i (pos 0) hi

  module _ (long : length raw ≡ element_count q) where
    pub box_written-at : (c h w : ℕ) → InCube q c h w
        → get_or (box_written q box xs raw) (raw_index q c h w) (pos 0) ≡ cond (box_has box c h w) (get_or xs (box_index box c h w) (pos 0)) (get_or raw (raw_index q c h w) (pos 0))
    unfolding new
    box_written-at c h w i =
        let b = whole_box q in
        let inb = whole_in q c h w i.channel_lt i.row_lt i.column_lt in
        let j = box_index b c h w in
        let old = get_or raw (raw_index q c h w) (pos 0) in
        let hi : raw_index q c h w < length raw = subst (λ (n : ℕ). raw_index q c h w < n) (sym long) (raw-index-lt q c h w i) in
        box_written-entry (raw_index q c h w) hi
        ∙ ap (λ (k : ℕ). new k old) (sym (whole-index q c h w))
        ∙ ap (λ (x : ℕ). cond (box_has box x (row_at b j) (column_at b j)) (get_or xs (box_index box x (row_at b j) (column_at b j)) (pos 0)) old) (index-channel b c h w inb)
        ∙ ap (λ (x : ℕ). cond (box_has box c x (column_at b j)) (get_or xs (box_index box c x (column_at b j)) (pos 0)) old) (index-row b c h w inb)
        ∙ ap (λ (x : ℕ). cond (box_has box c h x) (get_or xs (box_index box c h x) (pos 0)) old) (index-column b c h w inb)

    module _ (ok : Valid q) (before : List ℕ) where
      byte-of : (t : Bool) (a b : ℤ) (k : ℕ) → byte_of (cond t a b) k ≡ cond t (byte_of a k) (byte_of b k)
      byte-of true a b k = refl
      byte-of false a b k = refl

      written-view : (p old : ℕ) {o : Owner} → View q p o → packed_byte q (box_written q box xs raw) o old ≡ edited_byte box xs o (packed_byte q raw o old)
      unfolding packed_byte edited_byte
      written-view p old (is_element c h w b hc hh hw hb i) =
          ap (λ (z : ℤ). byte_of z b) (box_written-at c h w (record { channel_lt = hc; row_lt = hh; column_lt = hw }))
          ∙ byte-of (box_has box c h w) (get_or xs (box_index box c h w) (pos 0)) (get_or raw (raw_index q c h w) (pos 0)) b
      written-view p old (padding_is s h w k hs hh hw hk past i) = refl
      written-view p old (is_outside none) = refl

      pub packed-boxWritten : packed q (box_written q box xs raw) before ≡ edited q box xs (packed q raw before)
      packed-boxWritten =
          let after = box_written q box xs raw in
          let buf = packed q raw before in
          ext_get_or 0 (packed q after before) (edited q box xs buf) (packed-length q after before ∙ sym (packed-length q raw before) ∙ sym (edited-length q box xs buf))
          (λ p h.
          let hp : p < length before = subst (λ (n : ℕ). p < n) (packed-length q after before) h in
          let hb : p < length buf = subst (λ (n : ℕ). p < n) (sym (packed-length q raw before)) hp in
          packed-at q after before p hp
          ∙ written-view p (get_or before p 0) (see q ok p)
          ∙ ap (λ (n : ℕ). edited_byte box xs (owner q p) n) (sym (packed-at q raw before p hp))
          ∙ sym (edited-at q box xs buf p hb))

-- every element is one that the precision takes, and fits its bytes
pub record Fits (q : CubeLayout) (raw : List ℤ) : Type 0 where
  pub valid : (i : ℕ) → i < length raw → value_valid q.precision (get_or raw i (pos 0)) ≡ true
  pub fit : (i : ℕ) → i < length raw → mag (get_or raw i (pos 0)) < 256 ^ size_of q / 2

-- elements of 16 bits that pass the check of values
pub checked-fits : (q : CubeLayout) (xs : List ℤ) → SixteenBit xs → in_order (value_checks q.precision xs) ≡ Accepted → Fits q xs
checked-fits q xs sixteen ok =
    let valid = value_checks-valid q.precision xs ok in
    record { valid = valid; fit = λ i h. value_valid-fits q.precision (get_or xs i (pos 0)) (valid i h) (sixteen.each i) }

-- what holds of every element written and of every element before holds of every element
box_written-each : (P : ℤ → Type 0) (q : CubeLayout) (box : ElementBox) (xs raw : List ℤ) → length xs ≡ box_count box
    → ((i : ℕ) → i < length xs → P (get_or xs i (pos 0))) → ((i : ℕ) → i < length raw → P (get_or raw i (pos 0)))
    → (i : ℕ) → i < length (box_written q box xs raw) → P (get_or (box_written q box xs raw) i (pos 0))
unfolding new
box_written-each P q box xs raw count px pr i h =
    let hi : i < length raw = subst (λ (n : ℕ). i < n) (box_written-length q box xs raw) h in
    let c = channel_at (whole_box q) i in
    let y = row_at (whole_box q) i in
    let w = column_at (whole_box q) i in
    subst P (sym (box_written-entry q box xs raw i hi)) (go c y w hi (box_has box c y w) refl)
  where
    go : (c y w : ℕ) → i < length raw → (t : Bool) → box_has box c y w ≡ t → P (cond t (get_or xs (box_index box c y w) (pos 0)) (get_or raw i (pos 0)))
    go c y w hi true e = px (box_index box c y w) (subst (λ (n : ℕ). box_index box c y w < n) (sym count) (box_index-lt box c y w (box_has-in box c y w e)))
    go c y w hi false e = pr i hi

pub box_written-fits : (q : CubeLayout) (box : ElementBox) (xs raw : List ℤ) → length xs ≡ box_count box → Fits q xs → Fits q raw → Fits q (box_written q box xs raw)
box_written-fits q box xs raw count fx fr =
    record {
      valid = box_written-each (λ (z : ℤ). value_valid q.precision z ≡ true) q box xs raw count fx.valid fr.valid;
      fit = box_written-each (λ (z : ℤ). mag z < 256 ^ size_of q / 2) q box xs raw count fx.fit fr.fit;
    }

-- what a box of the packed buffer reads
pub packed-box_read : (q : CubeLayout) → Valid q → (box : ElementBox) → BoxValid q box → (raw : List ℤ) (before : List ℕ) → length raw ≡ element_count q → Fits q raw
    → q.start + cube_extent q ≤ length before → box_elements q box (packed q raw before) ≡ box_read q box raw
unfolding box_elements box_read
packed-box_read q ok box valid raw before long fits room =
    let f : ℕ → ℤ = λ (i : ℕ). read_element q (packed q raw before) (channel_at box i) (row_at box i) (column_at box i) in
    let g : ℕ → ℤ = λ (i : ℕ). get_or raw (raw_index q (channel_at box i) (row_at box i) (column_at box i)) (pos 0) in
    tabulate-ext (pos 0) (box_count box) f g
    (λ i hi.
    let inb = at_in box i hi valid.rows.some valid.columns.some in
    let cube = in_cube q box (channel_at box i) (row_at box i) (column_at box i) valid inb in
    stored-raw q ok raw before room (channel_at box i) (row_at box i) (column_at box i) cube
    (fits.fit (raw_index q (channel_at box i) (row_at box i) (column_at box i)) (subst (λ (n : ℕ). raw_index q (channel_at box i) (row_at box i) (column_at box i) < n) (sym long) (raw-index-lt q (channel_at box i) (row_at box i) (column_at box i) cube))))

-- an element of a list of zeros
pub zeros-at : (n i : ℕ) → get_or (replicate n (pos 0)) i (pos 0) ≡ pos 0
zeros-at zero i = refl
zeros-at (suc n) zero = refl
zeros-at (suc n) (suc i) = zeros-at n i
