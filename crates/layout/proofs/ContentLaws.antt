-- What a byte is after packing and after writing a box, in the paper's formula; and the two ways in which the code comes to it. By cases on
-- the byte's owner. Assumes nothing.
--     packed-length, packed-at, packed-element, packed-padding, packed-outside
--     edited-length, edited-at, edited-element, edited-kept
--     edited-reached     a list that came toward the edited one, and reached it in each element of the box, is the edited one
--     packed-by-edit     writing the whole cube over a buffer whose padding is 0 is packing
use Prim.Native.Nat.{ℕ, ◌+◌, ◌≤◌, ◌<◌}
use native.Mathlib.Decide.{dec_lt}
use native.Mathlib.Omega.{arith}
use mathlib.Core.Path.{◌≡◌, refl, sym, ap, ◌∙◌, subst}
use mathlib.Core.Logic.{⊎_elim}
use mathlib.Core.Bool.{Bool, true, false}
use mathlib.Core.List.{List}
use lib.ListN.{length, get_or, get_or-eq_default}
use lib.Seq.{ext_get_or}
use lib.IntN.{ℤ, pos}
use Rattle.general.proofs.Toward.{Toward}
use Rattle.elements.specs.Bytes.{byte_of}
use Rattle.elements.proofs.ListLaws.{length-remade, get_or-remade}
use Rattle.layout.specs.declared.CubeLayout.{CubeLayout}
use Rattle.layout.specs.declared.ElementBox.{ElementBox}
use Rattle.layout.specs.Geometry.{size_of, raw_index, element_position}
use Rattle.layout.specs.Boxes.{whole_box, box_has, box_index}
use Rattle.layout.specs.Owners.{Owner, element, padding, outside, owner}
use Rattle.layout.specs.Contents.{packed_byte, packed, edited_byte, edited}
use Rattle.layout.proofs.Valid.{Valid}
use Rattle.layout.proofs.Views.{View, is_element, padding_is, is_outside, see, element-owner}
use Rattle.layout.proofs.BoxLaws.{InBox, InCube, box_has-in, in-box_has, whole_in, whole-index}

module _ (q : CubeLayout) (raw : List ℤ) (before : List ℕ) where
  pub packed-length : length (packed q raw before) ≡ length before
  unfolding packed
  packed-length = length-remade (λ (p old : ℕ). packed_byte q raw (owner q p) old) before

  pub packed-at : (p : ℕ) → p < length before → get_or (packed q raw before) p 0 ≡ packed_byte q raw (owner q p) (get_or before p 0)
  unfolding packed
  packed-at p h = get_or-remade (λ (p old : ℕ). packed_byte q raw (owner q p) old) before p 0 h

  past : (p : ℕ) → length before ≤ p → get_or (packed q raw before) p 0 ≡ get_or before p 0
  past p h = get_or-eq_default (packed q raw before) 0 (subst (λ (n : ℕ). n ≤ p) (sym packed-length) h) ∙ sym (get_or-eq_default before 0 h)

  pub packed-outside : (p : ℕ) → owner q p ≡ outside → get_or (packed q raw before) p 0 ≡ get_or before p 0
  unfolding packed_byte
  packed-outside p e =
      elim (dec_lt p (length before)) [ yes h ↦ packed-at p h ∙ ap (λ (o : Owner). packed_byte q raw o (get_or before p 0)) e | no f ↦ past p (omega arith) ]

  pub packed-padding : (p : ℕ) → p < length before → owner q p ≡ padding → get_or (packed q raw before) p 0 ≡ 0
  unfolding packed_byte
  packed-padding p h e = packed-at p h ∙ ap (λ (o : Owner). packed_byte q raw o (get_or before p 0)) e

  pub packed-element : (p c h w b : ℕ) → p < length before → owner q p ≡ element c h w b → get_or (packed q raw before) p 0 ≡ byte_of (get_or raw (raw_index q c h w) (pos 0)) b
  unfolding packed_byte
  packed-element p c h w b hp e = packed-at p hp ∙ ap (λ (o : Owner). packed_byte q raw o (get_or before p 0)) e

module _ (q : CubeLayout) (box : ElementBox) (xs : List ℤ) (before : List ℕ) where
  pub edited-length : length (edited q box xs before) ≡ length before
  unfolding edited
  edited-length = length-remade (λ (p old : ℕ). edited_byte box xs (owner q p) old) before

  pub edited-at : (p : ℕ) → p < length before → get_or (edited q box xs before) p 0 ≡ edited_byte box xs (owner q p) (get_or before p 0)
  unfolding edited
  edited-at p h = get_or-remade (λ (p old : ℕ). edited_byte box xs (owner q p) old) before p 0 h

  edited-past : (p : ℕ) → length before ≤ p → get_or (edited q box xs before) p 0 ≡ get_or before p 0
  edited-past p h = get_or-eq_default (edited q box xs before) 0 (subst (λ (n : ℕ). n ≤ p) (sym edited-length) h) ∙ sym (get_or-eq_default before 0 h)

  edited-has : (c h w b old : ℕ) → box_has box c h w ≡ true → edited_byte box xs (element c h w b) old ≡ byte_of (get_or xs (box_index box c h w) (pos 0)) b
  unfolding edited_byte
  edited-has c h w b old e = rw e

  edited-has-not : (c h w b old : ℕ) → box_has box c h w ≡ false → edited_byte box xs (element c h w b) old ≡ old
  unfolding edited_byte
  edited-has-not c h w b old e = rw e

  -- a byte of a buffer, for which the owner's byte is the old one
  edited-same : (p : ℕ) → ((old : ℕ) → edited_byte box xs (owner q p) old ≡ old) → get_or (edited q box xs before) p 0 ≡ get_or before p 0
  edited-same p f = elim (dec_lt p (length before)) [ yes h ↦ edited-at p h ∙ f (get_or before p 0) | no g ↦ edited-past p (omega arith) ]

  module _ (ok : Valid q) where
    pub edited-element : (c h w b : ℕ) → InCube q c h w → InBox box c h w → b < size_of q → element_position q c h w + b < length before
        → get_or (edited q box xs before) (element_position q c h w + b) 0 ≡ byte_of (get_or xs (box_index box c h w) (pos 0)) b
    edited-element c h w b cube i hb hp =
        edited-at (element_position q c h w + b) hp
        ∙ ap (λ (o : Owner). edited_byte box xs o (get_or before (element_position q c h w + b) 0)) (element-owner q ok c h w b cube.channel_lt cube.row_lt cube.column_lt hb)
        ∙ edited-has c h w b (get_or before (element_position q c h w + b) 0) (in-box_has box c h w i)

    -- the byte p is of no element of the box
    NotOf : ℕ → Type 0
    NotOf p = (c h w b : ℕ) → InBox box c h w → b < size_of q → p ≡ element_position q c h w + b → ⊥

    kept-view : (p : ℕ) {o : Owner} → View q p o → NotOf p → (old : ℕ) → edited_byte box xs o old ≡ old
    unfolding NotOf edited_byte
    kept-view p (is_element c h w b hc hh hw hb i) f old = go (box_has box c h w) refl
      where
        go : (t : Bool) → box_has box c h w ≡ t → edited_byte box xs (element c h w b) old ≡ old
        go true e = absurd (f c h w b (box_has-in box c h w e) hb i)
        go false e = edited-has-not c h w b old e
    kept-view p (padding_is s h w k hs hh hw hk past i) f old = refl
    kept-view p (is_outside none) f old = refl

    pub edited-kept : (p : ℕ) → ((c h w b : ℕ) → InBox box c h w → b < size_of q → p ≡ element_position q c h w + b → ⊥) → get_or (edited q box xs before) p 0 ≡ get_or before p 0
    unfolding NotOf
    edited-kept p f = edited-same p (kept-view p (see q ok p) f)

    module _ (after : List ℕ) (near : Toward 0 (edited q box xs before) before after)
        (there : (c h w b : ℕ) → InBox box c h w → b < size_of q → get_or after (element_position q c h w + b) 0 ≡ get_or (edited q box xs before) (element_position q c h w + b) 0) where
      -- where the edited byte is the old one, both ways of coming near give it
      as_before : (p : ℕ) → get_or (edited q box xs before) p 0 ≡ get_or before p 0 → get_or after p 0 ≡ get_or (edited q box xs before) p 0
      as_before p e = ⊎_elim (λ i. i ∙ sym e) (λ i. i) (near.each p)

      reached-view : (p : ℕ) {o : Owner} → owner q p ≡ o → View q p o → get_or after p 0 ≡ get_or (edited q box xs before) p 0
      unfolding edited_byte
      reached-view p e (is_element c h w b hc hh hw hb i) = go (box_has box c h w) refl
        where
          go : (t : Bool) → box_has box c h w ≡ t → get_or after p 0 ≡ get_or (edited q box xs before) p 0
          go true t = subst (λ (n : ℕ). get_or after n 0 ≡ get_or (edited q box xs before) n 0) (sym i) (there c h w b (box_has-in box c h w t) hb)
          go false t = as_before p (edited-same p (λ old. ap (λ (o : Owner). edited_byte box xs o old) e ∙ edited-has-not c h w b old t))
      reached-view p e (padding_is s h w k hs hh hw hk past i) = as_before p (edited-same p (λ old. ap (λ (o : Owner). edited_byte box xs o old) e))
      reached-view p e (is_outside none) = as_before p (edited-same p (λ old. ap (λ (o : Owner). edited_byte box xs o old) e))

      pub edited-reached : after ≡ edited q box xs before
      edited-reached = ext_get_or 0 after (edited q box xs before) (near.long ∙ sym edited-length) (λ p h. reached-view p refl (see q ok p))

module _ (q : CubeLayout) (ok : Valid q) (raw : List ℤ) (before wiped : List ℕ) (long : length wiped ≡ length before)
    (gaps : (p : ℕ) → owner q p ≡ outside → get_or wiped p 0 ≡ get_or before p 0) (pads : (p : ℕ) → p < length before → owner q p ≡ padding → get_or wiped p 0 ≡ 0) where
  whole-view : (p : ℕ) → p < length before → {o : Owner} → owner q p ≡ o → View q p o → get_or (edited q (whole_box q) raw wiped) p 0 ≡ get_or (packed q raw before) p 0
  unfolding edited_byte
  whole-view p hp e (is_element c h w b hc hh hw hb i) =
      edited-at q (whole_box q) raw wiped p (subst (λ (n : ℕ). p < n) (sym long) hp)
      ∙ ap (λ (o : Owner). edited_byte (whole_box q) raw o (get_or wiped p 0)) e
      ∙ edited-has q (whole_box q) raw wiped c h w b (get_or wiped p 0) (in-box_has (whole_box q) c h w (whole_in q c h w hc hh hw))
      ∙ ap (λ (n : ℕ). byte_of (get_or raw n (pos 0)) b) (whole-index q c h w)
      ∙ sym (packed-element q raw before p c h w b hp e)
  whole-view p hp e (padding_is s h w k hs hh hw hk past i) =
      edited-at q (whole_box q) raw wiped p (subst (λ (n : ℕ). p < n) (sym long) hp)
      ∙ ap (λ (o : Owner). edited_byte (whole_box q) raw o (get_or wiped p 0)) e
      ∙ pads p hp e
      ∙ sym (packed-padding q raw before p hp e)
  whole-view p hp e (is_outside none) =
      edited-at q (whole_box q) raw wiped p (subst (λ (n : ℕ). p < n) (sym long) hp)
      ∙ ap (λ (o : Owner). edited_byte (whole_box q) raw o (get_or wiped p 0)) e
      ∙ gaps p e
      ∙ sym (packed-outside q raw before p e)

  pub packed-by-edit : edited q (whole_box q) raw wiped ≡ packed q raw before
  packed-by-edit =
      ext_get_or 0 (edited q (whole_box q) raw wiped) (packed q raw before) (edited-length q (whole_box q) raw wiped ∙ long ∙ sym (packed-length q raw before))
      (λ p h. whole-view p (subst (λ (n : ℕ). p < n) (edited-length q (whole_box q) raw wiped ∙ long) h) refl (see q ok p))
