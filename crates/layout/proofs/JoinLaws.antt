-- A box written part by part: two parts that together are a third, with the elements that one rule gives in each. Byte by byte, by its owner. Assumes nothing.
--     Gives, by-gives, gives-list  a list that has the elements of a rule, in raw order over a box
--     strip, band, Joins           columns and rows of a box; two parts that together are a third
--     columns-join, rows_join      columns behind columns, and rows behind rows
--     strip-valid .. band-all      a part of a valid box; no columns or rows, and all of them
--     edited-join, edited-none     one part written after another; a box of no element
use Prim.Native.Nat.{ℕ, ◌+◌, ◌≤◌, ◌<◌}
use native.Mathlib.Omega.{arith}
use native.Mathlib.Decide.{dec_lt}
use mathlib.Core.Path.{◌≡◌, refl, sym, ap, subst, subst⁻¹, ◌∙◌}
use mathlib.Core.Bool.{Bool, true, false, cond}
use mathlib.Core.Logic.{◌⊎◌, inl, inr, ⊎_elim}
use mathlib.Core.List.{List}
use lib.ListN.{length, get_or}
use lib.Seq.{ext_get_or}
use lib.IntN.{ℤ, pos}
use Rattle.elements.specs.Bytes.{byte_of}
use Rattle.elements.proofs.TabulateLaws.{length-tabulate, get_d_tabulate}
use Rattle.layout.specs.declared.CubeLayout.{CubeLayout}
use Rattle.layout.specs.declared.ElementBox.{ElementBox}
use Rattle.layout.specs.Boxes.{box_has, box_index, box_count, channel_at, row_at, column_at}
use Rattle.layout.specs.Owners.{Owner, element, padding, outside, owner}
use Rattle.layout.specs.Contents.{edited_byte, edited, elements_by}
use Rattle.layout.proofs.BoxLaws.{InBox, BoxValid, box_has-in, in-box_has, box_index-lt, index-channel, index-row, index-column, at_in, box_index-at}
use Rattle.layout.proofs.ContentLaws.{edited-length, edited-at}

-- ---- the elements of a rule

-- the list has the element that the rule gives at each channel, row and column of the box
abbrev pub Gives : (ℕ → ℕ → ℕ → ℤ) → ElementBox → List ℤ → Type 0
Gives rule box xs = (c h w : ℕ) → InBox box c h w → get_or xs (box_index box c h w) (pos 0) ≡ rule c h w

pub by-gives : (rule : ℕ → ℕ → ℕ → ℤ) (box : ElementBox) → Gives rule box (elements_by box rule)
by-gives rule box c h w i =
    let j = box_index box c h w in
    get_d_tabulate (λ (n : ℕ). rule (channel_at box n) (row_at box n) (column_at box n)) (box_count box) j (pos 0) (box_index-lt box c h w i)
    ∙ ap (λ (x : ℕ). rule x (row_at box j) (column_at box j)) (index-channel box c h w i)
    ∙ ap (λ (x : ℕ). rule c x (column_at box j)) (index-row box c h w i)
    ∙ ap (λ (x : ℕ). rule c h x) (index-column box c h w i)

-- and such a list is that one
pub gives-list : (rule : ℕ → ℕ → ℕ → ℤ) (box : ElementBox) (xs : List ℤ) → 0 < box.rows → 0 < box.columns → length xs ≡ box_count box → Gives rule box xs → xs ≡ elements_by box rule
gives-list rule box xs rows columns count gives =
    ext_get_or (pos 0) xs (elements_by box rule) (count ∙ sym (length-tabulate _ (box_count box)))
    (λ j h.
    let hj = subst (λ (n : ℕ). j < n) count h in
    ap (λ (n : ℕ). get_or xs n (pos 0)) (sym (box_index-at box j hj rows columns))
    ∙ gives (channel_at box j) (row_at box j) (column_at box j) (at_in box j hj rows columns)
    ∙ sym (get_d_tabulate (λ (n : ℕ). rule (channel_at box n) (row_at box n) (column_at box n)) (box_count box) j (pos 0) hj))

-- ---- parts of a box

-- the columns of a box from `first` on, `count` of them, and the rows
abbrev pub strip : ElementBox → (first count : ℕ) → ElementBox
strip box first count =
    record { channel = box.channel; row = box.row; column = box.column + first; channels = box.channels; rows = box.rows; columns = count }

abbrev pub band : ElementBox → (first count : ℕ) → ElementBox
band box first count =
    record { channel = box.channel; row = box.row + first; column = box.column; channels = box.channels; rows = count; columns = box.columns }

-- the elements of two boxes are those of a third
pub record Joins (l r all : ElementBox) : Type 0 where
  pub left : (c h w : ℕ) → InBox l c h w → InBox all c h w
  pub right : (c h w : ℕ) → InBox r c h w → InBox all c h w
  pub either : (c h w : ℕ) → InBox all c h w → InBox l c h w ⊎ InBox r c h w

module _ (box : ElementBox) where
  -- an element with its row, or its column, in other bounds
  in-strip : (old m first count c h w : ℕ) → InBox (strip box old m) c h w → box.column + first ≤ w → w < box.column + first + count → InBox (strip box first count) c h w
  in-strip old m first count c h w i ge lt = record { channel_ge = i.channel_ge; channel_lt = i.channel_lt; row_ge = i.row_ge; row_lt = i.row_lt; column_ge = ge; column_lt = lt }

  in-band : (old m first count c h w : ℕ) → InBox (band box old m) c h w → box.row + first ≤ h → h < box.row + first + count → InBox (band box first count) c h w
  in-band old m first count c h w i ge lt = record { channel_ge = i.channel_ge; channel_lt = i.channel_lt; row_ge = ge; row_lt = lt; column_ge = i.column_ge; column_lt = i.column_lt }

  module _ (first count : ℕ) where
    pub columns-join : Joins (strip box 0 first) (strip box first count) (strip box 0 (first + count))
    columns-join =
        record {
          left = λ c h w i. in-strip 0 first 0 (first + count) c h w i i.column_ge (omega (arith, i.column_lt));
          right = λ c h w i. in-strip first count 0 (first + count) c h w i (omega (arith, i.column_ge)) (omega (arith, i.column_lt));
          either =
              λ c h w i. elim (dec_lt w (box.column + first)) [
                | yes f ↦ inl (in-strip 0 (first + count) 0 first c h w i i.column_ge (omega arith))
                | no f ↦ inr (in-strip 0 (first + count) first count c h w i (omega arith) (omega (arith, i.column_lt)))
              ];
        }

    pub rows_join : Joins (band box 0 first) (band box first count) (band box 0 (first + count))
    rows_join =
        record {
          left = λ c h w i. in-band 0 first 0 (first + count) c h w i i.row_ge (omega (arith, i.row_lt));
          right = λ c h w i. in-band first count 0 (first + count) c h w i (omega (arith, i.row_ge)) (omega (arith, i.row_lt));
          either =
              λ c h w i. elim (dec_lt h (box.row + first)) [
                | yes f ↦ inl (in-band 0 (first + count) 0 first c h w i i.row_ge (omega arith))
                | no f ↦ inr (in-band 0 (first + count) first count c h w i (omega arith) (omega (arith, i.row_lt)))
              ];
        }

  pub strip-valid : (q : CubeLayout) → BoxValid q box → (first count : ℕ) → 0 < count → first + count ≤ box.columns → BoxValid q (strip box first count)
  strip-valid q t first count some fit =
      record { channels = t.channels; rows = t.rows; columns = record { some = some; fit = omega (arith, fit, t.columns.fit) } }

  pub band-valid : (q : CubeLayout) → BoxValid q box → (first count : ℕ) → 0 < count → first + count ≤ box.rows → BoxValid q (band box first count)
  band-valid q t first count some fit =
      record { channels = t.channels; rows = record { some = some; fit = omega (arith, fit, t.rows.fit) }; columns = t.columns }

  -- none of them, and all
  pub no-columns : (c h w : ℕ) → InBox (strip box 0 0) c h w → ⊥
  no-columns c h w i = omega (arith, i.column_ge, i.column_lt)

  pub no_rows : (c h w : ℕ) → InBox (band box 0 0) c h w → ⊥
  no_rows c h w i = omega (arith, i.row_ge, i.row_lt)

  pub strip-all : strip box 0 box.columns ≡ box
  strip-all =
      let same : box.column + 0 ≡ box.column = omega arith in
      ap (λ (x : ℕ). record { channel = box.channel; row = box.row; column = x; channels = box.channels; rows = box.rows; columns = box.columns }) same

  pub band-all : band box 0 box.rows ≡ box
  band-all =
      let same : box.row + 0 ≡ box.row = omega arith in
      ap (λ (x : ℕ). record { channel = box.channel; row = x; column = box.column; channels = box.channels; rows = box.rows; columns = box.columns }) same

-- ---- one part written after another

-- two tests that together are a third
both : (a b c : Bool) (new old : ℕ) → (a ≡ true → c ≡ true) → (b ≡ true → c ≡ true) → (c ≡ true → (a ≡ true) ⊎ (b ≡ true)) → cond b new (cond a new old) ≡ cond c new old
both a true c new old f g h = rw (g refl)
both true false c new old f g h = rw (f refl)
both false false true new old f g h = absurd (⊎_elim (λ e. differ e) (λ e. differ e) (h refl))
  where
    differ : false ≡ true → ⊥
    differ t = let z : ◌≡◌ {A = ℕ} 0 1 = cc in omega arith
both false false false new old f g h = refl

module _ (rule : ℕ → ℕ → ℕ → ℤ) where
  -- a byte of an element after writing: the rule's in the box, else as it was
  by-rule : (box : ElementBox) (xs : List ℤ) → Gives rule box xs → (c h w b old : ℕ) → edited_byte box xs (element c h w b) old ≡ cond (box_has box c h w) (byte_of (rule c h w) b) old
  unfolding edited_byte
  by-rule box xs gives c h w b old = go (box_has box c h w) refl
    where
      go : (t : Bool) → box_has box c h w ≡ t → cond t (byte_of (get_or xs (box_index box c h w) (pos 0)) b) old ≡ cond t (byte_of (rule c h w) b) old
      go false e = refl
      go true e = ap (λ (x : ℤ). byte_of x b) (gives c h w (box_has-in box c h w e))

  module _ (l r all : ElementBox) (xs ys zs : List ℤ) (js : Joins l r all) (gl : Gives rule l xs) (gr : Gives rule r ys) (ga : Gives rule all zs) where
    joined : (o : Owner) (old : ℕ) → edited_byte r ys o (edited_byte l xs o old) ≡ edited_byte all zs o old
    unfolding edited_byte
    joined (element c h w b) old =
        by-rule r ys gr c h w b (edited_byte l xs (element c h w b) old)
        ∙ ap (λ (x : ℕ). cond (box_has r c h w) (byte_of (rule c h w) b) x) (by-rule l xs gl c h w b old)
        ∙ both (box_has l c h w) (box_has r c h w) (box_has all c h w) (byte_of (rule c h w) b) old
        (λ e. in-box_has all c h w (js.left c h w (box_has-in l c h w e)))
        (λ e. in-box_has all c h w (js.right c h w (box_has-in r c h w e)))
        (λ e. ⊎_elim (λ i. inl (in-box_has l c h w i)) (λ i. inr (in-box_has r c h w i)) (js.either c h w (box_has-in all c h w e)))
        ∙ sym (by-rule all zs ga c h w b old)
    joined padding old = refl
    joined outside old = refl

    pub edited-join : (q : CubeLayout) (before : List ℕ) → edited q r ys (edited q l xs before) ≡ edited q all zs before
    edited-join q before =
        let some = edited q l xs before in
        let long = edited-length q r ys some ∙ edited-length q l xs before in
        ext_get_or 0 (edited q r ys some) (edited q all zs before) (long ∙ sym (edited-length q all zs before))
        (λ p h.
        let hp = subst (λ (n : ℕ). p < n) long h in
        edited-at q r ys some p (subst⁻¹ (λ (n : ℕ). p < n) (edited-length q l xs before) hp)
        ∙ ap (edited_byte r ys (owner q p)) (edited-at q l xs before p hp)
        ∙ joined (owner q p) (get_or before p 0)
        ∙ sym (edited-at q all zs before p hp))

-- a box that has no element
module _ (box : ElementBox) (xs : List ℤ) (void : (c h w : ℕ) → InBox box c h w → ⊥) where
  none : (o : Owner) (old : ℕ) → edited_byte box xs o old ≡ old
  unfolding edited_byte
  none (element c h w b) old = go (box_has box c h w) refl
    where
      go : (t : Bool) → box_has box c h w ≡ t → cond t (byte_of (get_or xs (box_index box c h w) (pos 0)) b) old ≡ old
      go false e = refl
      go true e = absurd (void c h w (box_has-in box c h w e))
  none padding old = refl
  none outside old = refl

  pub edited-none : (q : CubeLayout) (before : List ℕ) → edited q box xs before ≡ before
  edited-none q before =
      let long = edited-length q box xs before in
      ext_get_or 0 (edited q box xs before) before long
      (λ p h. edited-at q box xs before p (subst (λ (n : ℕ). p < n) long h) ∙ none (owner q p) (get_or before p 0))
