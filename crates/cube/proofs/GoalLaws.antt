-- What a buffer is to become, byte by byte: the bytes of the box's elements, and, where the whole cube is packed, 0 in its padding. A buffer that
-- came toward it and reached these bytes is it. Assumes nothing.
--     Reached, reached-keep     a channel of a row has its bytes, the last one also the padding
--     Goal, written-goal        what is to become of the buffer
use Prim.Native.Nat.{ℕ, suc, ◌+◌, ◌-◌, ◌*◌, ◌≤◌, ◌<◌}
use native.Mathlib.Omega.{arith}
use mathlib.Core.Path.{◌≡◌, refl, sym, ap, subst, subst⁻¹, ◌∙◌}
use mathlib.Core.Bool.{Bool, true, false}
use mathlib.Core.Logic.{⊎_elim}
use mathlib.Core.List.{List}
use lib.ListN.{length, get_or}
use lib.IntN.{ℤ, pos}
use Rattle.general.proofs.Toward.{Toward, toward-refl, reached-kept}
use Rattle.elements.specs.Bytes.{byte_of}
use Rattle.layout.specs.declared.CubeLayout.{CubeLayout}
use Rattle.layout.specs.declared.ElementBox.{ElementBox}
use Rattle.layout.specs.Geometry.{size_of, element_position, cube_extent}
use Rattle.layout.specs.Boxes.{whole_box}
use Rattle.layout.specs.Owners.{padding, outside, owner}
use Rattle.layout.specs.Contents.{packed, edited}
use Rattle.layout.proofs.Valid.{Valid}
use Rattle.layout.proofs.BoxLaws.{BoxValid, InBox, whole-valid}
use Rattle.layout.proofs.ContentLaws.{edited-element, edited-reached, packed-length, packed-outside, packed-padding, packed-by-edit}
use Rattle.layout.proofs.Formulas.{PaddingByte, padding-exactly}
use Rattle.cube.specs.Steps.{run_from, run_index, run_position, gathered, box_written}
use Rattle.cube.proofs.RunLaws.{run_in, run-index, run-position, run-cube, run_room}
use Rattle.cube.proofs.GatherLaws.{gathered-run}

-- channel c of the box's row k has its bytes, and with the last channel the row's padding
pub record Reached (q : CubeLayout) (box : ElementBox) (pad : Bool) (goal after : List ℕ) (c k : ℕ) : Type 0 where
  pub elements : (i b : ℕ) → i < box.columns → b < size_of q → get_or after (run_position q box c k + 32 * i + b) 0 ≡ get_or goal (run_position q box c k + 32 * i + b) 0
  pub pads : pad ≡ true → suc c ≡ box.channels → (p : ℕ) (x : PaddingByte q p) → x.atom.h ≡ k → get_or after p 0 ≡ get_or goal p 0

pub reached-keep : (q : CubeLayout) (box : ElementBox) (pad : Bool) (goal : List ℕ) {l₁ l₂ : List ℕ} → Toward 0 goal l₁ l₂
    → (c k : ℕ) → Reached q box pad goal l₁ c k → Reached q box pad goal l₂ c k
reached-keep q box pad goal near c k r =
    record {
      elements = λ i b hi hb. reached-kept 0 goal near (run_position q box c k + 32 * i + b) (r.elements i b hi hb);
      pads = λ t l p x h. reached-kept 0 goal near p (r.pads t l p x h);
    }

pub record Goal (q : CubeLayout) (box : ElementBox) (pad : Bool) (plane line : ℕ) (xs : List ℤ) (before goal : List ℕ) : Type 0 where
  pub held : (c k i b : ℕ) → c < box.channels → k < box.rows → i < box.columns → b < size_of q
      → byte_of (get_or xs (run_from plane line c k + i) (pos 0)) b ≡ get_or goal (run_position q box c k + 32 * i + b) 0
  pub whole : pad ≡ true → box ≡ whole_box q
  pub zero : pad ≡ true → (p : ℕ) → p < length before → owner q p ≡ padding → get_or goal p 0 ≡ 0
  pub only : (after : List ℕ) → Toward 0 goal before after → ((c k : ℕ) → c < box.channels → k < box.rows → Reached q box pad goal after c k) → after ≡ goal

module _ (q : CubeLayout) (ok : Valid q) (box : ElementBox) (inside : BoxValid q box) (xs : List ℤ) (before : List ℕ) (room : q.start + cube_extent q ≤ length before) where
  edited-held : (c k i b : ℕ) → c < box.channels → k < box.rows → i < box.columns → b < size_of q
      → byte_of (get_or xs (run_index box c k + i) (pos 0)) b ≡ get_or (edited q box xs before) (run_position q box c k + 32 * i + b) 0
  edited-held c k i b hc hk hi hb =
      let cube = run-cube q ok box inside c k i hc hk hi in
      let bound : element_position q (box.channel + c) (box.row + k) (box.column + i) + b < length before = omega (arith, run_room q ok box inside (length before) room c k i hc hk hi, run-position q box c k i) in
      ap (λ (m : ℕ). byte_of (get_or xs m (pos 0)) b) (sym (run-index box c k i hc hk hi))
      ∙ sym (edited-element q box xs before ok (box.channel + c) (box.row + k) (box.column + i) b cube (run_in box c k i hc hk hi) hb bound)
      ∙ ap (λ (m : ℕ). get_or (edited q box xs before) (m + b) 0) (run-position q box c k i)

  module _ (pad : Bool) (goal after : List ℕ) (all : (c k : ℕ) → c < box.channels → k < box.rows → Reached q box pad goal after c k) where
    -- each element of the box is one of a run
    there : (c h w b : ℕ) → InBox box c h w → b < size_of q → get_or after (element_position q c h w + b) 0 ≡ get_or goal (element_position q c h w + b) 0
    there c h w b i hb =
        let n = c - box.channel in
        let r = h - box.row in
        let k = w - box.column in
        let ec : box.channel + n ≡ c = omega (arith, i.channel_ge) in
        let eh : box.row + r ≡ h = omega (arith, i.row_ge) in
        let ew : box.column + k ≡ w = omega (arith, i.column_ge) in
        let at : run_position q box n r + 32 * k ≡ element_position q c h w =
        sym (run-position q box n r k)
        ∙ ap (λ (x : ℕ). element_position q x (box.row + r) (box.column + k)) ec
        ∙ ap (λ (x : ℕ). element_position q c x (box.column + k)) eh
        ∙ ap (λ (x : ℕ). element_position q c h x) ew in
        subst (λ (p : ℕ). get_or after (p + b) 0 ≡ get_or goal (p + b) 0) at
        ((all n r (omega (arith, i.channel_ge, i.channel_lt)) (omega (arith, i.row_ge, i.row_lt))).elements k b (omega (arith, i.column_ge, i.column_lt)) hb)

  edited-goal : Goal q box false (box.rows * box.columns) box.columns xs before (edited q box xs before)
  edited-goal =
      record {
        held = edited-held;
        whole = λ t. absurd (differ t);
        zero = λ t. absurd (differ t);
        only = λ after near all. edited-reached q box xs before ok after near (there false (edited q box xs before) after all);
      }
    where
      differ : false ≡ true → ⊥
      differ t = let z : ◌≡◌ {A = ℕ} 0 1 = cc in omega arith

module _ (q : CubeLayout) (ok : Valid q) (xs : List ℤ) (before : List ℕ) (room : q.start + cube_extent q ≤ length before) where
  goal : List ℕ
  goal = packed q xs before

  -- packing again changes nothing
  again : edited q (whole_box q) xs goal ≡ goal
  unfolding goal
  again = packed-by-edit q ok xs before (packed q xs before) (packed-length q xs before) (packed-outside q xs before) (packed-padding q xs before)

  -- a buffer that came toward the packed one, and reached it, is it
  packed-only : (after : List ℕ) → Toward 0 goal before after → ((c k : ℕ) → c < q.channels → k < q.height → Reached q (whole_box q) true goal after c k) → after ≡ goal
  unfolding goal
  packed-only after near all =
      let long = near.long in
      let gaps : (p : ℕ) → owner q p ≡ outside → get_or after p 0 ≡ get_or before p 0 = λ p e. ⊎_elim (λ i. i) (λ i. i ∙ packed-outside q xs before p e) (near.each p) in
      let pads : (p : ℕ) → p < length before → owner q p ≡ padding → get_or after p 0 ≡ 0 =
      λ p h e.
      let x = (padding-exactly q ok p).0 e in
      (all (q.channels - 1) x.atom.h (omega (arith, ok.channels_pos)) x.atom.row_lt).pads refl (omega (arith, ok.channels_pos)) p x refl ∙ packed-padding q xs before p h e in
      let by = packed-by-edit q ok xs before after long gaps pads in
      edited-reached q (whole_box q) xs after ok after (toward-refl 0 (edited q (whole_box q) xs after) after)
      (λ c h w b i hb.
      there q ok (whole_box q) (whole-valid q ok) xs before room true (packed q xs before) after all c h w b i hb ∙ ap (λ (l : List ℕ). get_or l (element_position q c h w + b) 0) (sym by))
      ∙ by

  packed-goal : Goal q (whole_box q) true (q.height * q.width) q.width xs before (packed q xs before)
  unfolding goal
  packed-goal =
      record {
        held = λ c k i b hc hk hi hb.
            edited-held q ok (whole_box q) (whole-valid q ok) xs (packed q xs before) (subst (λ (n : ℕ). q.start + cube_extent q ≤ n) (sym (packed-length q xs before)) room) c k i b hc hk hi hb
            ∙ ap (λ (l : List ℕ). get_or l (run_position q (whole_box q) c k + 32 * i + b) 0) again;
        whole = λ t. refl;
        zero = λ t p h e. packed-padding q xs before p h e;
        only = packed-only;
      }

-- the box's elements in raw order
raw-goal : (q : CubeLayout) → Valid q → (box : ElementBox) → BoxValid q box → (pad : Bool) → (pad ≡ true → box ≡ whole_box q) → (xs : List ℤ) (before : List ℕ)
    → q.start + cube_extent q ≤ length before → Goal q box pad (box.rows * box.columns) box.columns xs before (box_written q box pad xs before)
unfolding box_written
raw-goal q ok box inside false w xs before room = edited-goal q ok box inside xs before room
raw-goal q ok box inside true w xs before room = subst⁻¹ (λ (b : ElementBox). Goal q b true (b.rows * b.columns) b.columns xs before (packed q xs before)) (w refl) (packed-goal q ok xs before room)

-- as they lie in any list
pub written-goal : (q : CubeLayout) → Valid q → (box : ElementBox) → BoxValid q box → (pad : Bool) → (pad ≡ true → box ≡ whole_box q) → (plane line : ℕ) (xs : List ℤ) (before : List ℕ)
    → q.start + cube_extent q ≤ length before → Goal q box pad plane line xs before (box_written q box pad (gathered box plane line xs) before)
written-goal q ok box inside pad w plane line xs before room =
    let g = raw-goal q ok box inside pad w (gathered box plane line xs) before room in
    record {
      held = λ c k i b hc hk hi hb. ap (λ (x : ℤ). byte_of x b) (sym (gathered-run box plane line xs c k i hc hk hi)) ∙ g.held c k i b hc hk hi hb;
      whole = g.whole;
      zero = g.zero;
      only = g.only;
    }
