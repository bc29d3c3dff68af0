-- A table as words: word i of it; a table written is read back, and one written over its own words changes none. Assumes nothing.
--     table_word-layout, table_word-slot      word i of a table
--     table-slots                           a table of words has all slots
--     slot-there, decoded                   a table written is read back
--     word_same, encoded                    a table written over its own words
--     slot-other                            the words of a table in which one slot changed
use Prim.Native.Nat.{ℕ, zero, suc, ◌+◌, ◌-◌, ◌*◌, ◌/◌, ◌%◌, ◌≤◌, ◌<◌}
use native.Mathlib.Omega.{arith}
use native.Mathlib.Decide.{dec_le}
use native.Mathlib.Nat.{add-zero}
use mathlib.Core.Path.{◌≡◌, refl, sym, ap, ◌∙◌, subst}
use mathlib.Core.Bool.{cond}
use mathlib.Core.List.{List}
use lib.ListN.{length, get_or, set}
use lib.Dec.{ltb}
use lib.Seq.{get_or-set_other, ext_get_or}
use borrow.Author.Tests.{lt-ltb, le-ltb}
use Rattle.elements.proofs.TabulateLaws.{length-tabulate, get_d_tabulate}
use Rattle.layout.specs.declared.CubeLayout.{CubeLayout}
use Rattle.regions.specs.declared.Region.{Region}
use Rattle.regions.specs.declared.RegionTable.{RegionTable}
use Rattle.regions.specs.Calls.{no_region}
use Rattle.olsketina.specs.Sizes.{layout_size, slot_size, slot_count, table_size}
use Rattle.olsketina.specs.Words.{word, layout_at}
use Rattle.olsketina.specs.Tables.{region_at, slots_at, table_at, layout_words, region_words, table_word, with_table, Outside}
use Rattle.olsketina.proofs.OverLaws.{overwritten-in, overwritten-same}
use Rattle.olsketina.proofs.WordLaws.{says-flag, flag_word-says}

-- ---- word i of a table
pub table_word-layout : (t : RegionTable) (i old : ℕ) → i < layout_size → table_word t i old ≡ word (layout_words t.layout) i
unfolding table_word
table_word-layout t i old h = rw (lt-ltb i layout_size h)

pub table_word-slot : (t : RegionTable) (i old : ℕ) → layout_size ≤ i
    → table_word t i old ≡ word (region_words (get_or t.slots ((i - layout_size) / slot_size) no_region) old) ((i - layout_size) % slot_size)
unfolding table_word
table_word-slot t i old h = rw (le-ltb i layout_size h)

-- word j of slot k
slot-word : (t : RegionTable) (k j old : ℕ) → j < slot_size → table_word t (layout_size + slot_size * k + j) old ≡ word (region_words (get_or t.slots k no_region) old) j
slot-word t k j old h =
    let slot : (layout_size + slot_size * k + j - layout_size) / slot_size ≡ k = omega arith in
    let place : (layout_size + slot_size * k + j - layout_size) % slot_size ≡ j = omega arith in
    table_word-slot t (layout_size + slot_size * k + j) old (omega arith) ∙ rw (slot, place)

-- ---- the table that words say
table_at-layout : (l : List ℕ) (at : ℕ) → (table_at l at).layout ≡ layout_at l at
unfolding table_at
table_at-layout l at = refl

pub table-slots : (l : List ℕ) (at : ℕ) → length (table_at l at).slots ≡ slot_count
unfolding table_at slots_at
table-slots l at = length-tabulate (λ (i : ℕ). region_at l (at + layout_size + slot_size * i)) slot_count

table_at-slot : (l : List ℕ) (at k : ℕ) → k < slot_count → get_or (table_at l at).slots k no_region ≡ region_at l (at + layout_size + slot_size * k)
unfolding table_at slots_at
table_at-slot l at k h = get_d_tabulate (λ (i : ℕ). region_at l (at + layout_size + slot_size * i)) slot_count k no_region h

-- ---- a table written is read back

module _ (t : RegionTable) (at : ℕ) (l : List ℕ) (room : at + table_size ≤ length l) where
  there : (i : ℕ) → i < table_size → word (with_table t at l) (at + i) ≡ table_word t i (word l (at + i))
  there i h = overwritten-in 0 (table_word t) at l table_size i h (omega arith)

  layout-there : layout_at (with_table t at l) at ≡ t.layout
  unfolding table_word
  layout-there =
      let first : word (with_table t at l) at ≡ t.layout.width = ap (λ (p : ℕ). word (with_table t at l) p) (sym (add-zero at)) ∙ there 0 (omega arith) in
      rw (first, there 1 (omega arith), there 2 (omega arith), there 3 (omega arith), there 4 (omega arith), there 5 (omega arith), there 6 (omega arith))

  -- word j of slot k
  pub slot-there : (k j : ℕ) → k < slot_count → j < slot_size
      → let p = at + layout_size + slot_size * k + j in
      word (with_table t at l) p ≡ word (region_words (get_or t.slots k no_region) (word l p)) j
  slot-there k j h hj =
      let from = at + layout_size + slot_size * k in
      ap (λ (p : ℕ). word (with_table t at l) p) (let e : from + j ≡ at + (layout_size + slot_size * k + j) = omega arith in e)
      ∙ there (layout_size + slot_size * k + j) (omega arith)
      ∙ slot-word t k j (word l (at + (layout_size + slot_size * k + j))) hj
      ∙ ap (λ (p : ℕ). word (region_words (get_or t.slots k no_region) (word l p)) j) (omega arith)

  region-there : (k : ℕ) → k < slot_count → region_at (with_table t at l) (at + layout_size + slot_size * k) ≡ get_or t.slots k no_region
  region-there k h =
      let g = get_or t.slots k no_region in
      let from = at + layout_size + slot_size * k in
      let w : (j : ℕ) → j < slot_size → word (with_table t at l) (from + j) ≡ word (region_words g (word l (from + j))) j = λ j hj. slot-there k j h hj in
      let first : word (with_table t at l) from ≡ word (region_words g (word l from)) 0 =
      ap (λ (p : ℕ). word (with_table t at l) p) (sym (add-zero from)) ∙ w 0 (omega arith) ∙ ap (λ (p : ℕ). word (region_words g (word l p)) 0) (add-zero from) in
      rw (first, says-flag g.placed (word l from), w 1 (omega arith), w 2 (omega arith), w 3 (omega arith), w 4 (omega arith), w 5 (omega arith))

  pub decoded : length t.slots ≡ slot_count → table_at (with_table t at l) at ≡ t
  unfolding table_at
  decoded long =
      let m = with_table t at l in
      let slots : (table_at m at).slots ≡ t.slots =
      ext_get_or no_region (table_at m at).slots t.slots (table-slots m at ∙ sym long)
      (λ k h. let low : k < slot_count = omega (arith, h, table-slots m at) in table_at-slot m at k low ∙ region-there k low) in
      rw (layout-there, slots)

-- ---- a table written over its own words
layout-same : (l : List ℕ) (at j : ℕ) → j < layout_size → word (layout_words (layout_at l at)) j ≡ word l (at + j)
layout-same l at zero h = ap (λ (p : ℕ). word l p) (sym (add-zero at))
layout-same l at (suc zero) h = refl
layout-same l at (suc (suc zero)) h = refl
layout-same l at (suc (suc (suc zero))) h = refl
layout-same l at (suc (suc (suc (suc zero)))) h = refl
layout-same l at (suc (suc (suc (suc (suc zero))))) h = refl
layout-same l at (suc (suc (suc (suc (suc (suc zero)))))) h = refl
layout-same l at (suc (suc (suc (suc (suc (suc (suc j))))))) h = absurd (let z : ⊥ = omega arith in z)

region-same : (l : List ℕ) (at j : ℕ) → j < slot_size → word (region_words (region_at l at) (word l (at + j))) j ≡ word l (at + j)
region-same l at zero h = rw (add-zero at) (flag_word-says (word l at))
region-same l at (suc zero) h = refl
region-same l at (suc (suc zero)) h = refl
region-same l at (suc (suc (suc zero))) h = refl
region-same l at (suc (suc (suc (suc zero)))) h = refl
region-same l at (suc (suc (suc (suc (suc zero))))) h = refl
region-same l at (suc (suc (suc (suc (suc (suc j)))))) h = absurd (let z : ⊥ = omega arith in z)

pub word_same : (l : List ℕ) (at i : ℕ) → i < table_size → table_word (table_at l at) i (word l (at + i)) ≡ word l (at + i)
word_same l at i h =
    elim (dec_le layout_size i) [
      | yes past ↦
          let k = (i - layout_size) / slot_size in
          let j = (i - layout_size) % slot_size in
          let cut : layout_size + slot_size * k + j ≡ i = omega arith in
          subst (λ (n : ℕ). table_word (table_at l at) n (word l (at + n)) ≡ word l (at + n)) cut (slot_same k j (omega arith) (omega arith))
      | no f ↦ layout-word (omega arith)
    ]
  where
    layout-word : i < layout_size → table_word (table_at l at) i (word l (at + i)) ≡ word l (at + i)
    layout-word low = table_word-layout (table_at l at) i (word l (at + i)) low ∙ ap (λ (q : CubeLayout). word (layout_words q) i) (table_at-layout l at) ∙ layout-same l at i low

    slot_same : (k j : ℕ) → k < slot_count → j < slot_size → table_word (table_at l at) (layout_size + slot_size * k + j) (word l (at + (layout_size + slot_size * k + j))) ≡ word l (at + (layout_size + slot_size * k + j))
    slot_same k j hk hj =
        slot-word (table_at l at) k j (word l (at + (layout_size + slot_size * k + j))) hj
        ∙ ap (λ (g : Region). word (region_words g (word l (at + (layout_size + slot_size * k + j)))) j) (table_at-slot l at k hk)
        ∙ subst (λ (p : ℕ). word (region_words (region_at l (at + layout_size + slot_size * k)) (word l p)) j ≡ word l p) (omega arith) (region-same l (at + layout_size + slot_size * k) j hj)

pub encoded : (l : List ℕ) (at : ℕ) → with_table (table_at l at) at l ≡ l
encoded l at = overwritten-same 0 (table_word (table_at l at)) at l table_size (word_same l at)

-- ---- one slot changed
pub slot-other : (t : RegionTable) (n : ℕ) (r : Region) (i old : ℕ) → Outside (layout_size + slot_size * n) slot_size i
    → table_word (record { layout = t.layout; slots = set t.slots n r }) i old ≡ table_word t i old
unfolding table_word
slot-other t n r i old out =
    elim (dec_le layout_size i) [
      | yes past ↦
          let other : (i - layout_size) / slot_size ≡ n → ⊥ = λ s. out (omega arith) (omega arith) in
          ap (λ (g : Region). cond (ltb i layout_size) (word (layout_words t.layout) i) (word (region_words g old) ((i - layout_size) % slot_size))) (get_or-set_other t.slots n ((i - layout_size) / slot_size) r no_region other)
      | no f ↦ rw (lt-ltb i layout_size (omega arith))
    ]
