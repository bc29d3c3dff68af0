-- A placing and a release: the words say the table handed back, and none but the slot's own change. Each sets one slot where it is accepted, so the
-- laws are proved once, of any answer and any region set. Assumes nothing.
--     place-all                        a placing keeps the number of slots
--     place-back, place-alone
--     release-back, release_alone
--     release-frees                    the slot's words after an accepted release
use Prim.Native.Nat.{ℕ, zero, suc, ◌+◌, ◌*◌, ◌<◌}
use native.Mathlib.Omega.{arith}
use mathlib.Core.Path.{◌≡◌, refl, ap, ◌∙◌}
use mathlib.Core.List.{List}
use lib.ListN.{length, get_or, set, length-set}
use lib.Seq.{get_or-set_same}
use Rattle.std.specs.Prelude.{Ok, Err}
use Rattle.refusal.specs.Checks.{leaves, Answer, Accepted}
use Rattle.refusal.proofs.CheckLaws.{leaves-done}
use Rattle.regions.specs.declared.Region.{Region}
use Rattle.regions.specs.declared.RegionTable.{RegionTable}
use Rattle.regions.specs.declared.Rectangle.{Rectangle}
use Rattle.regions.specs.Rules.{access_of}
use Rattle.regions.specs.Calls.{no_region, placed_region, with_slot, place_answer, place_table, release_answer, release_table}
use Rattle.regions.proofs.CallLaws.{release-accepted}
use Rattle.olsketina.specs.Sizes.{layout_size, slot_size, slot_count, table_size}
use Rattle.olsketina.specs.Words.{word}
use Rattle.olsketina.specs.Tables.{flag_word, region_words, table_word, table_at, with_table, place_words, release_words, Outside}
use Rattle.olsketina.proofs.OverLaws.{overwritten-kept}
use Rattle.olsketina.proofs.TableLaws.{table-slots, decoded, slot-there, word_same, slot-other}

-- ---- one slot set where a call is accepted
set_all : (a : Answer) (t : RegionTable) (n : ℕ) (r : Region) → length t.slots ≡ slot_count → length (leaves a (with_slot t n r) t).slots ≡ slot_count
unfolding leaves
set_all (Ok _) t n r long = length-set t.slots n r ∙ long
set_all (Err fault) t n r long = long

module _ (l : List ℕ) (n : ℕ) (r : Region) where
  abbrev said : RegionTable
  said = table_at l 0

  abbrev after : Answer → RegionTable
  after a = leaves a (with_slot said n r) said

  set_back : (a : Answer) → length l ≡ table_size → table_at (leaves a (with_table (after a) 0 l) l) 0 ≡ after a
  unfolding leaves
  set_back (Ok _) long = decoded (with_slot said n r) 0 l (omega (arith, long)) (length-set said.slots n r ∙ table-slots l 0)
  set_back (Err fault) long = refl

  set-alone : (a : Answer) (p : ℕ) → Outside (layout_size + slot_size * n) slot_size p → word (leaves a (with_table (after a) 0 l) l) p ≡ word l p
  unfolding leaves
  set-alone (Ok _) p out =
      overwritten-kept 0 (table_word (with_slot said n r)) 0 l table_size p
      (λ i h e. rw (← e) (slot-other said n r i (word l (0 + i)) (λ a b. out (omega arith) (omega arith)) ∙ word_same l 0 i h))
  set-alone (Err fault) p out = refl

-- ---- a placing
pub place-all : (t : RegionTable) (n id : ℕ) (g : Rectangle) → length t.slots ≡ slot_count → length (place_table t n id g).slots ≡ slot_count
unfolding place_table
place-all t n id g long = set_all (place_answer t n id g) t n (placed_region id g) long

module _ (l : List ℕ) (n id : ℕ) (g : Rectangle) where
  pub place-back : length l ≡ table_size → table_at (place_words l n id g) 0 ≡ place_table (table_at l 0) n id g
  unfolding place_table
  place-back long = set_back l n (placed_region id g) (place_answer (table_at l 0) n id g) long

  pub place-alone : (p : ℕ) → Outside (layout_size + slot_size * n) slot_size p → word (place_words l n id g) p ≡ word l p
  unfolding place_table
  place-alone p out = set-alone l n (placed_region id g) (place_answer (table_at l 0) n id g) p out

-- ---- a release

-- the words of an empty slot
none-words : (old j : ℕ) → word (region_words no_region old) j ≡ 0
unfolding flag_word
none-words old zero = refl
none-words old (suc zero) = refl
none-words old (suc (suc zero)) = refl
none-words old (suc (suc (suc zero))) = refl
none-words old (suc (suc (suc (suc zero)))) = refl
none-words old (suc (suc (suc (suc (suc zero))))) = refl
none-words old (suc (suc (suc (suc (suc (suc j)))))) = refl

module _ (l : List ℕ) (n id len : ℕ) where
  pub release-back : length l ≡ table_size → table_at (release_words l n id len) 0 ≡ release_table (table_at l 0) n id len
  unfolding release_table
  release-back long = set_back l n no_region (release_answer (table_at l 0) n id len) long

  pub release_alone : (p : ℕ) → Outside (layout_size + slot_size * n) slot_size p → word (release_words l n id len) p ≡ word l p
  unfolding release_table
  release_alone p out = set-alone l n no_region (release_answer (table_at l 0) n id len) p out

  -- an accepted release names one of the slots
  slot-named : release_answer (table_at l 0) n id len ≡ Accepted → n < slot_count
  unfolding release_answer
  slot-named ok = (release-accepted (access_of (table_at l 0) n id) len ok).reads.region.slot.number

  pub release-frees : length l ≡ table_size → release_answer (table_at l 0) n id len ≡ Accepted → (j : ℕ) → j < slot_size → word (release_words l n id len) (layout_size + slot_size * n + j) ≡ 0
  unfolding release_table
  release-frees long ok j h =
      let t = table_at l 0 in
      let at = layout_size + slot_size * n + j in
      let low = slot-named ok in
      let freed : release_table t n id len ≡ with_slot t n no_region = leaves-done (with_slot t n no_region) t ok in
      let free : get_or (set t.slots n no_region) n no_region ≡ no_region = get_or-set_same t.slots n no_region no_region (omega (arith, low, table-slots l 0)) in
      ap (λ (m : List ℕ). word m at) (leaves-done (with_table (release_table t n id len) 0 l) l ok)
      ∙ ap (λ (u : RegionTable). word (with_table u 0 l) at) freed
      ∙ slot-there (with_slot t n no_region) 0 l (omega (arith, long)) n j low h
      ∙ ap (λ (g : Region). word (region_words g (word l at)) j) free
      ∙ none-words (word l at) j
