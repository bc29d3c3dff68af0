-- A sheet's state as words: encoded and decoded, over its own words, and where frame and table stay. Assumes nothing.
--     sheet-back, sheet-over, sheet-length     a state encoded
--     progress-sets                            its first four words, one by one
--     desk-same                                where frame and table stay, so do their words
use Prim.Native.Nat.{ℕ, zero, suc, ◌+◌, ◌*◌, ◌/◌, ◌%◌, ◌^◌, ◌≤◌, ◌<◌}
use native.Mathlib.Omega.{arith}
use mathlib.Core.Path.{◌≡◌, refl, ap, ◌∙◌}
use mathlib.Core.List.{List}
use lib.ListN.{length, set}
use Rattle.script.specs.declared.Sheet.{Sheet}
use Rattle.script.specs.declared.Desk.{Desk}
use Rattle.script.specs.Feed.{desk_of}
use Rattle.olsketina.specs.Sizes.{slot_count, table_size, frame_word, state_table, state_size}
use Rattle.olsketina.specs.Words.{word, overwritten}
use Rattle.olsketina.specs.Tables.{says, table_at, flag_word, table_word, with_table}
use Rattle.olsketina.specs.Sheets.{sheet_from, progress_word, with_progress, with_sheet}
use Rattle.olsketina.proofs.OverLaws.{overwritten-length, overwritten-kept, overwritten-out, overwritten-in, overwritten-same}
use Rattle.olsketina.proofs.WordLaws.{says-flag, flag_word-says}
use Rattle.olsketina.proofs.TableLaws.{decoded, word_same, encoded}

module _ (s : Sheet) (l : List ℕ) where
  pub progress-sets : let counted = set (set l 0 (s.lines.count % 4294967296)) 1 (s.lines.count / 4294967296) in
      with_progress s l ≡ set (set counted 2 s.lines.line.length) frame_word (flag_word s.desk.framed (word l frame_word))
  progress-sets = unfold overwritten in refl

  progress-length : length (with_progress s l) ≡ length l
  progress-length = overwritten-length 0 (progress_word s) 0 l state_table

  pub sheet-length : length (with_sheet s l) ≡ length l
  unfolding with_sheet
  sheet-length = overwritten-length 0 (table_word s.desk.table) state_table (with_progress s l) table_size ∙ progress-length

  pub sheet-back : length l ≡ state_size → length s.desk.table.slots ≡ slot_count → sheet_from (with_sheet s l) s.lines.line.bytes ≡ s
  unfolding sheet_from with_sheet
  sheet-back long slots =
      let m = with_progress s l in
      let first : (j : ℕ) → j < state_table → word (with_table s.desk.table state_table m) (0 + j) ≡ progress_word s j (word l (0 + j)) =
      λ j h. overwritten-out 0 (table_word s.desk.table) state_table m table_size (0 + j) (λ a b. let z : ⊥ = omega arith in z)
      ∙ overwritten-in 0 (progress_word s) 0 l state_table j h (omega (arith, long)) in
      let joined : s.lines.count % 4294967296 + 4294967296 * (s.lines.count / 4294967296) ≡ s.lines.count = omega arith in
      rw (
        decoded s.desk.table state_table m (omega (arith, progress-length, long)) slots,
        first 0 (omega arith),
        first 1 (omega arith),
        first 2 (omega arith),
        first 3 (omega arith),
        says-flag s.desk.framed (word l frame_word),
        joined,
      )

  -- a state with the frame and the table that the words say already
  pub desk-same : (text : List ℕ) → desk_of s ≡ desk_of (sheet_from l text) → (p : ℕ) → frame_word ≤ p → word (with_sheet s l) p ≡ word l p
  unfolding with_sheet sheet_from
  desk-same text same p h =
      let framed : s.desk.framed ≡ says (word l frame_word) = ap (λ (d : Desk). d.framed) same in
      let table : s.desk.table ≡ table_at l state_table = ap (λ (d : Desk). d.table) same in
      let first : word (with_progress s l) p ≡ word l p =
      overwritten-kept 0 (progress_word s) 0 l state_table p
      (λ i k e. let last : i ≡ frame_word = omega arith in rw (last, ← e, last, framed) (flag_word-says (word l frame_word))) in
      overwritten-kept 0 (table_word s.desk.table) state_table (with_progress s l) table_size p (λ i k e. rw (first, table, ← e) (word_same l state_table i k)) ∙ first

-- words are 32-bit numbers
progress-same : (l text : List ℕ) → word l 0 < 2 ^ 32 → (i : ℕ) → i < state_table → progress_word (sheet_from l text) i (word l (0 + i)) ≡ word l (0 + i)
unfolding sheet_from
progress-same l text h zero k = omega (arith, h)
progress-same l text h (suc zero) k = omega (arith, h)
progress-same l text h (suc (suc zero)) k = refl
progress-same l text h (suc (suc (suc zero))) k = flag_word-says (word l frame_word)
progress-same l text h (suc (suc (suc (suc i)))) k = absurd (let z : ⊥ = omega arith in z)

pub sheet-over : (l text : List ℕ) → word l 0 < 2 ^ 32 → with_sheet (sheet_from l text) l ≡ l
unfolding with_sheet
sheet-over l text h = rw (overwritten-same 0 (progress_word (sheet_from l text)) 0 l state_table (progress-same l text h)) (unfold sheet_from in encoded l state_table)
