-- The claims about mending (change request K8), of the calls themselves. A call was accepted. Then each byte of the part that is padding by the paper's formula is zero
-- and every other byte stays; its report tells each padding byte that was not zero, with its value, and no other, ascending; the same call on what it left reports none and changes
-- nothing; the old values written back at their positions restore the part. A file that is accepted whole may be cut into parts as one likes: each is accepted, and what is left of
-- them and their reports, joined, are those of the whole. A packed buffer has nothing to mend, and unpacking gives the same before and after. The words are those of specs/Files.antt and
-- of layout/specs/Places.antt. Once over the three precisions. Assumes nothing.
use Prim.Native.Nat.{ℕ, ◌+◌, ◌<◌}
use mathlib.Core.Path.{◌≡◌}
use mathlib.Core.Logic.{◌↔◌}
use mathlib.Core.List.{List}
use lib.ListN.{length, get_or}
use lib.IntN.{ℤ}
use Rattle.std.specs.Prelude.{Ok}
use Rattle.refusal.specs.Checks.{Accepted}
use Rattle.layout.specs.declared.CubeLayout.{CubeLayout}
use Rattle.layout.specs.Places.{PaddingByte}
use Rattle.layout.specs.Calls.{pack_answer, pack_buffer, unpack_answer, unpack_elements}
use Rattle.padding.specs.Mending.{Dirt}
use Rattle.padding.specs.Calls.{Lent, lent, mend_answer, mend_count, mend_left}
use Rattle.padding.specs.Files.{report_given, DirtyByte, One_of, Ascending, Roomy, file_bytes, file_left, file_report, All_roomy, All_accepted, written_back}
use Rattle.padding.proofs.ClaimLaws as law

module _ (q : CubeLayout) (first len : ℕ) (l : Lent) (accepted : mend_answer q first len l ≡ Accepted) where
  pub padding-zero : (p : ℕ) → p < length l.part → PaddingByte q (first + p) → get_or (mend_left q first len l).part p 0 ≡ 0
  padding-zero = law.padding-zero q first len l accepted

  pub other-kept : (p : ℕ) → (PaddingByte q (first + p) → ⊥) → get_or (mend_left q first len l).part p 0 ≡ get_or l.part p 0
  other-kept = law.other-kept q first len l accepted

  pub length-kept : length (mend_left q first len l).part ≡ length l.part
  length-kept = law.length-kept q first len l accepted

  pub report-exactly : (d : Dirt) → One_of d (report_given q first len l) ↔ DirtyByte q first l.part d
  report-exactly = law.report-exactly q first len l accepted

  pub report-ascending : Ascending first (report_given q first len l)
  report-ascending = law.report-ascending q first len l accepted

  pub second_none : (positions olds : List ℕ) → let again = lent (mend_left q first len l).part positions olds in
      Roomy again → (mend_count q first len again ≡ Ok 0) × (mend_left q first len again ≡ again)
  second_none = law.second_none q first len l accepted

  pub restored : written_back first (report_given q first len l) (mend_left q first len l).part ≡ l.part
  restored = law.restored q first len l accepted

  pub part-by-part : (ls : List Lent) → file_bytes ls ≡ l.part → All_roomy ls
      → All_accepted q first len ls × (file_left q first len ls ≡ (mend_left q first len l).part) × (file_report q first len ls ≡ report_given q first len l)
  part-by-part = law.part-by-part q first len l accepted

-- a whole file, in one part from its start on
module _ (q : CubeLayout) (l : Lent) (accepted : mend_answer q 0 (length l.part) l ≡ Accepted) where
  pub unpacks-same : (cells : List ℤ) → let mended = (mend_left q 0 (length l.part) l).part in
      (unpack_answer q (length cells) (length mended) ≡ unpack_answer q (length cells) (length l.part)) × (unpack_elements q mended cells ≡ unpack_elements q l.part cells)
  unpacks-same = law.unpacks-same q l accepted

module _ (q : CubeLayout) (raw : List ℤ) (before : List ℕ) (accepted : pack_answer q raw (length before) ≡ Accepted) where
  pub packed-clean : (positions olds : List ℕ) → let packed = lent (pack_buffer q raw before) positions olds in
      Roomy packed → (mend_count q 0 (length before) packed ≡ Ok 0) × (mend_left q 0 (length before) packed ≡ packed)
  packed-clean = law.packed-clean q raw before accepted
