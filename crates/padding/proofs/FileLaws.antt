-- A file mended part by part, mended again, and restored (specs/Files.antt). By induction on the parts, and on the bytes. Assumes nothing.
--     accepted-part              a part of an accepted whole, with room for its report, is accepted
--     parts-accepted, parts-left, parts-report     part by part is the whole
--     clean-call                 a call on bytes of which none is reported
--     written-back               old values written back
use Prim.Native.Nat.{ℕ, suc, ◌+◌, ◌-◌, ◌≤◌}
use native.Mathlib.Omega.{arith}
use mathlib.Core.Path.{◌≡◌, refl, sym, ap, ◌∙◌}
use mathlib.Core.Bool.{Bool, true, false, cond}
use mathlib.Core.List.{List, [], ◌∷◌, ◌++◌, flatten}
use lib.ListN.{length, set, length-append}
use lib.Seq.{set-append_seam, append_snoc}
use Rattle.std.specs.Prelude.{Ok}
use Rattle.refusal.specs.Checks.{Accepted}
use Rattle.layout.specs.declared.CubeLayout.{CubeLayout}
use Rattle.layout.specs.Owners.{owner}
use Rattle.padding.specs.Mending.{Dirt, mended_byte, mended, is_dirty, reported}
use Rattle.padding.specs.Calls.{Lent, mend_answer, mend_count, mend_left, mended_lists, filled}
use Rattle.padding.specs.Files.{Roomy, file_bytes, file_left, file_report, All_roomy, All_accepted, written_back}
use Rattle.padding.proofs.MendLaws.{mended-none, mended-cons, mended-append, reported-none, reported-append, clean-kept, Clean, clean-reported, clean-mended}
use Rattle.padding.proofs.CheckLaws.{mendable, mend-accepted}
use Rattle.padding.proofs.CallLaws.{count-accepted, left-accepted, part-accepted, given-reported}

module _ (q : CubeLayout) (len : ℕ) where
  -- ---- part by part

  -- the frame and the file are those of an accepted call: a part in the file with room for its report is accepted too
  pub accepted-part : (first : ℕ) (l : Lent) (first' : ℕ) (l' : Lent) → mend_answer q first len l ≡ Accepted → first' + length l'.part ≤ len → Roomy l' → mend_answer q first' len l' ≡ Accepted
  unfolding mend_answer
  accepted-part first l first' l' e h r =
      let m = mendable q first len (length l.part) (length l.positions) (length l.olds) e in
      mend-accepted q first' len (length l'.part) (length l'.positions) (length l'.olds)
      (record { layout_ok = m.layout_ok; room_le = m.room_le; part_le = h; positions_ge = r.positions_ge; olds_ge = r.olds_ge })

  bytes-cons : (l : Lent) (ls : List Lent) → file_bytes (l ∷ ls) ≡ l.part ++ file_bytes ls
  unfolding flatten
  bytes-cons l ls = refl

  bytes-none : file_bytes [] ≡ []
  unfolding flatten
  bytes-none = refl

  module _ (first₀ : ℕ) (whole : Lent) (ok : mend_answer q first₀ len whole ≡ Accepted) where
    pub parts-accepted : (first : ℕ) (ls : List Lent) → All_roomy ls → first + length (file_bytes ls) ≤ len → All_accepted q first len ls
    unfolding All_roomy All_accepted
    parts-accepted first [] r h = r
    parts-accepted first (l ∷ ls) r h =
        let n = ap length (bytes-cons l ls) ∙ length-append l.part (file_bytes ls) in (
          accepted-part first₀ whole first l ok (omega (arith, n, h)) r.0,
          parts-accepted (first + length l.part) ls r.1 (omega (arith, n, h)),
        )

  pub parts-left : (first : ℕ) (ls : List Lent) → All_accepted q first len ls → file_left q first len ls ≡ mended q first (file_bytes ls)
  unfolding All_accepted file_left
  parts-left first [] a = sym (ap (mended q first) bytes-none ∙ mended-none q first)
  parts-left first (l ∷ ls) a =
      rw (part-accepted q first len l a.0, parts-left (first + length l.part) ls a.1, bytes-cons l ls) (sym (mended-append q first l.part (file_bytes ls)))

  pub parts-report : (first : ℕ) (ls : List Lent) → All_accepted q first len ls → file_report q first len ls ≡ reported q first (file_bytes ls)
  unfolding All_accepted file_report
  parts-report first [] a = sym (ap (reported q first) bytes-none ∙ reported-none q first)
  parts-report first (l ∷ ls) a =
      rw (given-reported q first len l a.0, parts-report (first + length l.part) ls a.1, bytes-cons l ls) (sym (reported-append q first l.part (file_bytes ls)))

  -- ---- bytes of which none is reported

  pub clean-call : (first : ℕ) (l : Lent) → mend_answer q first len l ≡ Accepted → Clean q first l.part → (mend_count q first len l ≡ Ok 0) × (mend_left q first len l ≡ l)
  unfolding mended_lists filled
  clean-call first l ok c =
      let none = clean-reported q first l.part c in (
        count-accepted q first len l ok ∙ ap (λ (r : List Dirt). Ok (length r)) none,
        left-accepted q first len l ok ∙ simp (none, clean-mended q first l.part c) refl,
      )

-- ---- old values written back

-- behind bytes that stand as they were
module _ (q : CubeLayout) (first : ℕ) where
  abbrev Back : (bytes pre : List ℕ) → Type 0
  Back bytes pre = written_back first (reported q (first + length pre) bytes) (pre ++ mended q (first + length pre) bytes) ≡ pre ++ bytes

  -- one byte before others
  module _ (b : ℕ) (bytes pre : List ℕ) (behind : Back bytes (pre ++ b ∷ [])) where
    abbrev p : ℕ
    p = first + length pre

    abbrev more : List Dirt
    more = reported q (suc p) bytes

    abbrev rest : List ℕ
    rest = mended q (suc p) bytes

    next : written_back first more (pre ++ b ∷ rest) ≡ pre ++ b ∷ bytes
    next =
        let n : first + length (pre ++ b ∷ []) ≡ suc p = omega (arith, length-append pre (b ∷ [])) in
        simp (n, append_snoc pre b rest, append_snoc pre b bytes) at behind

    by : (t : Bool) → is_dirty (owner q p) b ≡ t → written_back first (cond t (record { position = p; old = b } ∷ more) more) (pre ++ mended_byte (owner q p) b ∷ rest) ≡ pre ++ b ∷ bytes
    unfolding written_back
    by true e =
        let here : p - first ≡ length pre = omega arith in
        ap (written_back first more) (ap (λ (i : ℕ). set (pre ++ mended_byte (owner q p) b ∷ rest) i b) here ∙ set-append_seam pre (mended_byte (owner q p) b) rest b) ∙ next
    by false e = ap (λ (x : ℕ). written_back first more (pre ++ x ∷ rest)) (clean-kept (owner q p) b e) ∙ next

    back-cons : Back (b ∷ bytes) pre
    unfolding reported
    back-cons = ap (written_back first (reported q p (b ∷ bytes))) (ap (λ (l : List ℕ). pre ++ l) (mended-cons q p b bytes)) ∙ by (is_dirty (owner q p) b) refl

  back-behind : (bytes pre : List ℕ) → Back bytes pre
  unfolding reported written_back
  back-behind [] pre = ap (λ (l : List ℕ). pre ++ l) (mended-none q (first + length pre))
  back-behind (b ∷ bytes) pre = back-cons b bytes pre (back-behind bytes (pre ++ b ∷ []))

  pub written-back : (bytes : List ℕ) → written_back first (reported q first bytes) (mended q first bytes) ≡ bytes
  written-back bytes =
      let n : first + 0 ≡ first = omega arith in
      let all : written_back first (reported q (first + 0) bytes) (mended q (first + 0) bytes) ≡ bytes = back-behind bytes [] in
      simp n at all
