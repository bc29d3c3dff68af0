-- The lines of a report as text. By induction on the report. Assumes nothing.
--     header_is, number_is, dirt-is        texts added to an empty line
--     dirt-le                              a line has at most 25 bytes
--     report_text-append                    reports one behind the other
--     output-cut                           the text of parts is that of the whole file
use Prim.Native.Nat.{ℕ, ◌+◌, ◌^◌, ◌≤◌, ◌<◌}
use native.Mathlib.Omega.{arith}
use mathlib.Core.Path.{◌≡◌, refl, sym, ap, ◌∙◌}
use mathlib.Core.List.{List, [], ◌∷◌, ◌++◌, flatten, append_assoc, append-nil}
use lib.ListN.{length, length-append}
use Rattle.refusal.specs.Checks.{Accepted}
use Rattle.layout.specs.declared.CubeLayout.{CubeLayout}
use Rattle.lines.specs.Digits.{digits}
use Rattle.lines.specs.Collecting.{empty_line, added, written}
use Rattle.lines.proofs.HoldLaws.{added-append, written-added}
use Rattle.lines.proofs.DigitLaws.{digits_le, digits-length}
use Rattle.padding.specs.Mending.{Dirt}
use Rattle.padding.specs.Calls.{Lent, lent, mend_answer}
use Rattle.padding.specs.Files.{report_given, file_bytes, file_report, All_roomy}
use Rattle.padding.proofs.CallLaws.{given-reported}
use Rattle.padding.proofs.Claims.{part-by-part}
use Rattle.mend_text.specs.Reports.{header, dirt_text, report_text, number_text, output, parts_text}

-- ---- as they are added

written_all : (text : List ℕ) → length text ≤ 120 → added empty_line text ≡ written text
written_all text h = written-added text [] (omega arith)

pub header_is : added empty_line header ≡ written header
header_is = written_all header (omega arith)

number-le : (n : ℕ) → n < 2 ^ 64 → length (number_text n) ≤ 21
unfolding number_text
number-le n h = simp (number_text, length-append) (omega (arith, digits-length n h))

number-added : (n : ℕ) → added (added empty_line (digits n)) (10 ∷ []) ≡ added empty_line (number_text n)
unfolding number_text
number-added n = added-append (digits n) (10 ∷ []) empty_line

pub number_is : (n : ℕ) → n < 2 ^ 64 → added (added empty_line (digits n)) (10 ∷ []) ≡ written (number_text n)
number_is n h = number-added n ∙ written_all (number_text n) (omega (arith, number-le n h))

pub dirt-le : (d : Dirt) → d.position < 2 ^ 64 → d.old < 256 → length (dirt_text d) ≤ 25
unfolding dirt_text
dirt-le d h k = simp (dirt_text, length-append) (omega (arith, digits-length d.position h, digits_le 2 d.old (omega arith)))

dirt-added : (d : Dirt) → added (added (added (added empty_line (digits d.position)) (9 ∷ [])) (digits d.old)) (10 ∷ []) ≡ added empty_line (dirt_text d)
unfolding dirt_text
dirt-added d = simp (added-append, append_assoc)

pub dirt-is : (d : Dirt) → d.position < 2 ^ 64 → d.old < 256
    → added (added (added (added empty_line (digits d.position)) (9 ∷ [])) (digits d.old)) (10 ∷ []) ≡ written (dirt_text d)
dirt-is d h k = dirt-added d ∙ written_all (dirt_text d) (omega (arith, dirt-le d h k))

-- ---- one behind the other

pub report_text-append : (xs ys : List Dirt) → report_text (xs ++ ys) ≡ report_text xs ++ report_text ys
unfolding report_text flatten
report_text-append [] ys = refl
report_text-append (d ∷ xs) ys = ap (λ (t : List ℕ). dirt_text d ++ t) (report_text-append xs ys) ∙ sym (append_assoc (dirt_text d) (report_text xs) (report_text ys))

pub report_text-snoc : (report : List Dirt) (d : Dirt) → report_text (report ++ d ∷ []) ≡ report_text report ++ dirt_text d
unfolding report_text flatten
report_text-snoc report d = report_text-append report (d ∷ []) ∙ ap (λ (t : List ℕ). report_text report ++ t) (append-nil (dirt_text d))

parts-report : (q : CubeLayout) (len : ℕ) (ls : List Lent) (first : ℕ) → parts_text q first len ls ≡ report_text (file_report q first len ls)
unfolding parts_text file_report report_text flatten
parts-report q len [] first = refl
parts-report q len (l ∷ ls) first =
    ap (λ (t : List ℕ). report_text (report_given q first len l) ++ t) (parts-report q len ls (first + length l.part))
    ∙ sym (report_text-append (report_given q first len l) (file_report q (first + length l.part) len ls))

pub output-cut : (q : CubeLayout) (len : ℕ) (ls : List Lent) (positions olds : List ℕ) → All_roomy ls → mend_answer q 0 len (lent (file_bytes ls) positions olds) ≡ Accepted
    → header ++ parts_text q 0 len ls ≡ output q (file_bytes ls)
unfolding output
output-cut q len ls positions olds r ok =
    let whole = lent (file_bytes ls) positions olds in
    ap (λ (t : List ℕ). header ++ t) (parts-report q len ls 0 ∙ ap report_text ((part-by-part q 0 len whole ok ls refl r).2 ∙ given-reported q 0 len whole ok))
