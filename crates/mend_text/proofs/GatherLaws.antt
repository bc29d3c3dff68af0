-- Calls of `gather`: one, in terms of the whole report, and one after another. By induction on the calls. Assumes nothing.
--     gather-bytes, gather-length      the bytes gathered are in the buffer, which keeps its length
--     gather-next, gather-left         what a call gives, and how many lines it leaves
--     gather-some                      a line at least
--     gather-all                       calls enough give the whole report
use Prim.Native.Nat.{ℕ, zero, suc, ◌+◌, ◌-◌, ◌^◌, ◌≤◌, ◌<◌}
use native.Mathlib.Decide.{dec_le}
use native.Mathlib.Omega.{arith}
use mathlib.Core.Path.{◌≡◌, refl, sym, ap, ◌∙◌}
use mathlib.Core.List.{List, [], ◌∷◌, ◌++◌, flatten}
use lib.ListN.{length, get_or, take, drop, length-append, length-drop}
use lib.Seq.{get_or-drop, take-append_seam}
use borrow.Author.Tests.{le-leb}
use Rattle.padding.specs.Mending.{Dirt}
use Rattle.padding.specs.Calls.{filled}
use Rattle.padding.specs.Files.{lines}
use Rattle.mend_text.specs.declared.Gathered.{Gathered}
use Rattle.mend_text.specs.Reports.{dirt_text, report_text, fitting, gathered, gather_text, all_gathered}
use Rattle.mend_text.proofs.TextLaws.{dirt-le, report_text-append}
use Rattle.mend_text.proofs.FitLaws.{lines-drop, fitting-first, fitting-within}

-- ---- one call

module _ (positions olds before : List ℕ) where
  abbrev call : Gathered
  call = gathered positions olds (length before)

  pub gather-bytes : call.bytes ≤ length before
  unfolding gathered
  gather-bytes = fitting-within (length before) (lines positions olds)

  pub gather-length : length (gather_text positions olds before) ≡ length before
  unfolding gather_text filled
  gather-length =
      let t = report_text (fitting (length before) (lines positions olds)) in
      length-append t (drop (length t) before) ∙ omega (arith, length-drop (length t) before, fitting-within (length before) (lines positions olds))

  -- what a call gives, before the lines that it leaves
  pub gather-next : take call.bytes (gather_text positions olds before) ++ report_text (lines (drop call.lines positions) (drop call.lines olds)) ≡ report_text (lines positions olds)
  unfolding gathered gather_text filled
  gather-next =
      let report = lines positions olds in
      let given = fitting (length before) report in
      let t = report_text given in
      ap (λ (l : List ℕ). l ++ report_text (lines (drop (length given) positions) (drop (length given) olds))) (take-append_seam t (drop (length t) before))
      ∙ ap (λ (l : List Dirt). t ++ report_text l) (sym (lines-drop (length given) positions olds))
      ∙ sym (report_text-append given (drop (length given) report))
      ∙ ap report_text (sym (fitting-first (length before) report))

  -- how many lines it leaves
  pub gather-left : length (lines (drop call.lines positions) (drop call.lines olds)) ≡ length (lines positions olds) - call.lines
  gather-left = ap length (sym (lines-drop call.lines positions olds)) ∙ length-drop call.lines (lines positions olds)

pub gather-some : (positions olds : List ℕ) (room : ℕ) → 25 ≤ room → get_or positions 0 0 < 2 ^ 64 → get_or olds 0 0 < 256 → 0 < length (lines positions olds) → 0 < (gathered positions olds room).lines
unfolding lines gathered fitting
gather-some [] olds room r p v h = absurd (omega arith)
gather-some (a ∷ positions) [] room r p v h = absurd (omega arith)
gather-some (a ∷ positions) (b ∷ olds) room r p v h =
    let d : Dirt = record { position = a; old = b } in
    rw (le-leb (length (dirt_text d)) room (omega (arith, dirt-le d p v))) (omega arith)

-- ---- calls one after another

no_lines : (report : List Dirt) → length report ≤ 0 → [] ≡ report_text report
unfolding report_text flatten
no_lines [] h = refl
no_lines (d ∷ report) h = absurd (omega arith)

pub gather-all : (calls : ℕ) (positions olds before : List ℕ) → 25 ≤ length before → ((k : ℕ) → get_or positions k 0 < 2 ^ 64) → ((k : ℕ) → get_or olds k 0 < 256)
    → length (lines positions olds) ≤ calls → all_gathered calls positions olds before ≡ report_text (lines positions olds)
unfolding all_gathered
gather-all zero positions olds before r p v h = no_lines (lines positions olds) h
gather-all (suc calls) positions olds before r p v h =
    let n = (gathered positions olds (length before)).lines in
    let fewer : length (lines (drop n positions) (drop n olds)) ≤ calls =
    elim (dec_le (length (lines positions olds)) 0) [
      | yes z ↦ omega (arith, gather-left positions olds before)
      | no f ↦ omega (arith, gather-left positions olds before, gather-some positions olds (length before) r (p 0) (v 0) (omega arith))
    ] in
    ap
    (λ (t : List ℕ). take (gathered positions olds (length before)).bytes (gather_text positions olds before) ++ t)
    (gather-all calls (drop n positions) (drop n olds) (gather_text positions olds before)
    (omega (arith, gather-length positions olds before))
    (λ k. rw (get_or-drop n positions k 0) (p (n + k)))
    (λ k. rw (get_or-drop n olds k 0) (v (n + k)))
    fewer)
    ∙ gather-next positions olds before
