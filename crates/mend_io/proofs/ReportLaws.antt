-- A report printed a text full at a time: the lines that fit are the report's first, so that each time the next ones are printed. Assumes nothing.
--     batch-rest                                        how many lines are left from a line on
--     batch-turn                                        one text full: it ends within the report, and what is printed then
--     shown-all                                         all lines are printed
--     shown-broken, shown-whole, shown-none             a report of which some lines are printed, all, or none
--     gathered-lines, gathered-bytes, gathered-text     the lines that were gathered, and their text
--     number_short                                      a number's text is a short line
use Prim.Native.Nat.{ℕ, suc, ◌+◌, ◌-◌, ◌^◌, ◌≤◌, ◌<◌}
use native.Mathlib.Omega.{arith}
use mathlib.Core.Path.{◌≡◌, refl, sym, ap, ◌∙◌}
use mathlib.Core.Bool.{true, false}
use mathlib.Core.List.{List, [], ◌∷◌, ◌++◌, flatten}
use lib.ListN.{length, take, drop, length-drop, length-append}
use lib.Seq.{take-add, take_all, take-append_seam}
use Rattle.lines.specs.Digits.{digits}
use Rattle.lines.specs.Sums.{checksum}
use Rattle.lines.proofs.DigitLaws.{digits-length}
use Rattle.lines.proofs.SumLaws.{checksum-append}
use Rattle.padding.specs.Mending.{Dirt}
use Rattle.padding.specs.Calls.{filled}
use Rattle.padding.specs.Files.{lines}
use Rattle.mend_text.specs.declared.Gathered.{Gathered}
use Rattle.mend_text.specs.Reports.{report_text, number_text, fitting, gathered, gather_text}
use Rattle.mend_text.proofs.TextLaws.{report_text-append}
use Rattle.mend_text.proofs.FitLaws.{lines-drop, fitting-first}
use Rattle.mend_io.specs.declared.printing.Batch.{Batch}
use Rattle.mend_io.specs.Steps.{Batched, Shown}

-- ---- the lines of a report

fitting-take : (room : ℕ) (report : List Dirt) → take (length (fitting room report)) report ≡ fitting room report
fitting-take room report =
    let given = fitting room report in
    ap (take (length given)) (fitting-first room report) ∙ take-append_seam given (drop (length given) report)

fitting-le : (room : ℕ) (report : List Dirt) → length (fitting room report) ≤ length report
fitting-le room report = let given = fitting room report in
    omega (arith, ap length (fitting-first room report), length-append given (drop (length given) report))

lines-length : (ps os : List ℕ) → length ps ≡ length os → length (lines ps os) ≡ length ps
unfolding lines
lines-length [] os e = refl
lines-length (p ∷ ps) [] e = omega arith
lines-length (p ∷ ps) (v ∷ os) e = ap suc (lines-length ps os (omega arith))

-- ---- one text full

module _ (ps os : List ℕ) (from room : ℕ) (same : length ps ≡ length os) where
  -- the lines that fit, of those from `from` on
  abbrev batch : List Dirt
  batch = fitting room (lines (take (length ps - from) (drop from ps)) (take (length os - from) (drop from os)))

  rest : lines (take (length ps - from) (drop from ps)) (take (length os - from) (drop from os)) ≡ drop from (lines ps os)
  rest = rw (take_all (length ps - from) (drop from ps) (omega (arith, length-drop from ps)), take_all (length os - from) (drop from os) (omega (arith, length-drop from os))) (sym (lines-drop from ps os))

  pub batch-rest : length (lines (take (length ps - from) (drop from ps)) (take (length os - from) (drop from os))) ≡ length ps - from
  batch-rest = omega (arith, ap length rest, length-drop from (lines ps os), lines-length ps os same)

  batch-within : from ≤ length ps → from + length batch ≤ length ps
  batch-within h =
      omega
      (arith, batch-rest, fitting-le room (lines (take (length ps - from) (drop from ps)) (take (length os - from) (drop from os))))

  batch-next : take (from + length batch) (lines ps os) ≡ take from (lines ps os) ++ batch
  batch-next =
      take-add from (length batch) (lines ps os)
      ∙ ap (λ (l : List Dirt). take from (lines ps os) ++ l)
      (ap (take (length batch)) (sym rest) ∙ fitting-take room (lines (take (length ps - from) (drop from ps)) (take (length os - from) (drop from os))))

  batch-more : (before sum after n : ℕ) → sum ≡ checksum before (report_text (take from (lines ps os))) → n ≡ length batch → after ≡ checksum sum (report_text batch)
      → after ≡ checksum before (report_text (take (from + n) (lines ps os)))
  batch-more before sum after n s e a =
      let first = report_text (take from (lines ps os)) in
      a ∙ ap (λ (k : ℕ). checksum k (report_text batch)) s
      ∙ sym (checksum-append first (report_text batch) before)
      ∙ ap (checksum before) (sym (report_text-append (take from (lines ps os)) batch) ∙ ap report_text (sym batch-next) ∙ ap (λ (k : ℕ). report_text (take (from + k) (lines ps os))) (sym e))

  -- a text full was printed behind the first lines
  pub batch-turn : (before sum : ℕ) {b : Batch} → from ≤ length ps → sum ≡ checksum before (report_text (take from (lines ps os))) → Batched sum batch b
      → (from + b.lines ≤ length ps) × (b.sum ≡ checksum before (report_text (take (from + b.lines) (lines ps os))))
  batch-turn before sum {b} h s printed = (omega (arith, printed.counted, batch-within h), batch-more before sum b.sum b.lines s printed.counted printed.text)

pub shown-all : (ps os : List ℕ) (from : ℕ) → length ps ≡ length os → length ps ≤ from → take from (lines ps os) ≡ lines ps os
shown-all ps os from same h = take_all from (lines ps os) (omega (arith, lines-length ps os same))

module _ (sum : ℕ) (report : List Dirt) (n : ℕ) {after : ℕ} (e : after ≡ checksum sum (report_text (take n report))) where
  pub shown-broken : Shown sum report (record { whole = false; sum = after })
  shown-broken = record { shown = n; text = e; all = λ t. absurd (let z : ◌≡◌ {A = ℕ} 0 1 = cc in omega arith) }

  pub shown-whole : take n report ≡ report → Shown sum report (record { whole = true; sum = after })
  shown-whole h = record { shown = n; text = e; all = λ t. h }

-- no line is printed
pub shown-none : (sum : ℕ) (report : List Dirt) → Shown sum report (record { whole = false; sum = sum })
unfolding checksum report_text flatten
shown-none sum report = shown-broken sum report 0 refl

-- ---- a text that was gathered

module _ (ps os before after : List ℕ) {g : Gathered} (c : g ≡ gathered ps os (length before)) (left : after ≡ gather_text ps os before) where
  bytes : g.bytes ≡ length (report_text (fitting (length before) (lines ps os)))
  unfolding gathered
  bytes = ap (λ (x : Gathered). x.bytes) c

  pub gathered-lines : g.lines ≡ length (fitting (length before) (lines ps os))
  unfolding gathered
  gathered-lines = ap (λ (x : Gathered). x.lines) c

  pub gathered-bytes : g.bytes ≤ length after
  unfolding gather_text filled
  gathered-bytes = let text = report_text (fitting (length before) (lines ps os)) in
      omega (arith, bytes, ap length left, length-append text (drop (length text) before))

  pub gathered-text : take g.bytes after ≡ report_text (fitting (length before) (lines ps os))
  unfolding gather_text filled
  gathered-text = let text = report_text (fitting (length before) (lines ps os)) in
      ap (take g.bytes) left ∙ ap (λ (n : ℕ). take n (text ++ drop (length text) before)) bytes ∙ take-append_seam text (drop (length text) before)

-- a line has room for it
pub number_short : (n : ℕ) → n < 2 ^ 64 → length (number_text n) ≤ 120
unfolding number_text
number_short n h = omega (arith, length-append (digits n) (10 ∷ []), digits-length n h)
