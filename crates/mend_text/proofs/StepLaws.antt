-- The loop of `gather`, line by line: i lines of `at` bytes are gathered, and `out` is the buffer. Assumes nothing.
--     Gathering, gathering-none, -next         some lines are gathered: what is left decides
--     gathering-full, gathering-end            the next line does not fit; none is left
--     gathering-length, -count, -text          what is gathered then is all
use Prim.Native.Nat.{ℕ, ◌+◌, ◌-◌, ◌≤◌, ◌<◌, min}
use native.Mathlib.Omega.{arith}
use mathlib.Core.Path.{◌≡◌, refl, sym, ap, ◌∙◌}
use mathlib.Core.List.{List, [], ◌∷◌, ◌++◌, flatten, append-nil}
use lib.ListN.{length, take, drop, length-append, length-drop}
use lib.Seq.{drop-drop, take_at, drop-append-add, append_snoc, paste}
use Rattle.lines.specs.declared.Line.{Line}
use Rattle.lines.specs.Collecting.{line_text, written}
use Rattle.lines.proofs.HoldLaws.{written-text}
use Rattle.padding.specs.Mending.{Dirt}
use Rattle.padding.specs.Calls.{filled}
use Rattle.padding.specs.Files.{lines}
use Rattle.mend_text.specs.declared.Gathered.{Gathered}
use Rattle.mend_text.specs.Reports.{dirt_text, report_text, fitting, gathered, gather_text}
use Rattle.mend_text.proofs.TextLaws.{report_text-snoc}
use Rattle.mend_text.proofs.FitLaws.{line_at, lines_next, lines_end, fitting-here, fitting-full, fitting-none}

-- a text put behind another
paste-filled : (text more before bytes : List ℕ) (at n : ℕ) → at ≡ length text → n ≡ length more → take n bytes ≡ more
    → paste (filled text before) at bytes n ≡ filled (text ++ more) before
unfolding filled
paste-filled text more before bytes at n ea en e =
    let rest = drop (length text) before in
    let front : take at (text ++ rest) ≡ text = take_at text rest at (sym ea) in
    let next : length text + n ≡ length (text ++ more) = omega (arith, length-append text more) in
    let back : drop (at + n) (text ++ rest) ≡ drop (length (text ++ more)) before =
    ap (λ (k : ℕ). drop (k + n) (text ++ rest)) ea ∙ drop-append-add text rest n ∙ drop-drop n (length text) before ∙ ap (λ (k : ℕ). drop k before) next in
    rw (front, back, e)

abbrev made : ℕ → ℕ → Gathered
made n bytes = record { lines = n; bytes = bytes }

module _ (positions olds before : List ℕ) where
  -- the report's lines from the i-th on that fit behind `at` bytes
  abbrev pub left : ℕ → ℕ → List Dirt
  left i at = fitting (length before - at) (lines (drop i positions) (drop i olds))

  pub record Gathering (i at : ℕ) (out : List ℕ) : Type 0 where
    pub done : List Dirt
    pub count : i ≡ length done
    pub bytes : at ≡ length (report_text done)
    pub room : at ≤ length before
    pub given : fitting (length before) (lines positions olds) ≡ done ++ left i at
    pub text : out ≡ filled (report_text done) before

  pub gathering-none : Gathering 0 0 before
  unfolding report_text filled flatten
  gathering-none =
      let all : length before ≡ length before - 0 = omega arith in
      record { done = []; count = refl; bytes = refl; room = omega arith; given = ap (λ (k : ℕ). fitting k (lines positions olds)) all; text = refl }

  module _ (i at : ℕ) (out : List ℕ) (g : Gathering i at out) where
    pub gathering-length : length out ≡ length before
    unfolding filled
    gathering-length =
        let t = report_text g.done in
        ap length g.text ∙ length-append t (drop (length t) before) ∙ omega (arith, length-drop (length t) before, g.bytes, g.room)

    -- ---- no more is gathered

    pub gathering-full : i < length positions → i < length olds → length before - at < length (dirt_text (line_at positions olds i)) → left i at ≡ []
    gathering-full h k f =
        ap (fitting (length before - at)) (lines_next positions olds i h k)
        ∙ fitting-full (length before - at) (line_at positions olds i) (lines (drop (i + 1) positions) (drop (i + 1) olds)) f

    pub gathering-end : min (length positions) (length olds) ≤ i → left i at ≡ []
    gathering-end h = ap (fitting (length before - at)) (lines_end positions olds i h) ∙ fitting-none (length before - at)

    module _ (e : left i at ≡ []) where
      done-is : g.done ≡ fitting (length before) (lines positions olds)
      done-is = sym (g.given ∙ ap (λ (l : List Dirt). g.done ++ l) e ∙ append-nil g.done)

      pub gathering-count : made i at ≡ gathered positions olds (length before)
      unfolding gathered
      gathering-count =
          ap (λ (n : ℕ). made n at) g.count
          ∙ ap (made (length g.done)) g.bytes
          ∙ ap (λ (l : List Dirt). made (length l) (length (report_text l))) done-is

      pub gathering-text : out ≡ gather_text positions olds before
      unfolding gather_text
      gathering-text = g.text ∙ ap (λ (l : List Dirt). filled (report_text l) before) done-is

    -- ---- one line more

    pub gathering-next : (line : Line) → i < length positions → i < length olds → line ≡ written (dirt_text (line_at positions olds i)) → line.length ≤ length before - at
        → Gathering (i + 1) (at + line.length) (paste out at line.bytes line.length)
    unfolding line_text
    gathering-next line h k e f =
        let d = line_at positions olds i in
        let more = lines (drop (i + 1) positions) (drop (i + 1) olds) in
        let n : line.length ≡ length (dirt_text d) = ap (λ (l : Line). l.length) e in
        let next : length before - at - length (dirt_text d) ≡ length before - (at + line.length) = omega arith in
        record {
          done = g.done ++ d ∷ [];
          count = omega (arith, g.count, length-append g.done (d ∷ []));
          bytes = omega (arith, g.bytes, ap length (report_text-snoc g.done d), length-append (report_text g.done) (dirt_text d));
          room = omega (arith, g.room);
          given = g.given
              ∙ ap (λ (l : List Dirt). g.done ++ l)
              (ap (fitting (length before - at)) (lines_next positions olds i h k)
              ∙ fitting-here (length before - at) d more (omega arith)
              ∙ ap (λ (r : ℕ). d ∷ fitting r more) next)
              ∙ sym (append_snoc g.done d (left (i + 1) (at + line.length)));
          text = ap (λ (o : List ℕ). paste o at line.bytes line.length) g.text
              ∙ paste-filled (report_text g.done) (dirt_text d) before line.bytes at line.length g.bytes n (ap line_text e ∙ written-text (dirt_text d))
              ∙ ap (λ (t : List ℕ). filled t before) (sym (report_text-snoc g.done d));
        }
