-- What a call of mending answers and leaves (specs/Calls.antt), refused or accepted, and the report that it gives. By cases on its answer. Assumes nothing.
--     count-refused, left-refused                         a refused call
--     count-accepted, left-accepted, part-accepted        an accepted call
--     given-reported                                      its report
use Prim.Native.Nat.{ℕ}
use mathlib.Core.Path.{◌≡◌, refl, ap}
use mathlib.Core.List.{List, [], ◌∷◌, map}
use lib.ListN.{length, take, drop, length-map}
use lib.Seq.{take_at}
use Rattle.refusal.specs.declared.Fault.{Fault}
use Rattle.std.specs.Prelude.{Ok, Err}
use Rattle.refusal.specs.Checks.{Accepted}
use Rattle.refusal.proofs.CheckLaws.{leaves-done, leaves-before, given-accepted, given-refused}
use Rattle.layout.specs.declared.CubeLayout.{CubeLayout}
use Rattle.padding.specs.Mending.{Dirt, mended, reported}
use Rattle.padding.specs.Calls.{Lent, mend_answer, mend_count, filled, mended_lists, mend_left}
use Rattle.padding.specs.Files.{lines, first_lines, report_given}

-- a report's two columns, side by side
lines-columns : (report : List Dirt) → lines (map (λ (d : Dirt). d.position) report) (map (λ (d : Dirt). d.old) report) ≡ report
unfolding lines
lines-columns [] = refl
lines-columns (d ∷ report) = ap (λ (r : List Dirt). d ∷ r) (lines-columns report)

take-filled : (f : Dirt → ℕ) (report : List Dirt) (before : List ℕ) → take (length report) (filled (map f report) before) ≡ map f report
unfolding filled
take-filled f report before = take_at (map f report) (drop (length (map f report)) before) (length report) (length-map report f)

module _ (q : CubeLayout) (first len : ℕ) (l : Lent) where
  module _ (f : Fault) (no : mend_answer q first len l ≡ Err f) where
    pub count-refused : mend_count q first len l ≡ Err f
    unfolding mend_count
    count-refused = given-refused _ no

    pub left-refused : mend_left q first len l ≡ l
    unfolding mend_left
    left-refused = leaves-before (mended_lists q first l) l no

  module _ (ok : mend_answer q first len l ≡ Accepted) where
    pub count-accepted : mend_count q first len l ≡ Ok (length (reported q first l.part))
    unfolding mend_count
    count-accepted = given-accepted (length (reported q first l.part)) ok

    pub left-accepted : mend_left q first len l ≡ mended_lists q first l
    unfolding mend_left
    left-accepted = leaves-done (mended_lists q first l) l ok

    pub part-accepted : (mend_left q first len l).part ≡ mended q first l.part
    unfolding mended_lists
    part-accepted = ap (λ (x : Lent). x.part) left-accepted

    pub given-reported : report_given q first len l ≡ reported q first l.part
    unfolding mended_lists first_lines
    given-reported =
        let report = reported q first l.part in
        rw (count-accepted, left-accepted, take-filled (λ (d : Dirt). d.position) report l.positions, take-filled (λ (d : Dirt). d.old) report l.olds) (lines-columns report)
