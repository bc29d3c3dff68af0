-- Parts fed one after another give the rows of the lines of the whole input, the first of them begun by the text that the state holds. By induction on
-- the calls, then on the parts. Assumes nothing.
--     rows_from, rows_in      the rows of lines, counted as the code counts them
--     rows-parts            the rows of parts, from any state
--     rows-wrap             with fewer than 2^64 lines the count does not begin again
use Prim.Native.Nat.{ℕ, zero, suc, ◌+◌, ◌%◌, ◌^◌, ◌≤◌, ◌<◌}
use native.Mathlib.Nat.{le_refl}
use native.Mathlib.Decide.{dec_le}
use native.Mathlib.Omega.{arith}
use mathlib.Core.Path.{◌≡◌, refl, sym, ap, ◌∙◌}
use mathlib.Core.List.{List, [], ◌∷◌, ◌++◌, flatten}
use lib.ListN.{length, take, drop, length-drop, drop_of_length-le}
use lib.Seq.{take_all}
use borrow.Author.Tests.{ne_eqb}
use Rattle.lines.specs.Texts.{part_length}
use Rattle.lines.specs.Collecting.{next_lines}
use Rattle.lines.proofs.HoldLaws.{Holds, holds-next, holds-added, holds-none, holds-some}
use Rattle.lines.proofs.CollectLaws.{lines_from, lines_from-end-none, lines_from-end-some, lines_from-ended, lines_from-open}
use Rattle.records.specs.Records.{record_of}
use Rattle.records.proofs.LineLaws.{line-record}
use Rattle.script.specs.declared.Sheet.{Sheet}
use Rattle.script.specs.declared.Row.{Row}
use Rattle.script.specs.declared.Fed.{Fed}
use Rattle.script.specs.declared.Desk.{Desk}
use Rattle.script.specs.Rows.{desk_after}
use Rattle.script.specs.Sheets.{row_of, rows_after}
use Rattle.script.specs.Feed.{desk_of, line_ended, line_row, fed, finished, and_then, Outcome, part_fed, rows_of_parts}
use Rattle.script.proofs.CallLaws.{longer, fed-open, fed-ended, no_bytes}

-- the number after a line's: after 2^64 − 1 comes 0
abbrev pub next : ℕ → ℕ
next n = (n + 1) % 2 ^ 64

-- the rows of lines, counted as the code counts them
unfoldable pub rows_from : ℕ → Desk → List (List ℕ) → List Row
rows_from n d [] = []
rows_from n d (line ∷ lines) = row_of (next n) d (record_of line) ∷ rows_from (next n) (desk_after d (record_of line)) lines

-- the rows of what is left of the input, where the line in progress is begun by a text
abbrev pub rows_in : Sheet → List ℕ → List ℕ → List Row
rows_in s text input = rows_from s.lines.count (desk_of s) (lines_from text input)

-- a line that ended, and the lines behind it
row_first : (s : Sheet) (text : List ℕ) (lines : List (List ℕ)) → Holds s.lines.line text
    → line_row s ∷ rows_from (line_ended s).lines.count (desk_of (line_ended s)) lines ≡ rows_from s.lines.count (desk_of s) (text ∷ lines)
unfolding line_row line_ended next_lines rows_from
row_first s text lines o = rw (line-record s.lines.line text o)

module _ (more : List ℕ) (tail : Sheet → List Row) (ends : (t : Sheet) (text : List ℕ) → Holds t.lines.line text → tail t ≡ rows_in t text more) where
  abbrev joined : Outcome → List Row
  joined o = o.rows ++ tail o.sheet

  -- a call, and what `then` says of the calls after it
  module _ (calls : ℕ) (s : Sheet) (text part : List ℕ) (o : Holds s.lines.line text) (h : length part ≤ suc calls)
      (then : (t : Sheet) (line left : List ℕ) → Holds t.lines.line line → length left ≤ calls → joined (part_fed calls t left) ≡ rows_in t line (left ++ more)) where
    abbrev n : ℕ
    n = part_length 10 part

    held : Holds (longer s part).lines.line (text ++ take n part)
    held = holds-added (take n part) s.lines.line text o

    -- the calls after one that gave f
    abbrev after : Fed → List Row
    after f = and_then f.given (part_fed calls f.sheet (drop f.read part)).rows ++ tail (part_fed calls f.sheet (drop f.read part)).sheet

    call-is : (f : Fed) → fed s part ≡ f → joined (part_fed (suc calls) s part) ≡ after f
    unfolding part_fed
    call-is f e = ap after e

    open-rows : length part ≤ n → joined (part_fed (suc calls) s part) ≡ rows_in s text (part ++ more)
    unfolding and_then
    open-rows l =
        let none : drop n part ≡ [] = drop_of_length-le part l in
        let all : take n part ≡ part = take_all n part l in
        call-is _ (fed-open s part l)
        ∙ then (longer s part) (text ++ take n part) (drop n part) held (rw none (omega arith))
        ∙ ap (λ (l : List ℕ). rows_in s (text ++ take n part) (l ++ more)) none
        ∙ ap (λ (l : List ℕ). rows_in s (text ++ l) more) all
        ∙ ap (rows_from s.lines.count (desk_of s)) (sym (lines_from-open text part more l))

    ended-rows : n < length part → joined (part_fed (suc calls) s part) ≡ rows_in s text (part ++ more)
    unfolding and_then line_ended next_lines
    ended-rows l =
        let t = longer s part in
        let left = drop (n + 1) part in
        call-is _ (fed-ended s part l)
        ∙ ap (λ (rows : List Row). line_row t ∷ rows) (then (line_ended t) [] left (holds-next t.lines.line (text ++ take n part) held) (omega (arith, length-drop (n + 1) part)))
        ∙ row_first t (text ++ take n part) (lines_from [] (left ++ more)) held
        ∙ ap (rows_from s.lines.count (desk_of s)) (sym (lines_from-ended text part more l))

  part-rows : (calls : ℕ) (s : Sheet) (text part : List ℕ) → Holds s.lines.line text → length part ≤ calls → joined (part_fed calls s part) ≡ rows_in s text (part ++ more)
  unfolding part_fed
  part-rows zero s text part o h = ends s text o ∙ rw (no_bytes part h)
  part-rows (suc calls) s text part o h =
      elim (dec_le (length part) (part_length 10 part)) [
        | yes l ↦ open-rows calls s text part o h (part-rows calls) l
        | no f ↦ ended-rows calls s text part o h (part-rows calls) (omega arith)
      ]

-- the end of the input
rows_end : (s : Sheet) (text : List ℕ) → Holds s.lines.line text → and_then (finished s).given [] ≡ rows_in s text []
unfolding finished and_then rows_from
rows_end s [] o = rw (holds-none s.lines.line o, lines_from-end-none)
rows_end s (b ∷ text) o =
    rw (ne_eqb s.lines.line.length 0 (holds-some s.lines.line b text o), lines_from-end-some b text) (row_first s (b ∷ text) [] o)

pub rows-parts : (parts : List (List ℕ)) (s : Sheet) (text : List ℕ) → Holds s.lines.line text → rows_of_parts s parts ≡ rows_in s text (flatten parts)
unfolding rows_of_parts flatten
rows-parts [] s text o = rows_end s text o
rows-parts (part ∷ parts) s text o =
    part-rows (flatten parts) (λ (t : Sheet). rows_of_parts t parts) (rows-parts parts) (length part) s text part o (le_refl (length part))

pub rows-wrap : (lines : List (List ℕ)) (n : ℕ) (d : Desk) → n + length lines < 2 ^ 64 → rows_from n d lines ≡ rows_after n d lines
unfolding rows_from rows_after
rows-wrap [] n d h = refl
rows-wrap (line ∷ lines) n d h =
    let e : (n + 1) % 2 ^ 64 ≡ n + 1 = omega arith in
    rw e (ap (λ (rows : List Row). row_of (n + 1) d (record_of line) ∷ rows) (rows-wrap lines (n + 1) (desk_after d (record_of line)) (omega arith)))
