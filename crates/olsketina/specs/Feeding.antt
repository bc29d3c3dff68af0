-- A sheet's calls as a C program makes them, one after another, over the words that it holds. That the rows are those of the whole input is a
-- theorem (proofs/Claims.antt). Assumes nothing.
use Rattle.std.specs.Prelude.{ℕ, zero, suc, List, [], ◌∷◌, ◌++◌, map, length, drop, Option, Some, None}
use Rattle.script.specs.declared.Sheet.{Sheet}
use Rattle.script.specs.declared.Row.{Row}
use Rattle.script.specs.Feed.{start_sheet, fed, finished}
use Rattle.olsketina.specs.Sheets.{sheet_from, with_sheet, row_words}

-- the state that a program holds: words and text
pub record Held : Type 0 where
  pub words : List ℕ
  pub text : List ℕ

abbrev pub held_sheet : Held → Sheet
held_sheet h = sheet_from h.words h.text

-- what a call that leaves a state makes of it
abbrev pub holding : Sheet → Held → Held
holding s h = record { words = with_sheet s h.words; text = s.lines.line.bytes }

-- what `olsketina_script_begin` makes of it
abbrev pub begun : Held → Held
begun h = holding start_sheet h

-- the row that a call gave, before others
unfoldable pub row_then : Option Row → List (List ℕ) → List (List ℕ)
row_then None rows = rows
row_then (Some row) rows = row_words (Some row) ∷ rows

-- the rows that calls gave, and the state after them
pub record Gave : Type 0 where
  pub rows : List (List ℕ)
  pub held : Held

-- a part, fed so many times, each time what is left of it
unfoldable pub part_held : ℕ → Held → List ℕ → Gave
part_held zero h part = record { rows = []; held = h }
part_held (suc calls) h part =
    let f = fed (held_sheet h) part in
    let o = part_held calls (holding f.sheet h) (drop f.read part) in
    record { rows = row_then f.given o.rows; held = o.held }

-- all rows that parts give, one part after another, and the end
unfoldable pub rows_held : Held → List (List ℕ) → List (List ℕ)
rows_held h [] = row_then (finished (held_sheet h)).given []
rows_held h (part ∷ parts) = (part_held (length part) h part).rows ++ rows_held (part_held (length part) h part).held parts

-- rows as words
abbrev pub words_of : List Row → List (List ℕ)
words_of rows = map (λ (r : Row). row_words (Some r)) rows
