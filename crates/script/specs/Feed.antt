-- The input fed in parts: what each call answers. That the rows are those of the whole sheet is a theorem (proofs/Claims.antt). Assumes nothing.
use Rattle.std.specs.Prelude.{ℕ, zero, suc, cond, List, [], ◌∷◌, ◌++◌, eqb, length, drop, Option, None, Some}
use Rattle.lines.specs.declared.Lines.{Lines}
use Rattle.lines.specs.Collecting.{start_lines, next_lines, collected}
use Rattle.records.specs.Records.{line_record}
use Rattle.script.specs.declared.Sheet.{Sheet}
use Rattle.script.specs.declared.Row.{Row}
use Rattle.script.specs.declared.Fed.{Fed}
use Rattle.script.specs.declared.Desk.{Desk}
use Rattle.script.specs.Rows.{start_desk, desk_after}
use Rattle.script.specs.Sheets.{row_of}

-- the state at the beginning
unfoldable pub start_sheet : Sheet
start_sheet = record { lines = start_lines; desk = start_desk }

abbrev pub desk_of : Sheet → Desk
desk_of s = s.desk

-- the state with other lines
abbrev pub with_lines : Sheet → Lines → Sheet
with_lines s l = record { lines = l; desk = s.desk }

-- the state after the line in progress ended
unfoldable pub line_ended : Sheet → Sheet
line_ended s = record { lines = next_lines s.lines; desk = desk_after (desk_of s) (line_record s.lines.line) }

-- and its row
unfoldable pub line_row : Sheet → Row
line_row s = row_of (next_lines s.lines).count (desk_of s) (line_record s.lines.line)

-- what a call gives where a line ended
abbrev pub line_fed : Sheet → ℕ → Fed
line_fed s read = record { sheet = line_ended s; read = read; given = Some (line_row s) }

-- `feed` reads a part up to its first newline, or whole
unfoldable pub fed : Sheet → List ℕ → Fed
fed s part =
    let c = collected s.lines part in
    cond c.ended (line_fed (with_lines s c.lines) c.read) (record { sheet = with_lines s c.lines; read = c.read; given = None })

-- `finish`: a last line may lack its newline
unfoldable pub finished : Sheet → Fed
finished s =
    cond (eqb s.lines.line.length 0) (record { sheet = s; read = 0; given = None }) (line_fed s 0)

-- ---- the calls as a program makes them

-- the row that a call gave, before others
unfoldable pub and_then : Option Row → List Row → List Row
and_then None rows = rows
and_then (Some row) rows = row ∷ rows

-- the rows that calls gave, and the state after them
pub record Outcome : Type 0 where
  pub rows : List Row
  pub sheet : Sheet

-- what a call gave, before what the calls after it gave
abbrev pub then_fed : Option Row → Outcome → Outcome
then_fed given o = record { rows = and_then given o.rows; sheet = o.sheet }

-- a part, fed so many times, each time what is left of it
unfoldable pub part_fed : ℕ → Sheet → List ℕ → Outcome
part_fed zero s part = record { rows = []; sheet = s }
part_fed (suc calls) s part = let f = fed s part in then_fed f.given (part_fed calls f.sheet (drop f.read part))

-- a part, fed until all of it is read: each call reads a byte at least, so its length is calls enough
abbrev pub whole_part : Sheet → List ℕ → Outcome
whole_part s part = part_fed (length part) s part

-- all rows that parts give, one part after another, and the end
unfoldable pub rows_of_parts : Sheet → List (List ℕ) → List Row
rows_of_parts s [] = and_then (finished s).given []
rows_of_parts s (part ∷ parts) = (whole_part s part).rows ++ rows_of_parts (whole_part s part).sheet parts
