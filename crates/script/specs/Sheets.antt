-- The rows of a whole sheet (scope paper, "The sheet program"). Assumes nothing.
use Rattle.std.specs.Prelude.{ℕ, ◌+◌, List, [], ◌∷◌, Option}
use Rattle.lines.specs.Texts.{lines_of}
use Rattle.records.specs.declared.Record.{Record}
use Rattle.records.specs.Records.{record_of}
use Rattle.script.specs.declared.Row.{Row}
use Rattle.script.specs.declared.Desk.{Desk}
use Rattle.script.specs.Rows.{start_desk, record_answer, value_after, desk_after}

-- the row of a record, or of a line that is none
unfoldable pub row_of : ℕ → Desk → Option Record → Row
row_of n d r = record { line = n; answer = record_answer d r; value = value_after d r }

-- the rows of lines, the first of them after line n
unfoldable pub rows_after : ℕ → Desk → List (List ℕ) → List Row
rows_after n d [] = []
rows_after n d (line ∷ lines) = row_of (n + 1) d (record_of line) ∷ rows_after (n + 1) (desk_after d (record_of line)) lines

-- the rows of an input, its lines counted from 1
unfoldable pub sheet : List ℕ → List Row
sheet input = rows_after 0 start_desk (lines_of input)

-- the number of a row's line
abbrev pub line_number : Row → ℕ
line_number r = r.line
