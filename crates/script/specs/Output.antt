-- The text that a sheet prints (scope paper, "The sheet program"): a header, then a row for each line. Numbers are decimal, with no leading zeros; the
-- value has a sign, so that a minus stands before a negative one. Assumes nothing.
use Rattle.std.specs.Prelude.{ℕ, ℤ, pos, Option, None, Some}
use mathlib.Core.List.{List, [], ◌∷◌, ◌++◌, map, flatten}
use Rattle.refusal.specs.Codes.{answer_code}
use Rattle.lines.specs.Digits.{digits, numeral}
use Rattle.lines.specs.Collecting.{line_text, written}
use Rattle.script.specs.declared.Row.{Row}
use Rattle.script.specs.Sheets.{sheet}
use Rattle.script.specs.Feed.{start_sheet, rows_of_parts}

-- `line`, `answer`, `value`, parted by tabs
abbrev pub header : List ℕ
header = 108 ∷ 105 ∷ 110 ∷ 101 ∷ 9 ∷ 97 ∷ 110 ∷ 115 ∷ 119 ∷ 101 ∷ 114 ∷ 9 ∷ 118 ∷ 97 ∷ 108 ∷ 117 ∷ 101 ∷ 10 ∷ []

-- a line's number, its answer and its value, parted by tabs
unfoldable pub fields_text : ℕ → ℕ → ℤ → List ℕ
fields_text line answer value = digits line ++ 9 ∷ digits answer ++ 9 ∷ numeral value ++ 10 ∷ []

unfoldable pub row_text : Row → List ℕ
row_text row = fields_text row.line (answer_code row.answer) (pos row.value)

-- the row of a line that ended, if one did
unfoldable pub given_text : Option Row → List ℕ
given_text None = []
given_text (Some row) = row_text row

-- the whole output of a whole input
unfoldable pub output : List ℕ → List ℕ
output input = header ++ flatten (map row_text (sheet input))

-- what `header_text` and then `row_text`, of each row that the parts give, hand over to be written, one after another
unfoldable pub output_of_parts : List (List ℕ) → List ℕ
output_of_parts parts = line_text (written header) ++ flatten (map (λ (r : Row). line_text (written (row_text r))) (rows_of_parts start_sheet parts))
