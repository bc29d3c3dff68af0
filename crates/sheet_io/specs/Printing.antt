-- What a run of the sheet program gave to write, by a checksum of all its bytes (scope paper, "The sheet program"): a program keeps no list of what it
-- wrote. Assumes nothing.
use Rattle.std.specs.Prelude.{ℕ, ◌≡◌}
use mathlib.Core.List.{List, [], ◌∷◌, map, flatten}
use Rattle.lines.specs.Sums.{checksum}
use Rattle.script.specs.declared.Row.{Row}
use Rattle.script.specs.Feed.{Outcome, start_sheet, finished, whole_part}
use Rattle.script.specs.Output.{header, row_text, given_text, output_of_parts}
use Rattle.sheet_io.specs.declared.Printed.{Printed}

abbrev pub rows_text : List Row → List ℕ
rows_text rows = flatten (map row_text rows)

-- before any part the header is written
abbrev pub start_printed : Printed
start_printed = record { sheet = start_sheet; sum = checksum 0 header }

-- after calls: their state, and the rows that they gave are written
abbrev pub calls_printed : ℕ → Outcome → Printed
calls_printed sum o = record { sheet = o.sheet; sum = checksum sum (rows_text o.rows) }

-- after a part
unfoldable pub part_printed : Printed → List ℕ → Printed
part_printed p part = calls_printed p.sum (whole_part p.sheet part)

unfoldable pub parts_printed : Printed → List (List ℕ) → Printed
parts_printed p [] = p
parts_printed p (part ∷ parts) = parts_printed (part_printed p part) parts

-- the end of the input
unfoldable pub end_printed : Printed → Printed
end_printed p = record { sheet = (finished p.sheet).sheet; sum = checksum p.sum (given_text (finished p.sheet).given) }

-- some parts were read: what was written for them
pub record Reading (p : Printed) : Type 0 where
  pub parts : List (List ℕ)
  pub printed : p ≡ parts_printed start_printed parts

-- some parts were read to the end: what was written is their whole output
pub record Whole (p : Printed) : Type 0 where
  pub parts : List (List ℕ)
  pub state : p.sheet ≡ (end_printed (parts_printed start_printed parts)).sheet
  pub sum : p.sum ≡ checksum 0 (output_of_parts parts)
