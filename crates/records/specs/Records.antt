-- Records of a sheet (scope paper, "The sheet program"; change request K1). Another shape, an empty line or one over 120 bytes is unreadable. Assumes nothing.
use Rattle.std.specs.Prelude.{ℕ, Bool, cond, ◌&&◌, List, [], ◌∷◌, leb, eqb, length, get_or, Option, None, Some}
use Rattle.std.specs.Option.{option_and_then}
use Rattle.layout.specs.Geometry.{layout_of}
use Rattle.lines.specs.declared.Line.{Line}
use Rattle.lines.specs.declared.Numbers.{Numbers}
use Rattle.lines.specs.Texts.{longest, fields_of, same_text}
use Rattle.lines.specs.Numbers.{numbers_of}
use Rattle.lines.specs.Collecting.{is_whole, line_text}
use Rattle.records.specs.declared.Record.{Record}
use Rattle.records.specs.declared.Record.TheVariants.{Frame, Stall, Cell, Leave}

-- `frame`, `stall`, `cell`, `leave`
abbrev pub frame_word : List ℕ
frame_word = 102 ∷ 114 ∷ 97 ∷ 109 ∷ 101 ∷ []

abbrev pub stall_word : List ℕ
stall_word = 115 ∷ 116 ∷ 97 ∷ 108 ∷ 108 ∷ []

abbrev pub cell_word : List ℕ
cell_word = 99 ∷ 101 ∷ 108 ∷ 108 ∷ []

abbrev pub leave_word : List ℕ
leave_word = 108 ∷ 101 ∷ 97 ∷ 118 ∷ 101 ∷ []

abbrev pub at : Numbers → ℕ → ℕ
at ns i = get_or ns.values i 0

-- W H C precision line surface start
abbrev pub frame_of : Numbers → Record
frame_of ns = Frame (layout_of (at ns 0) (at ns 1) (at ns 2) (at ns 3) (at ns 4) (at ns 5) (at ns 6))

-- slot w0 h0 w h id
abbrev pub stall_of : Numbers → Record
stall_of ns = Stall (at ns 0) (at ns 1) (at ns 2) (at ns 3) (at ns 4) (at ns 5)

-- slot c h w id
abbrev pub cell_of : Numbers → Record
cell_of ns = Cell (at ns 0) (at ns 1) (at ns 2) (at ns 3) (at ns 4)

-- slot id
abbrev pub leave_of : Numbers → Record
leave_of ns = Leave (at ns 0) (at ns 1)

-- a word is a name, and so many numbers stand behind it
unfoldable pub is_named : List ℕ → Numbers → List ℕ → ℕ → Bool
is_named word ns name count = eqb ns.count count && same_text word name

unfoldable pub by_word : List ℕ → Numbers → Option Record
by_word word ns =
    cond (is_named word ns frame_word 7) (Some (frame_of ns))
    (cond (is_named word ns stall_word 6) (Some (stall_of ns))
    (cond (is_named word ns cell_word 5) (Some (cell_of ns))
    (cond (is_named word ns leave_word 2) (Some (leave_of ns)) None)))

-- the word and the numbers of fields: none if a field behind the word is no number, or there are over seven
unfoldable pub by_fields : List (List ℕ) → Option Record
by_fields [] = None
by_fields (word ∷ fields) = option_and_then (by_word word) (numbers_of fields)

-- the record of a line, its newline not counted
unfoldable pub record_of : List ℕ → Option Record
record_of line = cond (leb (length line) longest) (by_fields (fields_of line)) None

-- the record of a collected line
unfoldable pub line_record : Line → Option Record
line_record l = cond (is_whole l) (by_fields (fields_of (line_text l))) None
