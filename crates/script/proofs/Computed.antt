-- Sheets, computed: the paper's session (scope paper, "The sheet program"; change request K1), and records that are refused; of two faults at once the
-- earlier in the order is told. Assumes nothing.
use Prim.Native.Nat.{ℕ}
use mathlib.Core.Path.{◌≡◌, refl}
use mathlib.Core.Bool.{true}
use mathlib.Core.List.{List, [], ◌∷◌, ◌++◌, map, flatten}
use Rattle.std.proofs.Common.{Some}
use Rattle.refusal.specs.Codes.{answer_code}
use Rattle.refusal.specs.Checks.{require_at, in_order, leaves}
use Rattle.refusal.specs.Sizes.{size_valid}
use Rattle.elements.specs.Bytes.{element_bytes}
use Rattle.layout.specs.Geometry.{layout_of, surfaces, element_position, cube_extent}
use Rattle.layout.specs.Boxes.{box_count, span_inside, span_has}
use Rattle.layout.specs.Rules.{sizes_valid, whole_atoms, strides_valid, layout_checks}
use Rattle.lines.specs.Texts.{before, split, fields_of, without_empty_last, lines_of, part_length, same_text}
use Rattle.lines.specs.Numbers.{is_digit, all_digits, value_after as digits_after, is_empty, well_begun, number_of, and_number, listed, in_table, numbers_of}
use Rattle.lines.specs.Digits.{leading_in, digits, numeral}
use Rattle.lines.specs.Collecting.{with_byte, added, line_text, next_lines, collected}
use Rattle.records.specs.declared.Record.{Record}
use Rattle.records.specs.declared.Record.TheVariants.{Leave}
use Rattle.records.specs.Records.{frame_word, stall_word, cell_word, leave_word, is_named, by_word, by_fields, record_of, line_record}
use Rattle.regions.specs.Slots.{rectangle, slot_of, slots_of, rectangle_has, occupied, any_from, overlaps, rectangle_inside}
use Rattle.regions.specs.Rules.{slot_at, is_filled, rectangle_of, id_of, place_checks, box_in_rectangle, slot_checks, region_box_checks}
use Rattle.regions.specs.Calls.{placed_region, place_answer, place_table}
use Rattle.script.specs.declared.Row.{Row}
use Rattle.script.specs.declared.Desk.{Desk}
use Rattle.script.specs.Rows.{framed_or, record_answer, record_value, record_done, value_after, desk_after}
use Rattle.script.specs.Sheets.{row_of, rows_after, sheet}
use Rattle.script.specs.Feed.{start_sheet, line_ended, line_row, fed, finished, and_then, part_fed, rows_of_parts}
use Rattle.script.specs.Output.{header, fields_text, row_text, output}

-- what rows print: line, answer and value
abbrev lines : List Row → List (List ℕ)
lines rows = map (λ (r : Row). r.line ∷ answer_code r.answer ∷ r.value ∷ []) rows

abbrev printed : List ℕ → List (List ℕ)
printed input = lines (sheet input)

-- the answers alone
abbrev codes : List ℕ → List ℕ
codes input = map (λ (r : Row). answer_code r.answer) (sheet input)

-- a record as it is written: its word, then a tab and a number for each field; and its line
abbrev fields : List ℕ → List ℕ → List ℕ
fields word numbers = word ++ flatten (map (λ (n : ℕ). 9 ∷ digits n) numbers)

abbrev line : List ℕ → List ℕ → List ℕ
line word numbers = fields word numbers ++ 10 ∷ []

-- the paper's frame, and one that is refused
abbrev frame : List ℕ
frame = line frame_word (3 ∷ 2 ∷ 40 ∷ 0 ∷ 128 ∷ 256 ∷ 0 ∷ [])

abbrev no_frame : List ℕ
no_frame = line frame_word (0 ∷ 2 ∷ 40 ∷ 0 ∷ 128 ∷ 256 ∷ 0 ∷ [])

-- the paper's first stall, of 7; its second, of 8, which overlaps the first, and has room once that is left
abbrev stall : List ℕ
stall = line stall_word (0 ∷ 0 ∷ 0 ∷ 2 ∷ 2 ∷ 7 ∷ [])

abbrev overlapping : List ℕ
overlapping = line stall_word (1 ∷ 1 ∷ 0 ∷ 2 ∷ 1 ∷ 8 ∷ [])

-- the paper's cell, without its newline
abbrev cell : List ℕ
cell = fields cell_word (0 ∷ 33 ∷ 1 ∷ 1 ∷ 7 ∷ [])

-- a leave of the first stall by 7, and by 8
abbrev leave : List ℕ
leave = line leave_word (0 ∷ 7 ∷ [])

abbrev not_left : List ℕ
not_left = line leave_word (0 ∷ 8 ∷ [])

-- the paper's session, and its output, byte by byte
abbrev session : List ℕ
session = frame ++ stall ++ overlapping ++ cell ++ 10 ∷ [] ++ not_left ++ leave ++ overlapping

abbrev rows : List ℕ
rows =
    49 ∷ 9 ∷ 48 ∷ 9 ∷ 52 ∷ 56 ∷ 48 ∷ 10
    ∷ 50 ∷ 9 ∷ 48 ∷ 9 ∷ 49 ∷ 54 ∷ 48 ∷ 10
    ∷ 51 ∷ 9 ∷ 49 ∷ 48 ∷ 9 ∷ 48 ∷ 10
    ∷ 52 ∷ 9 ∷ 48 ∷ 9 ∷ 52 ∷ 49 ∷ 55 ∷ 10
    ∷ 53 ∷ 9 ∷ 50 ∷ 53 ∷ 9 ∷ 48 ∷ 10
    ∷ 54 ∷ 9 ∷ 48 ∷ 9 ∷ 49 ∷ 54 ∷ 48 ∷ 10
    ∷ 55 ∷ 9 ∷ 48 ∷ 9 ∷ 56 ∷ 48 ∷ 10
    ∷ []

-- a desk made by hand: its stall, of 7 in slot 0, is not in the frame
abbrev by_hand : Desk
by_hand = record { framed = true; table = record { layout = layout_of 3 2 40 0 128 256 0; slots = placed_region 7 (rectangle 2 0 2 2) ∷ [] } }

abbrev answering : Desk → Record → ℕ
answering d r = answer_code (record_answer d (Some r))

pub record Computed : Type 0 where
  -- `cell` 0 33 1 1 7, byte by byte
  pub bytes : cell ≡ 99 ∷ 101 ∷ 108 ∷ 108 ∷ 9 ∷ 48 ∷ 9 ∷ 51 ∷ 51 ∷ 9 ∷ 49 ∷ 9 ∷ 49 ∷ 9 ∷ 55 ∷ []
  -- the paper's session, to its text; its last newline adds no line
  pub text : output session ≡ header ++ rows
  pub numbers : printed session
      ≡ (1 ∷ 0 ∷ 480 ∷ []) ∷ (2 ∷ 0 ∷ 160 ∷ []) ∷ (3 ∷ 10 ∷ 0 ∷ []) ∷ (4 ∷ 0 ∷ 417 ∷ []) ∷ (5 ∷ 25 ∷ 0 ∷ []) ∷ (6 ∷ 0 ∷ 160 ∷ []) ∷ (7 ∷ 0 ∷ 80 ∷ []) ∷ []
  -- a last line may lack its newline
  pub last : printed (frame ++ stall ++ cell) ≡ (1 ∷ 0 ∷ 480 ∷ []) ∷ (2 ∷ 0 ∷ 160 ∷ []) ∷ (3 ∷ 0 ∷ 417 ∷ []) ∷ []
  -- before a frame stall, cell and leave are 1, whatever their numbers; a shape without the id is 24, there too
  pub early : codes (stall ++ line stall_word (16 ∷ 0 ∷ 0 ∷ 0 ∷ 0 ∷ 0 ∷ []) ++ line cell_word (16 ∷ 40 ∷ 2 ∷ 2 ∷ 0 ∷ []) ++ leave ++ line leave_word (16 ∷ 0 ∷ [])) ≡ 1 ∷ 1 ∷ 1 ∷ 1 ∷ 1 ∷ []
  pub nobody : codes (line leave_word (0 ∷ []) ++ frame ++ line stall_word (0 ∷ 0 ∷ 0 ∷ 2 ∷ 2 ∷ []) ++ line cell_word (0 ∷ 33 ∷ 1 ∷ 1 ∷ []) ++ line leave_word (0 ∷ []))
      ≡ 24 ∷ 0 ∷ 24 ∷ 24 ∷ 24 ∷ []
  -- an empty line, and a second frame that is refused: the first stays, with its stall; a cell in an empty slot, and one a column past its stall
  pub refused : printed (10 ∷ [] ++ frame ++ stall ++ no_frame ++ line cell_word (5 ∷ 0 ∷ 0 ∷ 0 ∷ 7 ∷ []) ++ line cell_word (0 ∷ 0 ∷ 0 ∷ 2 ∷ 7 ∷ []) ++ cell)
      ≡ (1 ∷ 24 ∷ 0 ∷ []) ∷ (2 ∷ 0 ∷ 480 ∷ []) ∷ (3 ∷ 0 ∷ 160 ∷ []) ∷ (4 ∷ 1 ∷ 0 ∷ []) ∷ (5 ∷ 8 ∷ 0 ∷ []) ∷ (6 ∷ 9 ∷ 0 ∷ []) ∷ (7 ∷ 0 ∷ 417 ∷ []) ∷ []
  -- an accepted second frame empties the slots
  pub emptied : printed (frame ++ stall ++ frame ++ cell) ≡ (1 ∷ 0 ∷ 480 ∷ []) ∷ (2 ∷ 0 ∷ 160 ∷ []) ∷ (3 ∷ 0 ∷ 480 ∷ []) ∷ (4 ∷ 8 ∷ 0 ∷ []) ∷ []
  -- a cell is counted from its stall's corner
  pub corner : printed (frame ++ overlapping ++ line cell_word (1 ∷ 0 ∷ 0 ∷ 0 ∷ 8 ∷ [])) ≡ (1 ∷ 0 ∷ 480 ∷ []) ∷ (2 ∷ 0 ∷ 80 ∷ []) ∷ (3 ∷ 0 ∷ 32 ∷ []) ∷ []
  -- a stall, two at once: 25 and 8, of a slot that is none and of a filled one; 8 and 9; 9 and 10; the greatest id
  pub stalls :
      codes
      (frame
      ++ stall
      ++ line stall_word (16 ∷ 0 ∷ 0 ∷ 0 ∷ 1 ∷ 0 ∷ [])
      ++ line stall_word (0 ∷ 0 ∷ 0 ∷ 0 ∷ 1 ∷ 65536 ∷ [])
      ++ line stall_word (16 ∷ 0 ∷ 0 ∷ 0 ∷ 1 ∷ 8 ∷ [])
      ++ line stall_word (1 ∷ 1 ∷ 0 ∷ 3 ∷ 1 ∷ 8 ∷ [])
      ++ line stall_word (1 ∷ 2 ∷ 0 ∷ 1 ∷ 1 ∷ 65535 ∷ []))
      ≡ 0 ∷ 0 ∷ 25 ∷ 25 ∷ 8 ∷ 9 ∷ 0 ∷ []
  -- a cell, two at once: 8 and 25, 25 and 9; the id of nobody, and another's
  pub cells :
      codes
      (frame
      ++ stall
      ++ line cell_word (1 ∷ 40 ∷ 0 ∷ 0 ∷ 0 ∷ [])
      ++ line cell_word (0 ∷ 40 ∷ 0 ∷ 0 ∷ 8 ∷ [])
      ++ line cell_word (0 ∷ 33 ∷ 1 ∷ 1 ∷ 0 ∷ [])
      ++ line cell_word (0 ∷ 33 ∷ 1 ∷ 1 ∷ 8 ∷ []))
      ≡ 0 ∷ 0 ∷ 8 ∷ 25 ∷ 25 ∷ 25 ∷ []
  -- a leave, two at once: 8 and 25; 25 and 9, and 9 itself, on a desk made by hand, as lines alone place no stall outside the frame
  pub leaves_8 : codes (frame ++ line leave_word (0 ∷ 0 ∷ []) ++ line leave_word (16 ∷ 65536 ∷ [])) ≡ 0 ∷ 8 ∷ 8 ∷ []
  pub leaves_9 : answering by_hand (Leave 1 0) ∷ answering by_hand (Leave 0 8) ∷ answering by_hand (Leave 0 7) ∷ [] ≡ 8 ∷ 25 ∷ 9 ∷ []
  -- a leave refused changes nothing; after one accepted the cell is 8, and so is a second leave
  pub left : printed (frame ++ stall ++ not_left ++ cell ++ 10 ∷ [] ++ leave ++ cell ++ 10 ∷ [] ++ leave)
      ≡ (1 ∷ 0 ∷ 480 ∷ []) ∷ (2 ∷ 0 ∷ 160 ∷ []) ∷ (3 ∷ 25 ∷ 0 ∷ []) ∷ (4 ∷ 0 ∷ 417 ∷ []) ∷ (5 ∷ 0 ∷ 160 ∷ []) ∷ (6 ∷ 8 ∷ 0 ∷ []) ∷ (7 ∷ 8 ∷ 0 ∷ []) ∷ []
  -- slot and room are free for 8, and then they are not 7's
  pub next : printed (frame ++ stall ++ leave ++ line stall_word (0 ∷ 0 ∷ 0 ∷ 2 ∷ 2 ∷ 8 ∷ []) ++ cell ++ 10 ∷ [] ++ leave ++ not_left)
      ≡ (1 ∷ 0 ∷ 480 ∷ []) ∷ (2 ∷ 0 ∷ 160 ∷ []) ∷ (3 ∷ 0 ∷ 160 ∷ []) ∷ (4 ∷ 0 ∷ 160 ∷ []) ∷ (5 ∷ 25 ∷ 0 ∷ []) ∷ (6 ∷ 25 ∷ 0 ∷ []) ∷ (7 ∷ 0 ∷ 160 ∷ []) ∷ []
  -- a leave empties no other slot: the stall of one column beside it stays, and leaves with its own count
  pub beside : printed (frame ++ stall ++ line stall_word (3 ∷ 2 ∷ 0 ∷ 1 ∷ 2 ∷ 7 ∷ []) ++ leave ++ line cell_word (3 ∷ 0 ∷ 1 ∷ 0 ∷ 7 ∷ []) ++ line leave_word (3 ∷ 7 ∷ []))
      ≡ (1 ∷ 0 ∷ 480 ∷ []) ∷ (2 ∷ 0 ∷ 160 ∷ []) ∷ (3 ∷ 0 ∷ 80 ∷ []) ∷ (4 ∷ 0 ∷ 160 ∷ []) ∷ (5 ∷ 0 ∷ 192 ∷ []) ∷ (6 ∷ 0 ∷ 80 ∷ []) ∷ []
  -- fed in two parts, cut within the second line; the last line lacks its newline
  pub parts : lines (rows_of_parts start_sheet ((frame ++ 115 ∷ 116 ∷ 97 ∷ []) ∷ (108 ∷ 108 ∷ 9 ∷ 48 ∷ 9 ∷ 48 ∷ 9 ∷ 48 ∷ 9 ∷ 50 ∷ 9 ∷ 50 ∷ 9 ∷ 55 ∷ 10 ∷ cell) ∷ []))
      ≡ (1 ∷ 0 ∷ 480 ∷ []) ∷ (2 ∷ 0 ∷ 160 ∷ []) ∷ (3 ∷ 0 ∷ 417 ∷ []) ∷ []
  -- no input, no rows
  pub none : printed [] ≡ []

pub computed : Computed
unfolding require_at in_order leaves element_bytes surfaces element_position cube_extent box_count span_inside span_has size_valid sizes_valid whole_atoms strides_valid layout_checks slot_of slots_of rectangle_has occupied any_from overlaps rectangle_inside slot_at is_filled rectangle_of id_of place_checks box_in_rectangle slot_checks region_box_checks place_answer place_table before split fields_of without_empty_last lines_of part_length same_text is_digit all_digits digits_after is_empty well_begun number_of and_number listed in_table numbers_of with_byte added line_text next_lines collected is_named by_word by_fields record_of line_record framed_or record_answer record_value record_done value_after desk_after row_of rows_after sheet start_sheet line_ended line_row fed finished and_then part_fed rows_of_parts output row_text fields_text digits leading_in numeral flatten
computed =
    record {
      bytes = refl;
      text = refl;
      numbers = refl;
      last = refl;
      early = refl;
      nobody = refl;
      refused = refl;
      emptied = refl;
      corner = refl;
      stalls = refl;
      cells = refl;
      leaves_8 = refl;
      leaves_9 = refl;
      left = refl;
      next = refl;
      beside = refl;
      parts = refl;
      none = refl;
    }
