-- Lines and their records, computed (scope paper, "The sheet program"; change request K1): the lines of its example, and lines that a reading could get wrong.
-- Assumes nothing.
use Prim.Native.Nat.{ℕ, ◌+◌, ◌<◌}
use mathlib.Core.Path.{◌≡◌, refl}
use mathlib.Core.List.{List, [], ◌∷◌, ◌++◌, map}
use lib.ListN.{length}
use Rattle.std.proofs.Common.{None, Some}
use Rattle.layout.specs.Geometry.{layout_of}
use Rattle.lines.specs.Texts.{before, split, fields_of, same_text}
use Rattle.lines.specs.Numbers.{is_digit, all_digits, value_after, is_empty, well_begun, number_of, and_number, listed, in_table, numbers_of}
use Rattle.records.specs.declared.Record.TheVariants.{Frame, Stall, Cell, Leave}
use Rattle.records.specs.Records.{frame_word, stall_word, cell_word, leave_word, is_named, by_word, by_fields, record_of}
use Rattle.records.proofs.LineLaws.{record-long}

-- ---- how a line is written here: its word, then the digits of each number

-- digits as bytes
abbrev text : List ℕ → List ℕ
text digits = map (λ (d : ℕ). d + 48) digits

-- a word and its fields, a tab before each
abbrev line : List ℕ → List (List ℕ) → List ℕ
line word [] = word
line word (digits ∷ fields) = line (word ++ 9 ∷ text digits) fields

-- 4294967295 and 4294967296
abbrev largest : List ℕ
largest = 4 ∷ 2 ∷ 9 ∷ 4 ∷ 9 ∷ 6 ∷ 7 ∷ 2 ∷ 9 ∷ 5 ∷ []

abbrev too_large : List ℕ
too_large = 4 ∷ 2 ∷ 9 ∷ 4 ∷ 9 ∷ 6 ∷ 7 ∷ 2 ∷ 9 ∷ 6 ∷ []

-- `stall` 0 0 0 2 2 7, byte by byte
pub bytes : line stall_word ((0 ∷ []) ∷ (0 ∷ []) ∷ (0 ∷ []) ∷ (2 ∷ []) ∷ (2 ∷ []) ∷ (7 ∷ []) ∷ []) ≡ 115 ∷ 116 ∷ 97 ∷ 108 ∷ 108 ∷ 9 ∷ 48 ∷ 9 ∷ 48 ∷ 9 ∷ 48 ∷ 9 ∷ 50 ∷ 9 ∷ 50 ∷ 9 ∷ 55 ∷ []
bytes = refl

-- and `leave` 0 7
pub left : line leave_word ((0 ∷ []) ∷ (7 ∷ []) ∷ []) ≡ 108 ∷ 101 ∷ 97 ∷ 118 ∷ 101 ∷ 9 ∷ 48 ∷ 9 ∷ 55 ∷ []
left = refl

-- ---- lines that are records

pub record Readable : Type 0 where
  -- the example: `frame` 3 2 40 0 128 256 0; `stall` 0 0 0 2 2 7; `stall` 1 1 0 2 1 8; `cell` 0 33 1 1 7; `leave` 0 7
  pub frame : record_of (line frame_word ((3 ∷ []) ∷ (2 ∷ []) ∷ (4 ∷ 0 ∷ []) ∷ (0 ∷ []) ∷ (1 ∷ 2 ∷ 8 ∷ []) ∷ (2 ∷ 5 ∷ 6 ∷ []) ∷ (0 ∷ []) ∷ [])) ≡ Some (Frame (layout_of 3 2 40 0 128 256 0))
  pub stall : record_of (line stall_word ((0 ∷ []) ∷ (0 ∷ []) ∷ (0 ∷ []) ∷ (2 ∷ []) ∷ (2 ∷ []) ∷ (7 ∷ []) ∷ [])) ≡ Some (Stall 0 0 0 2 2 7)
  pub second : record_of (line stall_word ((1 ∷ []) ∷ (1 ∷ []) ∷ (0 ∷ []) ∷ (2 ∷ []) ∷ (1 ∷ []) ∷ (8 ∷ []) ∷ [])) ≡ Some (Stall 1 1 0 2 1 8)
  pub cell : record_of (line cell_word ((0 ∷ []) ∷ (3 ∷ 3 ∷ []) ∷ (1 ∷ []) ∷ (1 ∷ []) ∷ (7 ∷ []) ∷ [])) ≡ Some (Cell 0 33 1 1 7)
  pub leave : record_of (line leave_word ((0 ∷ []) ∷ (7 ∷ []) ∷ [])) ≡ Some (Leave 0 7)
  -- `cell` 0 0 0 4294967295 7, and any number for the id: `stall` 0 0 0 1 1 0, `leave` 0 4294967295
  pub greatest : record_of (line cell_word ((0 ∷ []) ∷ (0 ∷ []) ∷ (0 ∷ []) ∷ largest ∷ (7 ∷ []) ∷ [])) ≡ Some (Cell 0 0 0 4294967295 7)
  pub none : record_of (line stall_word ((0 ∷ []) ∷ (0 ∷ []) ∷ (0 ∷ []) ∷ (1 ∷ []) ∷ (1 ∷ []) ∷ (0 ∷ []) ∷ [])) ≡ Some (Stall 0 0 0 1 1 0)
  pub any : record_of (line leave_word ((0 ∷ []) ∷ largest ∷ [])) ≡ Some (Leave 0 4294967295)
  -- `frame` and seven times 4294967295: 82 bytes
  pub longest : record_of (line frame_word (largest ∷ largest ∷ largest ∷ largest ∷ largest ∷ largest ∷ largest ∷ []))
      ≡ Some (Frame (layout_of 4294967295 4294967295 4294967295 4294967295 4294967295 4294967295 4294967295))

pub readable : Readable
unfolding before split fields_of same_text is_digit all_digits value_after is_empty well_begun number_of and_number listed in_table numbers_of is_named by_word by_fields record_of
readable =
    record { frame = refl; stall = refl; second = refl; cell = refl; leave = refl; greatest = refl; none = refl; any = refl; longest = refl }

-- ---- lines that are not

pub record NotReadable : Type 0 where
  -- an empty line
  pub empty : record_of [] ≡ None
  -- `cell` 0, an empty field, 1 1 7
  pub gap : record_of (line cell_word ((0 ∷ []) ∷ [] ∷ (1 ∷ []) ∷ (1 ∷ []) ∷ (7 ∷ []) ∷ [])) ≡ None
  -- `stall` 00 0 0 2 2 7 and `leave` 0 07: a leading zero
  pub zero : record_of (line stall_word ((0 ∷ 0 ∷ []) ∷ (0 ∷ []) ∷ (0 ∷ []) ∷ (2 ∷ []) ∷ (2 ∷ []) ∷ (7 ∷ []) ∷ [])) ≡ None
  pub zero_id : record_of (line leave_word ((0 ∷ []) ∷ (0 ∷ 7 ∷ []) ∷ [])) ≡ None
  -- `cell` 0 0 0 4294967296 7 and `leave` 0 4294967296
  pub over : record_of (line cell_word ((0 ∷ []) ∷ (0 ∷ []) ∷ (0 ∷ []) ∷ too_large ∷ (7 ∷ []) ∷ [])) ≡ None
  pub over_id : record_of (line leave_word ((0 ∷ []) ∷ too_large ∷ [])) ≡ None
  -- `cell` 0 33 1 1 7 and a tab: an empty field more
  pub tab : record_of (line cell_word ((0 ∷ []) ∷ (3 ∷ 3 ∷ []) ∷ (1 ∷ []) ∷ (1 ∷ []) ∷ (7 ∷ []) ∷ [] ∷ [])) ≡ None
  -- `cell` 0 33 1 1 7 and a carriage return: a byte of the last field
  pub return : record_of (line cell_word ((0 ∷ []) ∷ (3 ∷ 3 ∷ []) ∷ (1 ∷ []) ∷ (1 ∷ []) ∷ (7 ∷ []) ∷ []) ++ 13 ∷ []) ≡ None
  -- without the id: `stall` 0 0 0 2 2, `cell` 0 33 1 1, `leave` 0
  pub stall_missing : record_of (line stall_word ((0 ∷ []) ∷ (0 ∷ []) ∷ (0 ∷ []) ∷ (2 ∷ []) ∷ (2 ∷ []) ∷ [])) ≡ None
  pub cell_missing : record_of (line cell_word ((0 ∷ []) ∷ (3 ∷ 3 ∷ []) ∷ (1 ∷ []) ∷ (1 ∷ []) ∷ [])) ≡ None
  pub leave_missing : record_of (line leave_word ((0 ∷ []) ∷ [])) ≡ None
  -- a field too many: `stall` 0 0 0 2 2 7 7, `cell` 0 33 1 1 7 7, `leave` 0 7 7
  pub stall_extra : record_of (line stall_word ((0 ∷ []) ∷ (0 ∷ []) ∷ (0 ∷ []) ∷ (2 ∷ []) ∷ (2 ∷ []) ∷ (7 ∷ []) ∷ (7 ∷ []) ∷ [])) ≡ None
  pub cell_extra : record_of (line cell_word ((0 ∷ []) ∷ (3 ∷ 3 ∷ []) ∷ (1 ∷ []) ∷ (1 ∷ []) ∷ (7 ∷ []) ∷ (7 ∷ []) ∷ [])) ≡ None
  pub leave_extra : record_of (line leave_word ((0 ∷ []) ∷ (7 ∷ []) ∷ (7 ∷ []) ∷ [])) ≡ None
  -- `leave` with no field
  pub word : record_of leave_word ≡ None
  -- `cell` 0 33 1 1 :, the byte after 9
  pub colon : record_of (line cell_word ((0 ∷ []) ∷ (3 ∷ 3 ∷ []) ∷ (1 ∷ []) ∷ (1 ∷ []) ∷ []) ++ 9 ∷ 58 ∷ []) ≡ None
  -- over 120 bytes, whatever they are
  pub long : (bytes : List ℕ) → 120 < length bytes → record_of bytes ≡ None

pub not-readable : NotReadable
unfolding before split fields_of same_text is_digit all_digits value_after is_empty well_begun number_of and_number listed in_table numbers_of is_named by_word by_fields record_of
not-readable =
    record {
      empty = refl;
      gap = refl;
      zero = refl;
      zero_id = refl;
      over = refl;
      over_id = refl;
      tab = refl;
      return = refl;
      stall_missing = refl;
      cell_missing = refl;
      leave_missing = refl;
      stall_extra = refl;
      cell_extra = refl;
      leave_extra = refl;
      word = refl;
      colon = refl;
      long = record-long;
    }
