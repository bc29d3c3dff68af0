-- Inputs and texts, computed (change request K8): what a reading or a printing could get wrong. Assumes nothing.
use Prim.Native.Nat.{ℕ}
use mathlib.Core.Path.{◌≡◌, refl}
use mathlib.Core.List.{List, [], ◌∷◌, ◌++◌, flatten}
use lib.ListN.{replicate}
use Rattle.layout.specs.declared.CubeLayout.{CubeLayout}
use Rattle.layout.specs.Geometry.{layout_of}
use Rattle.lines.specs.Texts.{before, split, fields_of, without_empty_last, lines_of, same_text}
use Rattle.lines.specs.Numbers.{is_digit, all_digits, value_after, is_empty, well_begun, number_of, and_number, listed, in_table, numbers_of}
use Rattle.lines.specs.Digits.{leading_in, digits}
use Rattle.records.specs.Records.{frame_word, stall_word, is_named, by_word, by_fields, record_of}
use Rattle.padding.specs.Mending.{Dirt, reported}
use Rattle.padding.specs.Calls.{filled}
use Rattle.padding.specs.Files.{lines}
use Rattle.mend_text.specs.Requests.{unreadable, mending, is_name, with_names, by_lines, request_of}
use Rattle.mend_text.specs.Reports.{header, dirt_text, report_text, number_text, output, fitting, gathered, gather_text, all_gathered}

-- ---- inputs

-- `frame` 3 2 40 0 128 256 0
abbrev frame_line : List ℕ
frame_line = frame_word ++ 9 ∷ 51 ∷ 9 ∷ 50 ∷ 9 ∷ 52 ∷ 48 ∷ 9 ∷ 48 ∷ 9 ∷ 49 ∷ 50 ∷ 56 ∷ 9 ∷ 50 ∷ 53 ∷ 54 ∷ 9 ∷ 48 ∷ []

abbrev frame : CubeLayout
frame = layout_of 3 2 40 0 128 256 0

-- the same with 03 for the width: a leading zero
abbrev bad_line : List ℕ
bad_line = frame_word ++ 9 ∷ 48 ∷ 51 ∷ 9 ∷ 50 ∷ 9 ∷ 52 ∷ 48 ∷ 9 ∷ 48 ∷ 9 ∷ 49 ∷ 50 ∷ 56 ∷ 9 ∷ 50 ∷ 53 ∷ 54 ∷ 9 ∷ 48 ∷ []

-- `stall` 0 0 0 2 2 7
abbrev stall_line : List ℕ
stall_line = stall_word ++ 9 ∷ 48 ∷ 9 ∷ 48 ∷ 9 ∷ 48 ∷ 9 ∷ 50 ∷ 9 ∷ 50 ∷ 9 ∷ 55 ∷ []

-- three lines, each with its newline
abbrev input : List ℕ → List ℕ → List ℕ → List ℕ
input a b c = a ++ 10 ∷ b ++ 10 ∷ c ++ 10 ∷ []

-- `a`, `b`, `ab`
abbrev a : List ℕ
a = 97 ∷ []

abbrev b : List ℕ
b = 98 ∷ []

abbrev ab : List ℕ
ab = 97 ∷ 98 ∷ []

-- `a`, a tab, `b`
abbrev tabbed : List ℕ
tabbed = 97 ∷ 9 ∷ 98 ∷ []

-- names of 120 and of 121 bytes
abbrev long : List ℕ
long = replicate 120 97

abbrev too_long : List ℕ
too_long = replicate 121 97

pub record Readable : Type 0 where
  pub names : request_of (input frame_line a b) ≡ mending frame a b
  -- a last line may lack its newline
  pub open_end : request_of (frame_line ++ 10 ∷ a ++ 10 ∷ b) ≡ mending frame a b
  -- one name begins the other
  pub begun : request_of (input frame_line a ab) ≡ mending frame a ab
  pub begun_by : request_of (input frame_line ab a) ≡ mending frame ab a
  pub of_120 : request_of (input frame_line long b) ≡ mending frame long b
  pub of_120_second : request_of (input frame_line b long) ≡ mending frame b long
  -- a carriage return, a space or a word of the sheet is a byte of its name
  pub return : request_of (input frame_line (97 ∷ 13 ∷ []) a) ≡ mending frame (97 ∷ 13 ∷ []) a
  pub space : request_of (input frame_line (32 ∷ []) frame_word) ≡ mending frame (32 ∷ []) frame_word

pub readable : Readable
unfolding before split fields_of without_empty_last lines_of same_text is_digit all_digits value_after is_empty well_begun number_of and_number listed in_table numbers_of is_named by_word by_fields record_of is_name with_names by_lines request_of
readable =
    record { names = refl; open_end = refl; begun = refl; begun_by = refl; of_120 = refl; of_120_second = refl; return = refl; space = refl }

pub record MoreLines : Type 0 where
  -- an empty fourth line
  pub empty : request_of (input frame_line a b ++ 10 ∷ []) ≡ unreadable
  pub four : request_of (input frame_line a b ++ ab) ≡ unreadable
  pub five : request_of (input frame_line a b ++ ab ++ 10 ∷ 10 ∷ []) ≡ unreadable

pub more-lines : MoreLines
unfolding before split fields_of without_empty_last lines_of same_text is_digit all_digits value_after is_empty well_begun number_of and_number listed in_table numbers_of is_named by_word by_fields record_of is_name with_names by_lines request_of
more-lines = record { empty = refl; four = refl; five = refl }

pub record EqualNames : Type 0 where
  pub equal : request_of (input frame_line a a) ≡ unreadable
  pub open_end : request_of (frame_line ++ 10 ∷ ab ++ 10 ∷ ab) ≡ unreadable
  pub of_120 : request_of (input frame_line long long) ≡ unreadable

pub equal-names : EqualNames
unfolding before split fields_of without_empty_last lines_of same_text is_digit all_digits value_after is_empty well_begun number_of and_number listed in_table numbers_of is_named by_word by_fields record_of is_name with_names by_lines request_of
equal-names = record { equal = refl; open_end = refl; of_120 = refl }

pub record TabbedNames : Type 0 where
  pub first : request_of (input frame_line tabbed b) ≡ unreadable
  pub second : request_of (input frame_line a tabbed) ≡ unreadable
  -- a trailing tab
  pub end : request_of (input frame_line a (98 ∷ 9 ∷ [])) ≡ unreadable

pub tabbed-names : TabbedNames
unfolding before split fields_of without_empty_last lines_of same_text is_digit all_digits value_after is_empty well_begun number_of and_number listed in_table numbers_of is_named by_word by_fields record_of is_name with_names by_lines request_of
tabbed-names = record { first = refl; second = refl; end = refl }

pub record LongNames : Type 0 where
  pub first : request_of (input frame_line too_long b) ≡ unreadable
  pub second : request_of (input frame_line b too_long) ≡ unreadable

pub long-names : LongNames
unfolding before split fields_of without_empty_last lines_of same_text is_digit all_digits value_after is_empty well_begun number_of and_number listed in_table numbers_of is_named by_word by_fields record_of is_name with_names by_lines request_of
long-names = record { first = refl; second = refl }

pub record NotReadable : Type 0 where
  -- fewer lines
  pub none : request_of [] ≡ unreadable
  pub newline : request_of (10 ∷ []) ≡ unreadable
  pub one : request_of (frame_line ++ 10 ∷ []) ≡ unreadable
  pub two : request_of (frame_line ++ 10 ∷ a ++ 10 ∷ []) ≡ unreadable
  pub two_open : request_of (frame_line ++ 10 ∷ a) ≡ unreadable
  -- empty names
  pub no_first : request_of (input frame_line [] b) ≡ unreadable
  pub no_second : request_of (input frame_line a []) ≡ unreadable
  -- no frame
  pub stall : request_of (input stall_line a b) ≡ unreadable
  pub number : request_of (input bad_line a b) ≡ unreadable
  pub frameless : request_of (input [] a b) ≡ unreadable
  pub frame_last : request_of (input a b frame_line) ≡ unreadable
  -- two faults at once
  pub stall_equal : request_of (input stall_line a a) ≡ unreadable
  pub stall_two : request_of (stall_line ++ 10 ∷ a) ≡ unreadable
  pub number_tab : request_of (input bad_line tabbed b) ≡ unreadable
  pub equal_empty : request_of (input frame_line [] []) ≡ unreadable
  pub equal_tab : request_of (input frame_line tabbed tabbed) ≡ unreadable
  pub equal_long : request_of (input frame_line too_long too_long) ≡ unreadable
  pub equal_fourth : request_of (input frame_line a a ++ 10 ∷ []) ≡ unreadable
  pub empty_fourth : request_of (input frame_line [] b ++ 10 ∷ []) ≡ unreadable

pub not-readable : NotReadable
unfolding before split fields_of without_empty_last lines_of same_text is_digit all_digits value_after is_empty well_begun number_of and_number listed in_table numbers_of is_named by_word by_fields record_of is_name with_names by_lines request_of
not-readable =
    record {
      none = refl;
      newline = refl;
      one = refl;
      two = refl;
      two_open = refl;
      no_first = refl;
      no_second = refl;
      stall = refl;
      number = refl;
      frameless = refl;
      frame_last = refl;
      stall_equal = refl;
      stall_two = refl;
      number_tab = refl;
      equal_empty = refl;
      equal_tab = refl;
      equal_long = refl;
      equal_fourth = refl;
      empty_fourth = refl;
    }

-- ---- texts

abbrev dirt : ℕ → ℕ → Dirt
dirt position old = record { position = position; old = old }

-- position 264, old value 7; position 0, old value 255
pub record Lines : Type 0 where
  pub line : dirt_text (dirt 264 7) ≡ 50 ∷ 54 ∷ 52 ∷ 9 ∷ 55 ∷ 10 ∷ []
  pub both : report_text (dirt 0 255 ∷ dirt 264 7 ∷ []) ≡ 48 ∷ 9 ∷ 50 ∷ 53 ∷ 53 ∷ 10 ∷ 50 ∷ 54 ∷ 52 ∷ 9 ∷ 55 ∷ 10 ∷ []
  -- 18446744073709551615 and 255: the longest line, 25 bytes
  pub longest : dirt_text (dirt 18446744073709551615 255)
      ≡ 49 ∷ 56 ∷ 52 ∷ 52 ∷ 54 ∷ 55 ∷ 52 ∷ 52 ∷ 48 ∷ 55 ∷ 51 ∷ 55 ∷ 48 ∷ 57 ∷ 53 ∷ 53 ∷ 49 ∷ 54 ∷ 49 ∷ 53 ∷ 9 ∷ 50 ∷ 53 ∷ 53 ∷ 10 ∷ []

pub report-lines : Lines
unfolding leading_in digits dirt_text report_text flatten
report-lines = record { line = refl; both = refl; longest = refl }

-- of a file with nothing to mend the header alone is printed
pub clean-output : output frame [] ≡ header
unfolding reported report_text output flatten
clean-output = refl

-- 24 alone
pub refused-number : number_text 24 ≡ 50 ∷ 52 ∷ 10 ∷ []
unfolding leading_in digits number_text
refused-number = refl

-- ---- lines gathered: of 6, 6 and 4 bytes

abbrev positions : List ℕ
positions = 0 ∷ 264 ∷ 5 ∷ []

abbrev olds : List ℕ
olds = 255 ∷ 7 ∷ 1 ∷ []

pub record Several : Type 0 where
  pub all : gathered positions olds 16 ≡ record { lines = 3; bytes = 16 }
  pub wider : gathered positions olds 100 ≡ record { lines = 3; bytes = 16 }
  pub two : gathered positions olds 15 ≡ record { lines = 2; bytes = 12 }
  pub exact : gathered positions olds 12 ≡ record { lines = 2; bytes = 12 }

pub several : Several
unfolding leading_in digits dirt_text report_text flatten lines fitting gathered
several = record { all = refl; wider = refl; two = refl; exact = refl }

pub record Few : Type 0 where
  pub none : gathered positions olds 5 ≡ record { lines = 0; bytes = 0 }
  pub no_room : gathered positions olds 0 ≡ record { lines = 0; bytes = 0 }
  pub no_lines : gathered [] [] 100 ≡ record { lines = 0; bytes = 0 }
  -- the third would fit, but the second does not
  pub in_order : gathered positions olds 11 ≡ record { lines = 1; bytes = 6 }
  -- the shorter list counts
  pub fewer_olds : gathered positions (255 ∷ []) 100 ≡ record { lines = 1; bytes = 6 }
  pub fewer_positions : gathered (0 ∷ []) olds 100 ≡ record { lines = 1; bytes = 6 }

pub few : Few
unfolding leading_in digits dirt_text report_text flatten lines fitting gathered
few = record { none = refl; no_room = refl; no_lines = refl; in_order = refl; fewer_olds = refl; fewer_positions = refl }

-- places past the lines that fit stay
pub stays : gather_text positions olds (replicate 8 1) ≡ 48 ∷ 9 ∷ 50 ∷ 53 ∷ 53 ∷ 10 ∷ 1 ∷ 1 ∷ []
unfolding leading_in digits dirt_text report_text flatten lines filled fitting gather_text
stays = refl

-- no line fits whole: all stay
pub whole-lines : gather_text positions olds (replicate 5 1) ≡ 1 ∷ 1 ∷ 1 ∷ 1 ∷ 1 ∷ []
unfolding leading_in digits dirt_text report_text flatten lines filled fitting gather_text
whole-lines = refl

pub record Joined : Type 0 where
  pub one_call : all_gathered 1 positions olds (replicate 8 1) ≡ 48 ∷ 9 ∷ 50 ∷ 53 ∷ 53 ∷ 10 ∷ []
  pub all_calls : all_gathered 3 positions olds (replicate 8 1) ≡ report_text (dirt 0 255 ∷ dirt 264 7 ∷ dirt 5 1 ∷ [])

pub joined : Joined
unfolding leading_in digits dirt_text report_text flatten lines filled fitting gathered gather_text all_gathered
joined = record { one_call = refl; all_calls = refl }
