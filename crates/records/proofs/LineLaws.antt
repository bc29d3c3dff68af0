-- A line's record: from its first field and the numbers behind it, and from the line that was collected. Assumes nothing.
--     fields-is       a text's record, by its word and the numbers behind it
--     line-record     a collected line has its text's record
use Prim.Native.Nat.{ℕ, ◌≤◌, ◌<◌}
use mathlib.Core.Path.{◌≡◌, sym}
use mathlib.Core.List.{List}
use native.Mathlib.Decide.{dec_le}
use native.Mathlib.Omega.{arith}
use lib.ListN.{length, take, drop}
use borrow.Author.Tests.{lt-leb}
use Rattle.lines.specs.declared.Line.{Line}
use Rattle.lines.specs.declared.Numbers.{Numbers}
use Rattle.lines.specs.Texts.{fields_of, part_length}
use Rattle.lines.specs.Numbers.{numbers_behind}
use Rattle.lines.proofs.SplitLaws.{split-first}
use Rattle.lines.proofs.HoldLaws.{Holds, holds-whole, holds_text}
use Rattle.std.proofs.Common.{Option, None}
use Rattle.std.specs.Option.{option_and_then}
use Rattle.records.specs.Records.{by_word, by_fields, line_record, record_of}

pub fields-is : (text : List ℕ) (end : ℕ) (ns : Option Numbers) → end ≡ part_length 9 text → ns ≡ numbers_behind (drop end text)
    → option_and_then (by_word (take end text)) ns ≡ by_fields (fields_of text)
unfolding fields_of by_fields
fields-is text end ns e m = sym (rw (split-first 9 text) (rw (← e, m)))

pub record-long : (line : List ℕ) → 120 < length line → record_of line ≡ None
unfolding record_of
record-long line h = rw (lt-leb (length line) 120 h)

module _ (l : Line) (text : List ℕ) (o : Holds l text) where
  record-short : length text ≤ 120 → line_record l ≡ record_of text
  unfolding line_record record_of
  record-short h = rw (holds-whole l text o, holds_text l text o h)

  record-past : 120 < length text → line_record l ≡ record_of text
  unfolding line_record record_of
  record-past h = rw (holds-whole l text o, lt-leb (length text) 120 h)

  pub line-record : line_record l ≡ record_of text
  line-record = elim (dec_le (length text) 120) [ yes h ↦ record-short h | no f ↦ record-past (omega arith) ]
