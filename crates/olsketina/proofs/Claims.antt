-- What travels as words comes back as it was, and what is refused or empty leaves the words. The words are those of specs/; each proof cites a law.
-- Assumes nothing.
use Prim.Native.Nat.{ℕ, ◌+◌, ◌*◌, ◌^◌, ◌≤◌, ◌<◌}
use native.Mathlib.Omega.{arith}
use mathlib.Core.Path.{◌≡◌, refl}
use mathlib.Core.List.{List, [], flatten}
use lib.ListN.{length}
use lib.IntN.{ℤ, pos}
use Rattle.std.specs.Prelude.{Option, Some, None, Ok}
use Rattle.refusal.specs.Checks.{Accepted}
use Rattle.regions.specs.declared.RegionTable.{RegionTable}
use Rattle.regions.specs.declared.Rectangle.{Rectangle}
use Rattle.regions.specs.Calls.{place_table, release_answer, release_table}
use Rattle.walk.specs.declared.Walk.{Walk}
use Rattle.lut.specs.declared.Counters.{Counters}
use Rattle.lut.specs.declared.LutSettings.{LutSettings}
use Rattle.lut.specs.declared.Table.{Table}
use Rattle.camera.specs.Ready.{ready_answer}
use Rattle.lines.specs.Texts.{lines_of}
use Rattle.script.specs.declared.Sheet.{Sheet}
use Rattle.script.specs.declared.Row.{Row}
use Rattle.script.specs.Sheets.{sheet}
use Rattle.script.specs.Output.{fields_text, row_text}
use Rattle.script.specs.Feed.{fed, finished}
use Rattle.olsketina.specs.Sizes.{layout_size, slot_size, slot_count, table_size, frame_word, state_size}
use Rattle.olsketina.specs.Words.{word}
use Rattle.olsketina.specs.Tables.{table_at, with_table, place_words, release_words, Outside}
use Rattle.olsketina.specs.Walks.{walk_from, walk_words}
use Rattle.olsketina.specs.Lookups.{counters_from, counter_words}
use Rattle.olsketina.specs.Ready.{fed_back}
use Rattle.olsketina.specs.Sheets.{sheet_from, with_sheet, row_words, Has_refusal}
use Rattle.olsketina.specs.Feeding.{Held, begun, rows_held, words_of}
use Rattle.olsketina.proofs.TableLaws as table
use Rattle.olsketina.proofs.SlotLaws as slot
use Rattle.olsketina.proofs.SheetLaws as state
use Rattle.olsketina.proofs.FeedLaws as feed
use Rattle.olsketina.proofs.ReadyLaws as ready

-- ---- tables

-- decoding what was encoded gives the table back
pub table-back : (t : RegionTable) (l : List ℕ) → length t.slots ≡ slot_count → length l ≡ table_size → table_at (with_table t 0 l) 0 ≡ t
table-back t l slots long = table.decoded t 0 l (omega (arith, long)) slots

-- after a placing, refused or accepted, the words say the table that `regions::place` hands back
pub place-back : (l : List ℕ) (n id : ℕ) (g : Rectangle) → length l ≡ table_size → table_at (place_words l n id g) 0 ≡ place_table (table_at l 0) n id g
place-back l n id g long = slot.place-back l n id g long

-- a placing changes the words of its slot and no other
pub place-alone : (l : List ℕ) (n id : ℕ) (g : Rectangle) (p : ℕ) → Outside (layout_size + slot_size * n) slot_size p → word (place_words l n id g) p ≡ word l p
place-alone l n id g p out = slot.place-alone l n id g p out

-- after a release, refused or accepted, the words say the table that `regions::release` hands back
pub release-back : (l : List ℕ) (n id len : ℕ) → length l ≡ table_size → table_at (release_words l n id len) 0 ≡ release_table (table_at l 0) n id len
release-back l n id len long = slot.release-back l n id len long

-- a release changes the words of its slot and no other; accepted, it makes them 0
pub release_alone : (l : List ℕ) (n id len p : ℕ) → Outside (layout_size + slot_size * n) slot_size p → word (release_words l n id len) p ≡ word l p
release_alone l n id len p out = slot.release_alone l n id len p out

pub release-frees : (l : List ℕ) (n id len : ℕ) → length l ≡ table_size → release_answer (table_at l 0) n id len ≡ Accepted
    → (j : ℕ) → j < slot_size → word (release_words l n id len) (layout_size + slot_size * n + j) ≡ 0
release-frees l n id len long ok j h = slot.release-frees l n id len long ok j h

-- ---- walks

-- decoding what was encoded gives the walk back
pub walk-back : (w : Walk) → walk_from (walk_words w) ≡ w
walk-back w = refl

-- ---- lookups

-- decoding what was encoded gives the counters back
pub counters-back : (c : Counters) → counters_from (counter_words c) ≡ c
counters-back c = refl

-- the ready-made words, fed to a linear run, are the ready-made settings
pub ready-back : (select : ℤ) (priority overflow underflow : Option Table) (s : LutSettings) → ready_answer select priority overflow underflow ≡ Ok s → fed_back s ≡ s
ready-back select priority overflow underflow s e = ready.ready-back select priority overflow underflow s e

-- ---- sheets

-- decoding what was encoded gives the state back
pub sheet-back : (s : Sheet) (l : List ℕ) → length s.desk.table.slots ≡ slot_count → length l ≡ state_size → sheet_from (with_sheet s l) s.lines.line.bytes ≡ s
sheet-back s l slots long = state.sheet-back s l long slots

-- an empty part leaves every word and the text, and no line ends; words are 32-bit numbers
pub empty-part : (l text : List ℕ) → word l 0 < 2 ^ 32
    → let f = fed (sheet_from l text) [] in
    (with_sheet f.sheet l ≡ l) × (f.sheet.lines.line.bytes ≡ text) × (f.read ≡ 0) × (f.given ≡ None)
empty-part l text h = feed.empty-part l text h

-- a record that is refused, as its row says, leaves the frame word and the table's words
pub refused-record : (l text part : List ℕ)
    → let f = fed (sheet_from l text) part in
    Has_refusal f.given → (p : ℕ) → frame_word ≤ p → word (with_sheet f.sheet l) p ≡ word l p
refused-record l text part r p h = feed.refused-record l text part r p h

pub refused-last : (l text : List ℕ)
    → let f = finished (sheet_from l text) in
    Has_refusal f.given → (p : ℕ) → frame_word ≤ p → word (with_sheet f.sheet l) p ≡ word l p
refused-last l text r p h = feed.refused-last l text r p h

-- however the input is cut into parts, the calls over words, begun over any, give the rows of the whole input, if it has fewer than 2^64 lines
pub however-cut-words : (h : Held) → length h.words ≡ state_size → (parts : List (List ℕ)) → length (lines_of (flatten parts)) < 2 ^ 64
    → rows_held (begun h) parts ≡ words_of (sheet (flatten parts))
however-cut-words h long parts few = feed.however-cut-words h long parts few

-- a row's words give the text of the row
pub row-words-text : (r : Row) → let w = row_words (Some r) in fields_text (word w 1) (word w 2) (pos (word w 4)) ≡ row_text r
row-words-text r = unfold row_text row_words in refl
