-- A sheet's calls over words. Words that say a state go with it through every call, by `sheet-back`: so the rows are those of the calls over states.
-- Assumes nothing.
--     refused-record, refused-last      a refused record leaves the words of frame and table
--     empty-part                        an empty part leaves every word
--     however-cut-words                 the rows of all calls
use Prim.Native.Nat.{ℕ, zero, suc, ◌^◌, ◌≤◌, ◌<◌}
use mathlib.Core.Path.{◌≡◌, refl, sym, ap, ◌∙◌, subst}
use mathlib.Core.Bool.{Bool, true, false, cond}
use mathlib.Core.List.{List, [], ◌∷◌, map-append, flatten}
use lib.ListN.{length, drop, length-set}
use lib.Dec.{eqb}
use Rattle.refusal.specs.Checks.{leaves, Answer}
use Rattle.regions.specs.Slots.{rectangle}
use Rattle.regions.specs.Calls.{no_region}
use Rattle.lines.specs.Texts.{part_length, lines_of}
use Rattle.lines.specs.Collecting.{added, collected}
use Rattle.records.specs.declared.Record.{Record}
use Rattle.records.specs.declared.Record.TheVariants.{Frame, Stall, Cell, Leave}
use Rattle.records.specs.Records.{line_record}
use Rattle.script.specs.declared.Sheet.{Sheet}
use Rattle.script.specs.declared.Row.{Row}
use Rattle.std.specs.Prelude.{Option, Some, None, Ok, Err}
use Rattle.script.specs.declared.Fed.{Fed}
use Rattle.script.specs.declared.Desk.{Desk}
use Rattle.script.specs.Rows.{record_answer, record_done, desk_after}
use Rattle.script.specs.Sheets.{row_of, sheet}
use Rattle.script.specs.Feed.{start_sheet, desk_of, with_lines, line_ended, line_row, line_fed, fed, finished, and_then, part_fed, rows_of_parts}
use Rattle.script.proofs.Claims.{refused-changes-nothing, however-cut}
use Rattle.olsketina.specs.Sizes.{slot_count, frame_word, state_size}
use Rattle.olsketina.specs.Words.{word}
use Rattle.olsketina.specs.Sheets.{sheet_from, with_sheet, row_words, Has_refusal}
use Rattle.olsketina.specs.Feeding.{Held, held_sheet, holding, begun, row_then, part_held, rows_held, words_of}
use Rattle.olsketina.proofs.SlotLaws.{place-all}
use Rattle.olsketina.proofs.SheetLaws.{sheet-back, sheet-over, sheet-length, desk-same}

-- a call that ended no line
abbrev open_fed : Sheet → ℕ → Fed
open_fed s n = record { sheet = s; read = n; given = None }

-- ---- a refused record
ended-refused : (s : Sheet) → Has_refusal (Some (line_row s)) → desk_of (line_ended s) ≡ desk_of s
unfolding line_ended line_row row_of row_words
ended-refused s r = go (record_answer (desk_of s) (line_record s.lines.line)) refl
  where
    go : (a : Answer) → record_answer (desk_of s) (line_record s.lines.line) ≡ a → desk_after (desk_of s) (line_record s.lines.line) ≡ desk_of s
    go (Ok _) e = absurd (r (rw e))
    go (Err fault) e = (refused-changes-nothing (desk_of s) (line_record s.lines.line) {x = fault.0} {i = fault.1} e).0

fed-refused : (s : Sheet) (part : List ℕ) → Has_refusal (fed s part).given → desk_of (fed s part).sheet ≡ desk_of s
unfolding fed
fed-refused s part = go (collected s.lines part).ended
  where
    go : (b : Bool) → (let c = collected s.lines part in
        let f = cond b (line_fed (with_lines s c.lines) c.read) (open_fed (with_lines s c.lines) c.read) in Has_refusal f.given → desk_of f.sheet ≡ desk_of s)
    go true r = ended-refused (with_lines s (collected s.lines part).lines) r
    go false r = refl

finished-refused : (s : Sheet) → Has_refusal (finished s).given → desk_of (finished s).sheet ≡ desk_of s
unfolding finished
finished-refused s = go (eqb s.lines.line.length 0)
  where
    go : (b : Bool) → (let f = cond b (open_fed s 0) (line_fed s 0) in Has_refusal f.given → desk_of f.sheet ≡ desk_of s)
    go true r = refl
    go false r = ended-refused s r

pub refused-record : (l text part : List ℕ)
    → let f = fed (sheet_from l text) part in
    Has_refusal f.given → (p : ℕ) → frame_word ≤ p → word (with_sheet f.sheet l) p ≡ word l p
refused-record l text part r = desk-same (fed (sheet_from l text) part).sheet l text (fed-refused (sheet_from l text) part r)

pub refused-last : (l text : List ℕ)
    → let f = finished (sheet_from l text) in
    Has_refusal f.given → (p : ℕ) → frame_word ≤ p → word (with_sheet f.sheet l) p ≡ word l p
refused-last l text r = desk-same (finished (sheet_from l text)).sheet l text (finished-refused (sheet_from l text) r)

-- ---- an empty part
fed-empty : (s : Sheet) → fed s [] ≡ open_fed s 0
fed-empty s = unfold fed collected added part_length in refl

pub empty-part : (l text : List ℕ) → word l 0 < 2 ^ 32
    → let f = fed (sheet_from l text) [] in
    (with_sheet f.sheet l ≡ l) × (f.sheet.lines.line.bytes ≡ text) × (f.read ≡ 0) × (f.given ≡ None)
empty-part l text h = rw (fed-empty (sheet_from l text)) ((sheet-over l text h, (unfold sheet_from in refl), refl, refl))

-- ---- the number of slots stays
desk-slots : (d : Desk) (r : Option Record) → length d.table.slots ≡ slot_count → length (desk_after d r).table.slots ≡ slot_count
unfolding desk_after leaves
desk-slots d r h = go (record_answer d r)
  where
    done : (r : Option Record) → length (record_done d r).table.slots ≡ slot_count
    done (Some (Frame q)) = unfold record_done in refl
    done (Some (Stall slot w0 h0 w g id)) = unfold record_done in place-all d.table slot id (rectangle w0 h0 w g) h
    done (Some (Cell slot c g w id)) = unfold record_done in h
    done (Some (Leave slot id)) = unfold record_done in length-set d.table.slots slot no_region ∙ h
    done None = unfold record_done in h

    go : (a : Answer) → length (leaves a (record_done d r) d).table.slots ≡ slot_count
    go (Ok _) = done r
    go (Err fault) = h

fed-slots : (s : Sheet) (part : List ℕ) → length s.desk.table.slots ≡ slot_count → length (fed s part).sheet.desk.table.slots ≡ slot_count
unfolding fed
fed-slots s part h = go (collected s.lines part).ended
  where
    go : (b : Bool) → (let c = collected s.lines part in
        length (cond b (line_fed (with_lines s c.lines) c.read) (open_fed (with_lines s c.lines) c.read)).sheet.desk.table.slots ≡ slot_count)
    go true = unfold line_ended in desk-slots (desk_of s) (line_record (collected s.lines part).lines.line) h
    go false = h

-- ---- words that say a state
record Says (h : Held) (s : Sheet) : Type 0 where
  pub long : length h.words ≡ state_size
  pub slots : length s.desk.table.slots ≡ slot_count
  pub said : held_sheet h ≡ s

holding-says : (h : Held) (s : Sheet) → length h.words ≡ state_size → length s.desk.table.slots ≡ slot_count → Says (holding s h) s
holding-says h s long slots =
    record { long = sheet-length s h.words ∙ long; slots = slots; said = sheet-back s h.words long slots }

-- ---- the rows
then-words : (g : Option Row) (rows : List Row) {words : List (List ℕ)} → words ≡ words_of rows → row_then g words ≡ words_of (and_then g rows)
unfolding row_then and_then
then-words None rows e = e
then-words (Some row) rows e = ap (λ (ws : List (List ℕ)). row_words (Some row) ∷ ws) e

part-rows : (calls : ℕ) (h : Held) (s : Sheet) (part : List ℕ) → Says h s
    → ((part_held calls h part).rows ≡ words_of (part_fed calls s part).rows) × Says (part_held calls h part).held (part_fed calls s part).sheet
unfolding part_held part_fed
part-rows zero h s part w = (refl, w)
part-rows (suc calls) h s part w =
    let same : fed (held_sheet h) part ≡ fed s part = ap (λ (x : Sheet). fed x part) w.said in
    let next : Says (holding (fed s part).sheet h) (fed s part).sheet = holding-says h (fed s part).sheet w.long (fed-slots s part w.slots) in
    let rest = part-rows calls (holding (fed s part).sheet h) (fed s part).sheet (drop (fed s part).read part) next in (
      rw same (then-words (fed s part).given (part_fed calls (fed s part).sheet (drop (fed s part).read part)).rows rest.0),
      subst (λ (f : Fed). Says (part_held calls (holding f.sheet h) (drop f.read part)).held (part_fed calls (fed s part).sheet (drop (fed s part).read part)).sheet) (sym same) rest.1,
    )

rows-held : (parts : List (List ℕ)) (h : Held) (s : Sheet) → Says h s → rows_held h parts ≡ words_of (rows_of_parts s parts)
unfolding rows_held rows_of_parts
rows-held [] h s w = rw w.said (then-words (finished s).given [] refl)
rows-held (part ∷ parts) h s w =
    let first = part-rows (length part) h s part w in
    let later = rows-held parts (part_held (length part) h part).held (part_fed (length part) s part).sheet first.1 in
    rw (first.0, later) (sym (map-append (λ (r : Row). row_words (Some r)) (part_fed (length part) s part).rows (rows_of_parts (part_fed (length part) s part).sheet parts)))

pub however-cut-words : (h : Held) → length h.words ≡ state_size → (parts : List (List ℕ)) → length (lines_of (flatten parts)) < 2 ^ 64
    → rows_held (begun h) parts ≡ words_of (sheet (flatten parts))
however-cut-words h long parts few =
    rows-held parts (begun h) start_sheet (holding-says h start_sheet long (unfold start_sheet in refl)) ∙ ap words_of (however-cut parts few)
