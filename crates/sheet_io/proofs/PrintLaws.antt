-- The checksum of the rows that calls gave. Assumes nothing.
--     call-printed                     one call for a part, before the calls after it
--     reading-none, reading-more       no part is read, one part more
--     reading-end, reading-whole       the end of the input
--     whole-text                       the whole output
use Prim.Native.Nat.{ℕ, ◌+◌, ◌-◌, ◌^◌, ◌<◌}
use mathlib.Core.Path.{◌≡◌, refl, sym, ap, ◌∙◌}
use mathlib.Core.List.{List, [], ◌∷◌, ◌++◌, flatten, append_assoc, append-nil}
use lib.ListN.{length, take, drop}
use Rattle.lines.specs.declared.Line.{Line}
use Rattle.lines.specs.Texts.{lines_of}
use Rattle.lines.specs.Collecting.{line_text, written}
use Rattle.lines.specs.Sums.{checksum}
use Rattle.lines.proofs.HoldLaws.{written-text}
use Rattle.lines.proofs.SumLaws.{checksum-append}
use Rattle.script.specs.declared.Sheet.{Sheet}
use Rattle.script.specs.declared.Fed.{Fed}
use Rattle.script.specs.declared.Row.{Row}
use Rattle.std.proofs.Common.{Option, None, Some}
use Rattle.script.specs.Feed.{Outcome, start_sheet, fed, finished, and_then, then_fed, part_fed, whole_part, rows_of_parts}
use Rattle.script.specs.Output.{header, row_text, given_text, output, output_of_parts}
use Rattle.script.proofs.CallLaws.{part-next}
use Rattle.script.proofs.OutputLaws.{handed-over}
use Rattle.script.proofs.Claims.{output-cut}
use Rattle.sheet_io.specs.declared.Printed.{Printed}
use Rattle.sheet_io.specs.Printing.{rows_text, start_printed, calls_printed, part_printed, parts_printed, end_printed, Reading, Whole}

-- ---- calls and parts

given-printed : (sum : ℕ) (g : Option Row) (o : Outcome) → calls_printed sum (then_fed g o) ≡ calls_printed (checksum sum (given_text g)) o
unfolding and_then given_text checksum flatten
given-printed sum None o = refl
given-printed sum (Some row) o = ap (λ (s : ℕ). record { sheet = o.sheet; sum = s }) (checksum-append (row_text row) (rows_text o.rows) sum)

-- a call for a part of which `from` bytes are read, and its text written
pub call-printed : (sum : ℕ) (s : Sheet) (part : List ℕ) (from : ℕ) {f : Fed} {text : Line} {next : ℕ} → from < length part
    → f ≡ fed s (take (length part - from) (drop from part))
    → text ≡ written (given_text f.given)
    → next ≡ checksum sum (line_text text)
    → calls_printed next (part_fed (length part - (from + f.read)) f.sheet (drop (from + f.read) part)) ≡ calls_printed sum (part_fed (length part - from) s (drop from part))
call-printed sum s part from {f} {text} {next} h e t n =
    let o = part_fed (length part - (from + f.read)) f.sheet (drop (from + f.read) part) in
    let given : next ≡ checksum sum (given_text f.given) = n ∙ ap (λ (l : Line). checksum sum (line_text l)) t ∙ ap (checksum sum) (written-text (given_text f.given)) in
    ap (λ (k : ℕ). calls_printed k o) given ∙ sym (given-printed sum f.given o) ∙ ap (calls_printed sum) (sym (part-next s part from h e))

parts-snoc : (parts : List (List ℕ)) (part : List ℕ) (p : Printed) → parts_printed p (parts ++ part ∷ []) ≡ part_printed (parts_printed p parts) part
unfolding parts_printed
parts-snoc [] part p = refl
parts-snoc (first ∷ parts) part p = parts-snoc parts part (part_printed p first)

rows_text-append : (xs ys : List Row) → rows_text (xs ++ ys) ≡ rows_text xs ++ rows_text ys
unfolding flatten
rows_text-append [] ys = refl
rows_text-append (row ∷ xs) ys = ap (λ (t : List ℕ). row_text row ++ t) (rows_text-append xs ys) ∙ sym (append_assoc (row_text row) (rows_text xs) (rows_text ys))

-- the last row's text
last-text : (g : Option Row) → rows_text (and_then g []) ≡ given_text g
unfolding and_then given_text flatten
last-text None = refl
last-text (Some row) = append-nil (row_text row)

rows-printed : (parts : List (List ℕ)) (p : Printed) → (end_printed (parts_printed p parts)).sum ≡ checksum p.sum (rows_text (rows_of_parts p.sheet parts))
unfolding end_printed part_printed parts_printed rows_of_parts
rows-printed [] p = ap (checksum p.sum) (sym (last-text (finished p.sheet).given))
rows-printed (part ∷ parts) p =
    let o = whole_part p.sheet part in
    rows-printed parts (part_printed p part)
    ∙ sym (checksum-append (rows_text o.rows) (rows_text (rows_of_parts o.sheet parts)) p.sum)
    ∙ ap (checksum p.sum) (sym (rows_text-append o.rows (rows_of_parts o.sheet parts)))

parts_whole : (parts : List (List ℕ)) → (end_printed (parts_printed start_printed parts)).sum ≡ checksum 0 (output_of_parts parts)
unfolding output_of_parts
parts_whole parts =
    rows-printed parts start_printed
    ∙ sym (checksum-append header (rows_text (rows_of_parts start_sheet parts)) 0)
    ∙ rw (written-text header, handed-over (rows_of_parts start_sheet parts))

-- ---- what the program reads

pub reading-none : {p : Printed} → p ≡ start_printed → Reading p
unfolding parts_printed
reading-none e = record { parts = []; printed = e }

pub reading-more : {p q : Printed} (part : List ℕ) → Reading p → q ≡ part_printed p part → Reading q
reading-more part r e =
    record {
      parts = r.parts ++ part ∷ [];
      printed = e ∙ ap (λ (x : Printed). part_printed x part) r.printed ∙ sym (parts-snoc r.parts part start_printed);
    }

pub reading-end : (p : Printed) {last : Fed} {text : Line} {sum : ℕ} → last ≡ finished p.sheet → text ≡ written (given_text last.given)
    → sum ≡ checksum p.sum (line_text text)
    → ◌≡◌ {A = Printed} (record { sheet = last.sheet; sum = sum }) (end_printed p)
unfolding end_printed
reading-end p {last} {text} {sum} e t n = rw (n, t, written-text (given_text last.given), e)

pub reading-whole : {p q : Printed} → Reading p → q ≡ end_printed p → Whole q
reading-whole r e =
    let all = e ∙ ap end_printed r.printed in
    record { parts = r.parts; state = ap (λ (x : Printed). x.sheet) all; sum = ap (λ (x : Printed). x.sum) all ∙ parts_whole r.parts }

-- the whole output of all that was read
pub whole-text : (p : Printed) (w : Whole p) → length (lines_of (flatten w.parts)) < 2 ^ 64 → p.sum ≡ checksum 0 (output (flatten w.parts))
whole-text p w h = w.sum ∙ ap (checksum 0) (output-cut w.parts h)
