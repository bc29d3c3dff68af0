-- The text of a row, field by field, and the texts of all rows one after another. Assumes nothing.
--     written_all      bytes added to an empty line are a text written
--     fields-is        three fields added one after another
--     plain_value      a value without a minus
--     handed-over      what is handed over to be written, row by row, is the rows' text
use Prim.Native.Nat.{ℕ, zero, suc, ◌^◌, ◌≤◌, ◌<◌}
use native.Mathlib.Omega.{arith}
use mathlib.Core.Path.{◌≡◌, refl, ◌∙◌}
use mathlib.Core.Bool.{Bool, false}
use mathlib.Core.List.{List, [], ◌∷◌, map, flatten, append_assoc}
use lib.ListN.{length, length-append}
use lib.IntN.{pos}
use Rattle.lines.specs.declared.Line.{Line}
use Rattle.lines.specs.Digits.{digits, signed, numeral}
use Rattle.lines.specs.Collecting.{empty_line, added, line_text, written}
use Rattle.lines.proofs.HoldLaws.{added-append, written-added, written-text}
use Rattle.lines.proofs.DigitLaws.{digits-length, numeral-length}
use Rattle.script.specs.declared.Row.{Row}
use Rattle.script.specs.Output.{fields_text, row_text}

pub written_all : (text : List ℕ) → length text ≤ 120 → added empty_line text ≡ written text
written_all text h = written-added text [] (omega arith)

module _ (line answer value : ℕ) (minus : Bool) where
  -- the fields as they are added
  abbrev pub fields_added : Line
  fields_added = added (added (added (added (added (added empty_line (digits line)) (9 ∷ [])) (digits answer)) (9 ∷ [])) (numeral (signed minus value))) (10 ∷ [])

  fields-length : line < 2 ^ 64 → answer < 2 ^ 64 → value < 2 ^ 64 → length (fields_text line answer (signed minus value)) ≤ 120
  unfolding fields_text
  fields-length l a v = simp (fields_text, length-append) (omega (arith, digits-length line l, digits-length answer a, numeral-length minus value v))

  fields-added : fields_added ≡ added empty_line (fields_text line answer (signed minus value))
  unfolding fields_text
  fields-added = simp (added-append, append_assoc)

  pub fields-is : line < 2 ^ 64 → answer < 2 ^ 64 → value < 2 ^ 64 → fields_added ≡ written (fields_text line answer (signed minus value))
  fields-is l a v = fields-added ∙ written_all (fields_text line answer (signed minus value)) (fields-length l a v)

pub plain_value : (n : ℕ) → signed false n ≡ pos n
unfolding signed
plain_value zero = refl
plain_value (suc n) = refl

pub handed-over : (rows : List Row) → flatten (map (λ (r : Row). line_text (written (row_text r))) rows) ≡ flatten (map row_text rows)
unfolding flatten
handed-over [] = refl
handed-over (row ∷ rows) = rw (written-text (row_text row), handed-over rows)
