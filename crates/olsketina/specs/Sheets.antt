-- A sheet's state and rows as arrays of words (include/olsketina.h). Any contents are a state. Assumes nothing.
use Rattle.std.specs.Prelude.{ℕ, ◌+◌, ◌*◌, ◌/◌, ◌%◌, ◌≡◌, List, [], ◌∷◌, Option, Some, None}
use Rattle.refusal.specs.Codes.{answer_code, fault_index}
use Rattle.script.specs.declared.Sheet.{Sheet}
use Rattle.script.specs.declared.Row.{Row}
use Rattle.olsketina.specs.Words.{word, overwritten}
use Rattle.olsketina.specs.Sizes.{frame_word, state_table}
use Rattle.olsketina.specs.Tables.{says, table_at, flag_word, with_table}

-- lines ended (low word, high word), length of the line in progress, whether a frame was accepted, then the table's words; beside it the line's first bytes
unfoldable pub sheet_from : List ℕ → List ℕ → Sheet
sheet_from l text =
    record { lines = record { count = word l 0 + 4294967296 * word l 1; line = record { length = word l 2; bytes = text } }; desk = record { framed = says (word l frame_word); table = table_at l state_table } }

-- its word i of the first four, over an old one: a fourth one that says the same already stays
abbrev pub progress_word : Sheet → ℕ → ℕ → ℕ
progress_word s i old = word (s.lines.count % 4294967296 ∷ s.lines.count / 4294967296 ∷ s.lines.line.length ∷ flag_word s.desk.framed old ∷ []) i

-- those four words written
abbrev pub with_progress : Sheet → List ℕ → List ℕ
with_progress s l = overwritten 0 (progress_word s) 0 state_table l

-- a state's words written, without its text
unfoldable pub with_sheet : Sheet → List ℕ → List ℕ
with_sheet s l = with_table s.desk.table state_table (with_progress s l)

-- 1, the line's number, answer, index at fault and value; all 0 where no line ended
unfoldable pub row_words : Option Row → List ℕ
row_words None = 0 ∷ 0 ∷ 0 ∷ 0 ∷ 0 ∷ []
row_words (Some row) = 1 ∷ row.line ∷ answer_code row.answer ∷ fault_index row.answer ∷ row.value ∷ []

-- the row has a refusal: its word for it is not 0
abbrev pub Has_refusal : Option Row → Type 0
Has_refusal given = word (row_words given) 2 ≡ 0 → ⊥
