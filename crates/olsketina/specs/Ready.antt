-- The ready-made settings as arrays of words (include/olsketina.h). Refused: every array stays. Assumes nothing.
use Rattle.std.specs.Prelude.{ℕ, ◌≡◌, cond, List, [], ◌∷◌, eqb, ℤ, Option, Some, None, Result}
use Rattle.refusal.specs.declared.Fault.{Fault}
use Rattle.lut.specs.declared.XMode.{XMode}
use Rattle.lut.specs.declared.XMode.TheVariants.{Linear, Exponential}
use Rattle.lut.specs.declared.Table.{Table}
use Rattle.lut.specs.declared.Table.TheVariants.{X, Y}
use Rattle.lut.specs.declared.LutSettings.{LutSettings}
use Rattle.olsketina.specs.Answers.{stored}
use Rattle.olsketina.specs.Words.{word}
use Rattle.olsketina.specs.Tables.{says}
use Rattle.olsketina.specs.Lookups.{linear_from}

-- a priority bit: 0 names X, 1 names Y, any other word leaves it unnamed
unfoldable pub choice_named : ℕ → Option Table
choice_named w = cond (eqb w 0) (Some X) (cond (eqb w 1) (Some Y) None)

-- ---- settings as words

-- an X table's select or offset
unfoldable pub mode_number : XMode → ℤ
mode_number (Linear select) = select
mode_number (Exponential offset) = offset

abbrev pub table_word : Table → ℕ
table_word X = 0
table_word Y = 1

abbrev pub x_words : LutSettings → List ℤ
x_words s = mode_number s.x.mode ∷ s.x.start ∷ s.x.end ∷ []

abbrev pub y_words : LutSettings → List ℤ
y_words s = s.y.select ∷ s.y.start ∷ s.y.end ∷ []

abbrev pub scale_words : LutSettings → List ℤ
scale_words s = s.x.below.scale ∷ s.x.above.scale ∷ s.y.below.scale ∷ s.y.above.scale ∷ []

abbrev pub shift_words : LutSettings → List ℤ
shift_words s = s.x.below.shift ∷ s.x.above.shift ∷ s.y.below.shift ∷ s.y.above.shift ∷ []

abbrev pub priority_words : LutSettings → List ℕ
priority_words s = table_word s.priority ∷ table_word s.overflow ∷ table_word s.underflow ∷ []

-- ---- what the call gives

-- the five arrays after the call are words made of the settings, or as they were where there are none
pub record ReadyStored (ready : Result LutSettings Fault) (x y scales shifts : List ℤ) (priorities : List ℕ) (x' y' scales' shifts' : List ℤ) (priorities' : List ℕ) : Type 0 where
  pub x_stored : x' ≡ stored x_words ready x
  pub y_stored : y' ≡ stored y_words ready y
  pub scales_stored : scales' ≡ stored scale_words ready scales
  pub shifts_stored : shifts' ≡ stored shift_words ready shifts
  pub priorities_stored : priorities' ≡ stored priority_words ready priorities

-- the settings of a linear run on the words of settings
abbrev pub fed_back : LutSettings → LutSettings
fed_back s =
    linear_from (x_words s) (y_words s) (scale_words s) (shift_words s) (says (word (priority_words s) 0)) (says (word (priority_words s) 1)) (says (word (priority_words s) 2))
