-- Numbers in a text (scope paper, "The sheet program"). Assumes nothing.
use Rattle.std.specs.Prelude.{ℕ, ◌+◌, ◌-◌, ◌*◌, Bool, true, false, not, cond, ◌&&◌, ◌||◌, List, [], ◌∷◌, leb, eqb, length, Option, None, Some}
use Rattle.std.specs.Option.{option_and_then}
use Rattle.lines.specs.declared.Number.{Number}
use Rattle.lines.specs.declared.Numbers.{Numbers}
use Rattle.lines.specs.Texts.{padded, parts_behind}

-- ---- one number

unfoldable pub is_digit : ℕ → Bool
is_digit b = leb 48 b && leb b 57

unfoldable pub all_digits : List ℕ → Bool
all_digits [] = true
all_digits (b ∷ text) = is_digit b && all_digits text

-- the value of digits after those whose value is `high`
unfoldable pub value_after : ℕ → List ℕ → ℕ
value_after high [] = high
value_after high (b ∷ text) = value_after (high * 10 + (b - 48)) text

unfoldable pub is_empty : List ℕ → Bool
is_empty [] = true
is_empty (b ∷ text) = false

-- no leading zero, save 0 itself
unfoldable pub well_begun : List ℕ → Bool
well_begun [] = false
well_begun (b ∷ text) = is_empty text || not (eqb b 48)

-- the number of a sign and a value
abbrev pub number : Bool → ℕ → Option Number
number minus value = Some (record { minus = minus; value = value })

-- digits up to 4294967295, no leading zero save 0 itself
unfoldable pub number_of : List ℕ → Option Number
number_of text = cond (well_begun text && all_digits text && leb (value_after 0 text) 4294967295) (number false (value_after 0 text)) None

-- a minus stands before a number that is not 0
unfoldable pub with_minus : Number → Option Number
with_minus n = cond (eqb n.value 0) None (number true n.value)

-- a number where a minus may stand before it
unfoldable pub signed_of : List ℕ → Option Number
signed_of [] = None
signed_of (b ∷ text) = cond (eqb b 45) (option_and_then with_minus (number_of text)) (number_of (b ∷ text))

-- ---- the numbers of fields

-- a number before others, if all of them are numbers
unfoldable pub and_number : Option Number → Option (List ℕ) → Option (List ℕ)
and_number None rest = None
and_number (Some n) None = None
and_number (Some n) (Some ns) = Some (n.value ∷ ns)

-- the list of the fields' numbers, if all fields are numbers
unfoldable pub listed : List (List ℕ) → Option (List ℕ)
listed [] = Some []
listed (field ∷ fields) = and_number (number_of field) (listed fields)

-- at most seven numbers as a table, 0 behind them
unfoldable pub in_table : Option (List ℕ) → Option Numbers
in_table None = None
in_table (Some ns) = cond (leb (length ns) 7) (Some (record { count = length ns; values = padded 7 ns })) None

-- the numbers of fields: none if a field is no number, or there are over seven
unfoldable pub numbers_of : List (List ℕ) → Option Numbers
numbers_of fields = in_table (listed fields)

-- the numbers behind a field, from the text that follows it
abbrev pub numbers_behind : List ℕ → Option Numbers
numbers_behind rest = numbers_of (parts_behind 9 rest)
