-- Lines, numbers and digits, computed (scope paper, "The sheet program"): what a reading could get wrong. Assumes nothing.
use Prim.Native.Nat.{ℕ, ◌+◌}
use mathlib.Core.Path.{◌≡◌, refl}
use mathlib.Core.Bool.{true, false}
use mathlib.Core.List.{List, [], ◌∷◌, map}
use lib.IntN.{pos, negsuc}
use Rattle.std.proofs.Common.{None}
use Rattle.lines.specs.Texts.{before, split, without_empty_last, lines_of, fields_of}
use Rattle.lines.specs.Numbers.{is_digit, all_digits, value_after, is_empty, well_begun, number, number_of, with_minus, signed_of}
use Rattle.lines.specs.Digits.{leading_in, digits, numeral}

-- digits as bytes
abbrev text : List ℕ → List ℕ
text l = map (λ (d : ℕ). d + 48) l

-- 4294967295 and 4294967296
abbrev largest : List ℕ
largest = text (4 ∷ 2 ∷ 9 ∷ 4 ∷ 9 ∷ 6 ∷ 7 ∷ 2 ∷ 9 ∷ 5 ∷ [])

abbrev too_large : List ℕ
too_large = text (4 ∷ 2 ∷ 9 ∷ 4 ∷ 9 ∷ 6 ∷ 7 ∷ 2 ∷ 9 ∷ 6 ∷ [])

pub record Lines : Type 0 where
  -- no input has no line; one final newline adds none, two add an empty one
  pub none : lines_of [] ≡ []
  pub one : lines_of (97 ∷ 10 ∷ []) ≡ (97 ∷ []) ∷ []
  pub two : lines_of (97 ∷ 10 ∷ 10 ∷ []) ≡ (97 ∷ []) ∷ [] ∷ []
  -- a last line may lack its newline; a carriage return is a byte of its line
  pub last : lines_of (97 ∷ 13 ∷ 10 ∷ 98 ∷ []) ≡ (97 ∷ 13 ∷ []) ∷ (98 ∷ []) ∷ []
  -- a trailing tab is an empty field more
  pub tab : fields_of (97 ∷ 9 ∷ []) ≡ (97 ∷ []) ∷ [] ∷ []

pub lines : Lines
unfolding before split without_empty_last lines_of fields_of
lines = record { none = refl; one = refl; two = refl; last = refl; tab = refl }

pub record Numbers : Type 0 where
  pub empty : number_of [] ≡ None
  pub zero : number_of (text (0 ∷ [])) ≡ number false 0
  pub led : number_of (text (0 ∷ 1 ∷ [])) ≡ None
  pub greatest : number_of largest ≡ number false 4294967295
  pub over : number_of too_large ≡ None
  -- a minus only where it is asked for, before a number that is not 0
  pub unasked : number_of (45 ∷ text (1 ∷ [])) ≡ None
  pub minus : signed_of (45 ∷ largest) ≡ number true 4294967295
  pub minus_over : signed_of (45 ∷ too_large) ≡ None
  pub minus_zero : signed_of (45 ∷ text (0 ∷ [])) ≡ None
  pub minus_alone : signed_of (45 ∷ []) ≡ None
  pub plain : signed_of (text (2 ∷ 1 ∷ [])) ≡ number false 21

pub numbers : Numbers
unfolding is_digit all_digits value_after is_empty well_begun number_of with_minus signed_of
numbers =
    record { empty = refl; zero = refl; led = refl; greatest = refl; over = refl; unasked = refl; minus = refl; minus_over = refl; minus_zero = refl; minus_alone = refl; plain = refl }

pub record Digits : Type 0 where
  pub zero : digits 0 ≡ text (0 ∷ [])
  pub tens : digits 480 ≡ text (4 ∷ 8 ∷ 0 ∷ [])
  pub large : digits 18446744073709551615 ≡ text (1 ∷ 8 ∷ 4 ∷ 4 ∷ 6 ∷ 7 ∷ 4 ∷ 4 ∷ 0 ∷ 7 ∷ 3 ∷ 7 ∷ 0 ∷ 9 ∷ 5 ∷ 5 ∷ 1 ∷ 6 ∷ 1 ∷ 5 ∷ [])
  pub negative : numeral (negsuc 20) ≡ 45 ∷ text (2 ∷ 1 ∷ [])
  pub positive : numeral (pos 21) ≡ text (2 ∷ 1 ∷ [])

pub decimal : Digits
unfolding leading_in digits numeral
decimal = record { zero = refl; tens = refl; large = refl; negative = refl; positive = refl }
