-- The number that a text is, digit by digit. By induction on the text. Assumes nothing.
--     Passed                               the first digits are read: what is left decides
--     passed_none, passed-next             no digit yet; one digit more
--     value_after-le                        digits more make no number smaller
--     number-begun, -other, -over          what makes a text unreadable: its beginning, a byte that is no digit, a value over 4294967295
--     number-end                           else it is the value read
--     signed-minus, -plain                 a text where a minus may stand: begun by one, or not
use Prim.Native.Nat.{ℕ, ◌+◌, ◌-◌, ◌*◌, ◌≤◌, ◌<◌}
use mathlib.Core.Path.{◌≡◌, refl, sym, ◌∙◌}
use mathlib.Core.Bool.{Bool, true, false, ◌&&◌}
use mathlib.Core.List.{List, [], ◌∷◌}
use native.Mathlib.Nat.{le_refl}
use native.Mathlib.Numerals.{add-one}
use native.Mathlib.Omega.{arith}
use lib.ListN.{length, get_or, take, drop, drop_of_length-le}
use lib.Seq.{drop-cons}
use borrow.Author.Tests.{le-leb, lt-leb}
use Rattle.std.proofs.Common.{None}
use lib.Dec.{eqb}
use Rattle.std.specs.Cmp.Lexicographic.{pointwise}
use Rattle.std.specs.Option.{option_and_then}
use Rattle.lines.specs.Numbers.{is_digit, all_digits, value_after, well_begun, number, number_of, with_minus, signed_of}

-- the first i bytes are digits of the value `high`
pub record Passed (text : List ℕ) (high i : ℕ) : Type 0 where
  pub digits : all_digits text ≡ all_digits (drop i text)
  pub value : value_after 0 text ≡ value_after high (drop i text)

pub passed_none : (text : List ℕ) → Passed text 0 0
passed_none text = record { digits = refl; value = refl }

pub value_after-le : (high : ℕ) (text : List ℕ) → high ≤ value_after high text
unfolding value_after
value_after-le high [] = le_refl high
value_after-le high (b ∷ text) = omega (arith, value_after-le (high * 10 + (b - 48)) text)

module _ (text : List ℕ) (high i : ℕ) (p : Passed text high i) where
  pub passed-next : i < length text → is_digit (get_or text i 0) ≡ true → Passed text (high * 10 + (get_or text i 0 - 48)) (i + 1)
  unfolding all_digits value_after
  passed-next h d =
      record {
        digits = p.digits ∙ rw (drop-cons text i 0 h, d, add-one i);
        value = p.value ∙ rw (drop-cons text i 0 h, add-one i);
      }

  module _ (w : well_begun text ≡ true) where
    pub number-other : i < length text → is_digit (get_or text i 0) ≡ false → number_of text ≡ None
    unfolding number_of all_digits
    number-other h d = rw (w, p.digits, drop-cons text i 0 h, d)

    pub number-end : length text ≤ i → high ≤ 4294967295 → number_of text ≡ number false high
    unfolding number_of all_digits value_after
    number-end h m = rw (w, p.digits, p.value, drop_of_length-le text {i = i} h, le-leb high 4294967295 m)

pub number-begun : (text : List ℕ) → well_begun text ≡ false → number_of text ≡ None
unfolding number_of
number-begun text w = rw w

over : (digits : Bool) (text : List ℕ) → 4294967295 < value_after 0 text → all_digits text ≡ digits → well_begun text ≡ true → number_of text ≡ None
unfolding number_of
over true text v d w = rw (w, d, lt-leb (value_after 0 text) 4294967295 v)
over false text v d w = rw (w, d)

pub number-over : (text : List ℕ) (high i : ℕ) → Passed text high i → well_begun text ≡ true → 4294967295 < high → number_of text ≡ None
number-over text high i p w h =
    over (all_digits text) text (rw p.value (omega (arith, value_after-le high (drop i text)))) refl w

-- ---- where a minus may stand

and-true : (t : Bool) → t && true ≡ t
and-true true = refl
and-true false = refl

pub signed-minus : (text : List ℕ) → pointwise eqb (take 1 text) (45 ∷ []) ≡ true → signed_of text ≡ option_and_then with_minus (number_of (drop 1 text))
unfolding signed_of
signed-minus [] h = cc
signed-minus (b ∷ text) h = let minus : eqb b 45 ≡ true = sym (and-true (eqb b 45)) ∙ h in rw minus

pub signed-plain : (text : List ℕ) → pointwise eqb (take 1 text) (45 ∷ []) ≡ false → signed_of text ≡ number_of text
unfolding signed_of number_of well_begun
signed-plain [] h = refl
signed-plain (b ∷ text) h = let plain : eqb b 45 ≡ false = sym (and-true (eqb b 45)) ∙ h in rw plain
