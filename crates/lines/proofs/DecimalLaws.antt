-- Decimal digits are the number's: their value is the number, and no zero leads. By induction on the count of steps. Assumes nothing.
--     Decimal, digits_decimal      all are digits, no zero leads, and the value is the number
--     digits-read                  a number's digits are read as the number
use Prim.Native.Nat.{ℕ, zero, suc, ◌+◌, ◌-◌, ◌*◌, ◌/◌, ◌%◌, ◌≤◌, ◌<◌}
use mathlib.Core.Path.{◌≡◌, refl, ◌∙◌}
use mathlib.Core.Bool.{Bool, true, false, not, cond, ◌&&◌}
use mathlib.Core.List.{List, [], ◌∷◌, ◌++◌}
use native.Mathlib.Omega.{arith}
use lib.Dec.{eqb}
use borrow.Author.Tests.{ne_eqb, le-leb, eqb-true, eqb-false}
use Rattle.lines.specs.Numbers.{is_digit, all_digits, value_after, is_empty, well_begun, number, number_of}
use Rattle.lines.specs.Digits.{leading_in, leading, digits}

value-snoc : (h : ℕ) (xs : List ℕ) (b : ℕ) → value_after h (xs ++ b ∷ []) ≡ value_after h xs * 10 + (b - 48)
unfolding value_after
value-snoc h [] b = refl
value-snoc h (a ∷ xs) b = value-snoc (h * 10 + (a - 48)) xs b

-- one digit more, whose value is d
digit-snoc : (xs : List ℕ) (d : ℕ) → d < 10 → all_digits xs ≡ true → all_digits (xs ++ (48 + d) ∷ []) ≡ true
unfolding all_digits is_digit
digit-snoc [] d h e = rw (le-leb 48 (48 + d) (omega arith), le-leb (48 + d) 57 (omega arith))
digit-snoc (a ∷ xs) d h e = go (is_digit a) e (digit-snoc xs d h)
  where
    go : (t : Bool) → t && all_digits xs ≡ true → (all_digits xs ≡ true → all_digits (xs ++ (48 + d) ∷ []) ≡ true) → t && all_digits (xs ++ (48 + d) ∷ []) ≡ true
    go true p q = q p
    go false p q = p

-- the first digit is not 0
unfoldable no_zero : List ℕ → Bool
no_zero [] = true
no_zero (b ∷ text) = not (eqb b 48)

zero-snoc : (xs : List ℕ) (b : ℕ) → no_zero xs ≡ true → (value_after 0 xs ≡ 0 → eqb b 48 ≡ false) → no_zero (xs ++ b ∷ []) ≡ true
unfolding no_zero value_after
zero-snoc [] b e f = rw (f refl)
zero-snoc (a ∷ xs) b e f = e

record Leading (n : ℕ) (text : List ℕ) : Type 0 where
  every : all_digits text ≡ true
  first : no_zero text ≡ true
  value : value_after 0 text ≡ n

leading-is : (steps n : ℕ) → n ≤ steps → Leading n (leading_in steps n)
unfolding leading_in all_digits value_after no_zero
leading-is zero n h = record { every = refl; first = refl; value = omega arith }
leading-is (suc steps) n h = go (eqb n 0) refl (leading-is steps (n / 10) (omega arith))
  where
    go : (t : Bool) → eqb n 0 ≡ t → Leading (n / 10) (leading_in steps (n / 10)) → Leading n (cond t [] (leading_in steps (n / 10) ++ (48 + n % 10) ∷ []))
    go true e l = record { every = refl; first = refl; value = omega (arith, eqb-true n 0 e) }
    go false e l =
        record {
          every = digit-snoc (leading_in steps (n / 10)) (n % 10) (omega arith) l.every;
          first = zero-snoc (leading_in steps (n / 10)) (48 + n % 10) l.first (λ z. ne_eqb (48 + n % 10) 48 (λ q. eqb-false n 0 e (omega (arith, l.value, z, q))));
          value = value-snoc 0 (leading_in steps (n / 10)) (48 + n % 10) ∙ omega (arith, l.value);
        }

pub record Decimal (n : ℕ) (text : List ℕ) : Type 0 where
  pub every : all_digits text ≡ true
  pub begun : well_begun text ≡ true
  pub value : value_after 0 text ≡ n

begun-snoc : (xs : List ℕ) (b : ℕ) → no_zero xs ≡ true → well_begun (xs ++ b ∷ []) ≡ true
unfolding no_zero well_begun is_empty
begun-snoc [] b e = refl
begun-snoc (a ∷ []) b e = e
begun-snoc (a ∷ (c ∷ xs)) b e = e

pub digits_decimal : (n : ℕ) → Decimal n (digits n)
unfolding digits
digits_decimal n =
    let l = leading-is (n / 10) (n / 10) (omega arith) in
    record {
      every = digit-snoc (leading (n / 10)) (n % 10) (omega arith) l.every;
      begun = begun-snoc (leading (n / 10)) (48 + n % 10) l.first;
      value = value-snoc 0 (leading (n / 10)) (48 + n % 10) ∙ omega (arith, l.value);
    }

pub digits-read : (n : ℕ) → n ≤ 4294967295 → number_of (digits n) ≡ number false n
unfolding number_of
digits-read n h = let d = digits_decimal n in rw (d.begun, d.every, d.value, le-leb n 4294967295 h)
