-- Decimal digits: how many there are, and how they are written from the last one on. By induction on the count of steps. Assumes nothing.
--     leading-none, leading_step           the digits of 0, and of a number that is not 0: those of its tenth, and the last
--     digits_le, digits-length             by a number's size; a number below 2^64 has at most 20
--     rest-room, rest-less, rest-next      the digits written from the last one on
--     numeral-plain, -zero, -minus, -length    a number with its sign
use Prim.Native.Nat.{ℕ, zero, suc, ◌+◌, ◌-◌, ◌/◌, ◌%◌, ◌^◌, ◌≤◌, ◌<◌}
use mathlib.Core.Path.{◌≡◌, refl, ap, ◌∙◌}
use mathlib.Core.Bool.{Bool, true, false, cond}
use mathlib.Core.List.{List, [], ◌∷◌, ◌++◌}
use native.Mathlib.Omega.{arith}
use native.Mathlib.Decide.{dec_le}
use lib.Dec.{eqb}
use lib.ListN.{length, drop, set, length-append, length-set}
use lib.Seq.{append_snoc, drop-cons, drop-set-lt, get_or-set_same}
use borrow.Author.Tests.{eq-eqb, ne_eqb}
use Rattle.lines.specs.Digits.{leading_in, leading, digits, signed, numeral}

-- ---- steps enough

enough : (f g n : ℕ) → n ≤ f → n ≤ g → leading_in f n ≡ leading_in g n
unfolding leading_in
enough zero zero n h k = refl
enough zero (suc g) n h k = rw (eq-eqb n 0 (omega arith))
enough (suc f) zero n h k = rw (eq-eqb n 0 (omega arith))
enough (suc f) (suc g) n h k = ap (λ (l : List ℕ). cond (eqb n 0) [] (l ++ (48 + n % 10) ∷ [])) (enough f g (n / 10) (omega arith) (omega arith))

pub leading_step : (n : ℕ) → 0 < n → leading n ≡ leading (n / 10) ++ (48 + n % 10) ∷ []
unfolding leading_in
leading_step zero h = absurd (omega arith)
leading_step (suc k) h =
    rw (ne_eqb (suc k) 0 (λ e. omega arith)) (ap (λ (l : List ℕ). l ++ (48 + suc k % 10) ∷ []) (enough k (suc k / 10) (suc k / 10) (omega arith) (omega arith)))

-- ---- how many

pub leading-none : leading 0 ≡ []
unfolding leading_in
leading-none = refl

leading_length : (k n : ℕ) → n < 10 ^ k → length (leading n) ≤ k
leading_length zero n h = let e : n ≡ 0 = omega arith in rw (e, leading-none) (omega arith)
leading_length (suc k) n h =
    elim (dec_le n 0) [
      | yes z ↦ let e : n ≡ 0 = omega arith in rw (e, leading-none) (omega arith)
      | no f ↦ rw (leading_step n (omega arith)) (omega (arith, length-append (leading (n / 10)) ((48 + n % 10) ∷ []), leading_length k (n / 10) (omega arith)))
    ]

pub digits_le : (k n : ℕ) → n / 10 < 10 ^ k → length (digits n) ≤ k + 1
unfolding digits
digits_le k n h = omega (arith, length-append (leading (n / 10)) ((48 + n % 10) ∷ []), leading_length k (n / 10) h)

pub digits-length : (n : ℕ) → n < 2 ^ 64 → length (digits n) ≤ 20
digits-length n h = omega (arith, digits_le 19 n (omega arith))

-- ---- the digits written from the last one on
module _ (text : List ℕ) (at rest : ℕ) where
  -- there is room for what is left of the number
  pub rest-room : rest < 10 ^ at → 0 < rest → 0 < at
  rest-room h r = go at h
    where
      go : (k : ℕ) → rest < 10 ^ k → 0 < k
      go zero l = absurd (omega arith)
      go (suc k) l = omega arith

  pub rest-less : rest < 10 ^ at → 0 < at → rest / 10 < 10 ^ (at - 1)
  rest-less h r = go at h r
    where
      go : (k : ℕ) → rest < 10 ^ k → 0 < k → rest / 10 < 10 ^ (k - 1)
      go zero l p = absurd (omega arith)
      go (suc k) l p = let e : suc k - 1 ≡ k = omega arith in rw e (omega arith)

  pub rest-next : 0 < rest → 0 < at → at ≤ length text → leading (rest / 10) ++ drop (at - 1) (set text (at - 1) (48 + rest % 10)) ≡ leading rest ++ drop at text
  rest-next r p h =
      let d = 48 + rest % 10 in
      let k = at - 1 in
      let e : suc k ≡ at = omega arith in
      let in-set : k < length (set text k d) = omega (arith, length-set text k d) in
      rw (leading_step rest r, append_snoc (leading (rest / 10)) d (drop at text)) (ap (λ (l : List ℕ). leading (rest / 10) ++ l)
      (drop-cons (set text k d) k 0 in-set ∙ rw (get_or-set_same text k d 0 (omega arith), drop-set-lt (suc k) text k d (omega arith), e)))

-- ---- with a sign

pub numeral-plain : (n : ℕ) → digits n ≡ numeral (signed false n)
unfolding numeral signed
numeral-plain zero = refl
numeral-plain (suc n) = refl

pub numeral-zero : (n : ℕ) → n ≡ 0 → digits n ≡ numeral (signed true n)
unfolding numeral signed
numeral-zero zero e = refl
numeral-zero (suc n) e = absurd (omega arith)

pub numeral-minus : (n : ℕ) → (n ≡ 0 → ⊥) → 45 ∷ digits n ≡ numeral (signed true n)
unfolding numeral signed
numeral-minus zero f = absurd (f refl)
numeral-minus (suc n) f = refl

pub numeral-length : (m : Bool) (n : ℕ) → n < 2 ^ 64 → length (numeral (signed m n)) ≤ 21
unfolding numeral signed
numeral-length m zero h = omega (arith, digits-length 0 h)
numeral-length true (suc n) h = omega (arith, digits-length (suc n) h)
numeral-length false (suc n) h = omega (arith, digits-length (suc n) h)
