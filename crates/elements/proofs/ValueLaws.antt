-- Laws of the checks of a list of elements (specs/Values.antt). By induction on the list. Assumes nothing.
--     Valid                                    each of the first n elements is valid
--     value_checks-valid, value_checks-least     what an accepted list, and a refused one, say of its elements
--     value_checks-all, value_checks-first       and back
--     value_checks-int16, value_checks-zeros     int16 takes every list; every precision takes zeros
--     precision_checks-unknown, precision_checks-known     an unknown code is refused first; with a known one the elements decide
use Prim.Native.Nat.{ℕ, zero, suc, ◌+◌, ◌<◌, zero-le, suc-le-suc}
use mathlib.Core.Path.{◌≡◌, sym, ap, ◌∙◌, subst, refl}
use mathlib.Core.Logic.{◌⊎◌, inl, inr, ⊎_elim}
use mathlib.Core.Bool.{Bool, true, false}
use mathlib.Core.List.{List, [], ◌∷◌}
use native.Mathlib.Nat.{le_of_suc-le-suc, not-suc-le-zero}
use native.Mathlib.Omega.{arith}
use lib.IntN.{ℤ, pos}
use lib.ListN.{length, get_or, replicate, length-replicate, get_or-replicate}
use borrow.Author.Tests.{lt-ltb, le-ltb}
use Rattle.refusal.specs.declared.Refusal.{Refusal}
use Rattle.refusal.specs.declared.Refusal.TheVariants.{Precision}
use Rattle.refusal.specs.Checks.{require_at, in_order, Answer, Accepted, Refused}
use Rattle.refusal.proofs.CheckLaws.{require_at-true, in_order-nil, in_order-next, in_order-stop, in_order-held, in_order-rest, refused-same}
use Rattle.elements.specs.Values.{value_check, value_valid, value_checks_from, value_checks, precision_checks}
use Rattle.elements.proofs.ElementLaws.{value_refusal, value_check-is, value_check-refused, value_valid-int16, zero-valid}

-- each of the first n elements is valid
abbrev pub Valid : ℕ → List ℤ → ℕ → Type 0
Valid p zs n = (j : ℕ) → j < n → value_valid p (get_or zs j (pos 0)) ≡ true

-- the check of the first element, as it is answered
module _ (p k : ℕ) (z : ℤ) (rest : List Answer) where
  first-check : in_order (value_check p k z ∷ rest) ≡ in_order (require_at k (value_refusal p) (value_valid p z) ∷ rest)
  first-check = ap (λ (a : Answer). in_order (a ∷ rest)) (value_check-is p k z)

  first-held : in_order (value_check p k z ∷ rest) ≡ Accepted → value_valid p z ≡ true
  first-held e = in_order-held k (value_refusal p) (value_valid p z) rest (sym first-check ∙ e)

  first_rest : in_order (value_check p k z ∷ rest) ≡ Accepted → in_order rest ≡ Accepted
  first_rest e = in_order-rest k (value_refusal p) (value_valid p z) rest (sym first-check ∙ e)

  first_next : value_valid p z ≡ true → in_order (value_check p k z ∷ rest) ≡ in_order rest
  first_next e = first-check ∙ in_order-next k (value_refusal p) rest e

  first-stop : value_valid p z ≡ false → in_order (value_check p k z ∷ rest) ≡ Refused (value_refusal p) k
  first-stop e = first-check ∙ in_order-stop k (value_refusal p) rest e

valid-from : (p k : ℕ) (zs : List ℤ) → in_order (value_checks_from p k zs) ≡ Accepted → Valid p zs (length zs)
unfolding value_checks_from
valid-from p k [] e i h = absurd (not-suc-le-zero h)
valid-from p k (z ∷ zs) e zero h = first-held p k z _ e
valid-from p k (z ∷ zs) e (suc i) h = valid-from p (suc k) zs (first_rest p k z _ e) i (le_of_suc-le-suc h)

all_from : (p k : ℕ) (zs : List ℤ) → Valid p zs (length zs) → in_order (value_checks_from p k zs) ≡ Accepted
unfolding value_checks_from
all_from p k [] h = in_order-nil
all_from p k (z ∷ zs) h = first_next p k z _ (h zero (suc-le-suc zero-le)) ∙ all_from p (suc k) zs (λ i b. h (suc i) (suc-le-suc b))

first-from : (p k : ℕ) (zs : List ℤ) (i : ℕ)
    → i < length zs → Valid p zs i → value_valid p (get_or zs i (pos 0)) ≡ false → in_order (value_checks_from p k zs) ≡ Refused (value_refusal p) (k + i)
unfolding value_checks_from
first-from p k [] i h before e = absurd (not-suc-le-zero h)
first-from p k (z ∷ zs) zero h before e = first-stop p k z _ e ∙ ap (λ (n : ℕ). Refused (value_refusal p) n) (omega arith)
first-from p k (z ∷ zs) (suc i) h before e =
    first_next p k z _ (before zero (suc-le-suc zero-le))
    ∙ first-from p (suc k) zs i (le_of_suc-le-suc h) (λ j b. before (suc j) (suc-le-suc b)) e
    ∙ ap (λ (n : ℕ). Refused (value_refusal p) n) (omega arith)

-- element i is the first at fault
abbrev Faulty : ℕ → List ℤ → ℕ → Type 0
Faulty p zs i = (i < length zs) × (value_valid p (get_or zs i (pos 0)) ≡ false) × Valid p zs i

-- every element is valid, or there is a first at fault
look : (p : ℕ) (zs : List ℤ) → Valid p zs (length zs) ⊎ ((i : ℕ) × Faulty p zs i)
look p [] = inl (λ i h. absurd (not-suc-le-zero h))
look p (z ∷ zs) = here (value_valid p z) refl (look p zs)
  where
    more : value_valid p z ≡ true → (n : ℕ) → Valid p zs n → Valid p (z ∷ zs) (suc n)
    more e n h zero b = e
    more e n h (suc i) b = h i (le_of_suc-le-suc b)

    here : (t : Bool) → value_valid p z ≡ t → Valid p zs (length zs) ⊎ ((i : ℕ) × Faulty p zs i)
        → Valid p (z ∷ zs) (length (z ∷ zs)) ⊎ ((i : ℕ) × Faulty p (z ∷ zs) i)
    here false e rest = inr (zero, (suc-le-suc zero-le, e, λ j b. absurd (not-suc-le-zero b)))
    here true e (inl all) = inl (more e (length zs) all)
    here true e (inr (i, w)) = inr (suc i, (suc-le-suc w.0, w.1, more e i w.2))

-- an answer is not both accepted and refused
both_ways : {a : Answer} {r : Refusal} {i : ℕ} {X : Type 0} → a ≡ Accepted → a ≡ Refused r i → X
both_ways e f = let z : ◌≡◌ {A = ℕ} 0 1 = cc in absurd (omega arith)

-- a list refused is refused as its first element at fault
same-fault : (p : ℕ) (zs : List ℤ) (r : Refusal) (i m : ℕ) → Faulty p zs m → {a : Answer} → a ≡ Refused (value_refusal p) m → a ≡ Refused r i
    → (i < length zs) × (value_check p i (get_or zs i (pos 0)) ≡ Refused r i) × ((j : ℕ) → j < i → value_check p j (get_or zs j (pos 0)) ≡ Accepted)
same-fault p zs r i m w e f =
    let both = refused-same (sym e ∙ f) in
    let same : m ≡ i = both.1 in
    let number : value_refusal p ≡ r = both.0 in
    let v : Faulty p zs i = subst (λ (n : ℕ). Faulty p zs n) same w in (
      v.0,
      value_check-refused p i (get_or zs i (pos 0)) v.1 ∙ ap (λ (x : Refusal). Refused x i) number,
      λ j h. value_check-is p j (get_or zs j (pos 0)) ∙ require_at-true j (value_refusal p) (v.2 j h),
    )

-- ---- the check of all elements

module _ (p : ℕ) (zs : List ℤ) where
  pub value_checks-valid : in_order (value_checks p zs) ≡ Accepted → Valid p zs (length zs)
  unfolding value_checks
  value_checks-valid e = valid-from p zero zs e

  pub value_checks-all : Valid p zs (length zs) → in_order (value_checks p zs) ≡ Accepted
  unfolding value_checks
  value_checks-all h = all_from p zero zs h

  pub value_checks-first : (i : ℕ)
      → i < length zs → Valid p zs i → value_valid p (get_or zs i (pos 0)) ≡ false → in_order (value_checks p zs) ≡ value_check p i (get_or zs i (pos 0))
  unfolding value_checks
  value_checks-first i h before e =
      first-from p zero zs i h before e ∙ ap (λ (n : ℕ). Refused (value_refusal p) n) (omega arith) ∙ sym (value_check-refused p i (get_or zs i (pos 0)) e)

  pub value_checks-least : (r : Refusal) (i : ℕ) → in_order (value_checks p zs) ≡ Refused r i
      → (i < length zs) × (value_check p i (get_or zs i (pos 0)) ≡ Refused r i) × ((j : ℕ) → j < i → value_check p j (get_or zs j (pos 0)) ≡ Accepted)
  value_checks-least r i e =
      ⊎_elim
      (λ all. both_ways (value_checks-all all) e)
      (λ w. same-fault p zs r i w.0 w.1 (value_checks-first w.0 w.1.0 w.1.2 w.1.1 ∙ value_check-refused p w.0 (get_or zs w.0 (pos 0)) w.1.1) e)
      (look p zs)

  pub precision_checks-unknown : 2 < p → in_order (precision_checks p zs) ≡ Refused Precision 0
  unfolding precision_checks
  precision_checks-unknown h = in_order-stop 0 Precision _ (le-ltb p 3 h)

  pub precision_checks-known : p < 3 → in_order (precision_checks p zs) ≡ in_order (value_checks p zs)
  unfolding precision_checks
  precision_checks-known h = in_order-next 0 Precision _ (lt-ltb p 3 h)

pub value_checks-int16 : (zs : List ℤ) → in_order (value_checks 1 zs) ≡ Accepted
value_checks-int16 zs = value_checks-all 1 zs (λ i h. value_valid-int16 (get_or zs i (pos 0)))

-- zeros pass
pub value_checks-zeros : (p n : ℕ) → in_order (value_checks p (replicate n (pos 0))) ≡ Accepted
value_checks-zeros p n =
    value_checks-all p (replicate n (pos 0))
    (λ i h. ap (value_valid p) (get_or-replicate n i (pos 0) (pos 0) (subst (λ (m : ℕ). i < m) (length-replicate n (pos 0)) h)) ∙ zero-valid p)
