-- Entries written over a list, one after another (specs/Words.antt). By induction on their number. Assumes nothing.
--     overwritten-length                      the list is as long as before
--     overwritten-kept, overwritten-out       an entry that is made as it was stays, and so does one that is not written
--     overwritten-in                          an entry that is written
--     overwritten-same                        where each is made as it was, nothing changes
--     overwritten-next                        one entry more
use Prim.Native.Nat.{ℕ, zero, suc, ◌+◌, ◌≤◌, ◌<◌}
use native.Mathlib.Omega.{arith}
use native.Mathlib.Decide.{dec_le}
use native.Mathlib.Nat.{eq-or-lt_of_le, not-suc-le-zero}
use native.Mathlib.Numerals.{add-one}
use mathlib.Core.Path.{◌≡◌, refl, sym, ◌∙◌, subst}
use mathlib.Core.Logic.{⊎_elim}
use mathlib.Core.List.{List}
use lib.ListN.{length, get_or, set, length-set}
use lib.Seq.{get_or-set_same, get_or-set_other, set-get_or, ext_get_or}
use Rattle.olsketina.specs.Words.{overwritten}
use Rattle.olsketina.specs.Tables.{Outside}

module _ {A : Type 0} (d : A) (make : ℕ → A → A) (at : ℕ) (l : List A) where
  pub overwritten-length : (n : ℕ) → length (overwritten d make at n l) ≡ length l
  unfolding overwritten
  overwritten-length zero = refl
  overwritten-length (suc n) = length-set (overwritten d make at n l) (at + n) (make n (get_or l (at + n) d)) ∙ overwritten-length n

  pub overwritten-kept : (n p : ℕ) → ((i : ℕ) → i < n → at + i ≡ p → make i (get_or l p d) ≡ get_or l p d) → get_or (overwritten d make at n l) p d ≡ get_or l p d
  unfolding overwritten
  overwritten-kept zero p same = refl
  overwritten-kept (suc n) p same =
      let m = overwritten d make at n l in
      let before : get_or m p d ≡ get_or l p d = overwritten-kept n p (λ i h. same i (omega arith)) in
      let other : (p ≡ at + n → ⊥) → get_or (set m (at + n) (make n (get_or l (at + n) d))) p d ≡ get_or l p d = λ f. get_or-set_other m (at + n) p _ d f ∙ before in
      elim (dec_le (at + n) p) [
        | yes low ↦ elim (dec_le p (at + n)) [
          | yes high ↦ let e : at + n ≡ p = omega arith in rw (e, same n (omega arith) e, ← before, set-get_or m p d)
          | no f ↦ other (λ s. let z : ⊥ = omega arith in z)
        ]
        | no f ↦ other (λ s. let z : ⊥ = omega arith in z)
      ]

  pub overwritten-out : (n p : ℕ) → Outside at n p → get_or (overwritten d make at n l) p d ≡ get_or l p d
  overwritten-out n p out = overwritten-kept n p (λ i h e. absurd (out (omega arith) (omega arith)))

  pub overwritten-in : (n i : ℕ) → i < n → at + i < length l → get_or (overwritten d make at n l) (at + i) d ≡ make i (get_or l (at + i) d)
  unfolding overwritten
  overwritten-in zero i h room = absurd (not-suc-le-zero h)
  overwritten-in (suc n) i h room =
      let m = overwritten d make at n l in
      let x = make n (get_or l (at + n) d) in
      ⊎_elim
      (λ e. subst (λ (k : ℕ). get_or (set m (at + n) x) (at + k) d ≡ make k (get_or l (at + k) d)) (sym e) (get_or-set_same m (at + n) x d (omega (arith, overwritten-length n))))
      (λ lt. get_or-set_other m (at + n) (at + i) x d (λ s. let z : ⊥ = omega arith in z) ∙ overwritten-in n i lt room)
      (eq-or-lt_of_le (let k : i ≤ n = omega arith in k))

  pub overwritten-same : (n : ℕ) → ((i : ℕ) → i < n → make i (get_or l (at + i) d) ≡ get_or l (at + i) d) → overwritten d make at n l ≡ l
  overwritten-same n same =
      ext_get_or d (overwritten d make at n l) l (overwritten-length n)
      (λ p h. overwritten-kept n p (λ i k e. subst (λ (q : ℕ). make i (get_or l q d) ≡ get_or l q d) e (same i k)))

  pub overwritten-next : (n : ℕ) {m : List A} → m ≡ overwritten d make at n l → set m (at + n) (make n (get_or m (at + n) d)) ≡ overwritten d make at (n + 1) l
  unfolding overwritten
  overwritten-next n e = rw (add-one n, e, overwritten-out n (at + n) (λ a b. let z : ⊥ = omega arith in z))
