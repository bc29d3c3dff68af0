-- The loop over the samples: the outputs and the numbers seen after each; what holds of each sample holds of all. Assumes nothing.
--     answered-next, answered-all       one more sample, every sample
--     tally-next, tally-le              the same of the numbers seen; each is at most the number of samples
--     map-ranged, count-ranged          functions that agree on samples of 32 bits
use Prim.Native.Nat.{ℕ, zero, suc, ◌+◌, ◌≤◌, ◌<◌}
use native.Mathlib.Decide.{ℕ_discrete}
use native.Mathlib.Numerals.{add-one}
use native.Mathlib.Omega.{arith}
use mathlib.Core.Path.{◌≡◌, refl, sym, ap, ap₂, ◌∙◌}
use mathlib.Core.Bool.{Bool, true, false, cond}
use mathlib.Core.List.{List, [], ◌∷◌, ◌++◌, map, map-append}
use lib.Dec.{eqb}
use lib.IntN.{ℤ, pos}
use lib.ListN.{length, get_or, set, take}
use lib.Seq.{get_or-set_same, get_or-set_other, take-suc, take-suc-set, length-take-le, take-length}
use lib.Signed.{mag}
use borrow.Author.Tests.{eq-eqb, ne_eqb}
use Rattle.lut_calls.specs.StepsLoop.{count_at, Tally, Ranged}

-- ---- the outputs

module _ (f : ℤ → ℤ) (samples outputs : List ℤ) where
  -- the first i outputs are answered, and output i is answered now
  pub answered-next : (i : ℕ) → i < length samples → {v : ℤ} → length outputs ≡ length samples → take i outputs ≡ map f (take i samples) → v ≡ f (get_or samples i (pos 0))
      → take (i + 1) (set outputs i v) ≡ map f (take (i + 1) samples)
  answered-next i h {v} e m w =
      rw (add-one i)
      (take-suc-set outputs i v (omega arith)
      ∙ ap₂ (λ (l : List ℤ) (x : ℤ). l ++ x ∷ []) m w
      ∙ sym (ap (map f) (take-suc samples i (pos 0) h) ∙ map-append f (take i samples) (get_or samples i (pos 0) ∷ [])))

  pub answered-all : {i : ℕ} → i ≡ length samples → length outputs ≡ length samples → take i outputs ≡ map f (take i samples) → outputs ≡ map f samples
  answered-all {i} e l m =
      sym (take-length outputs) ∙ ap (λ (n : ℕ). take n outputs) (l ∙ sym e) ∙ m ∙ ap (λ (n : ℕ). map f (take n samples)) e ∙ ap (map f) (take-length samples)

-- ---- the numbers seen

module _ (f : ℤ → ℕ) where
  count_next : (k : ℕ) (samples : List ℤ) (x : ℤ) → count_at f k (samples ++ x ∷ []) ≡ count_at f k samples + cond (eqb k (f x)) 1 0
  unfolding count_at
  count_next k [] x = omega arith
  count_next k (y ∷ samples) x = omega (arith, count_next k samples x)

  count_le : (k : ℕ) (samples : List ℤ) → count_at f k samples ≤ length samples
  unfolding count_at
  count_le k [] = omega arith
  count_le k (x ∷ samples) = omega (arith, count_le k samples, bit (eqb k (f x)))
    where
      bit : (b : Bool) → cond b 1 0 ≤ 1
      bit true = omega arith
      bit false = omega arith

  module _ (samples : List ℤ) (seen : List ℕ) (i : ℕ) (tally : Tally f (take i samples) seen) where
    pub tally-le : (k : ℕ) → i ≤ length samples → get_or seen k 0 ≤ i
    tally-le k h = omega (arith, tally k, count_le k (take i samples), length-take-le i samples h)

    pub tally-next : {n : ℕ} → i < length samples → n ≡ f (get_or samples i (pos 0)) → n < length seen → Tally f (take (i + 1) samples) (set seen n (get_or seen n 0 + 1))
    tally-next {n} h e l k =
        let x = get_or samples i (pos 0) in
        let more : count_at f k (take (i + 1) samples) ≡ count_at f k (take i samples) + cond (eqb k n) 1 0
        = ap (λ (m : ℕ). count_at f k (take m samples)) (add-one i) ∙ ap (count_at f k) (take-suc samples i (pos 0) h) ∙ count_next k (take i samples) x
        ∙ ap (λ (m : ℕ). count_at f k (take i samples) + cond (eqb k m) 1 0) (sym e) in
        elim (ℕ_discrete k n) [
          | yes q ↦ ap (λ (m : ℕ). get_or (set seen n (get_or seen n 0 + 1)) m 0) q ∙ get_or-set_same seen n (get_or seen n 0 + 1) 0 l ∙ ap (λ (m : ℕ). get_or seen m 0 + 1) (sym q)
              ∙ ap (λ (m : ℕ). m + 1) (tally k) ∙ sym (more ∙ ap (λ (b : Bool). count_at f k (take i samples) + cond b 1 0) (eq-eqb k n q))
          | no q ↦ get_or-set_other seen n k (get_or seen n 0 + 1) 0 q ∙ tally k
              ∙ sym (more ∙ ap (λ (b : Bool). count_at f k (take i samples) + cond b 1 0) (ne_eqb k n q) ∙ omega arith)
        ]

pub nothing_seen : (f : ℤ → ℕ) (n : ℕ) → Tally f [] (lib.ListN.replicate n 0)
unfolding count_at
nothing_seen f zero k = refl
nothing_seen f (suc n) zero = refl
nothing_seen f (suc n) (suc k) = nothing_seen f n k

-- ---- samples of 32 bits

rest : (x : ℤ) (samples : List ℤ) → Ranged (x ∷ samples) → Ranged samples
rest x samples h i l = h (suc i) (omega arith)

pub map-ranged : (f g : ℤ → ℤ) → ((x : ℤ) → mag x < 2147483648 → f x ≡ g x) → (samples : List ℤ) → Ranged samples → map f samples ≡ map g samples
map-ranged f g e [] h = refl
map-ranged f g e (x ∷ samples) h = ap₂ (λ (y : ℤ) (l : List ℤ). y ∷ l) (e x (h 0 (omega arith))) (map-ranged f g e samples (rest x samples h))

pub count-ranged : (f g : ℤ → ℕ) → ((x : ℤ) → mag x < 2147483648 → f x ≡ g x) → (k : ℕ) (samples : List ℤ) → Ranged samples → count_at f k samples ≡ count_at g k samples
unfolding count_at
count-ranged f g e k [] h = refl
count-ranged f g e k (x ∷ samples) h = ap₂ (λ (m n : ℕ). cond (eqb k m) 1 0 + n) (e x (h 0 (omega arith))) (count-ranged f g e k samples (rest x samples h))
