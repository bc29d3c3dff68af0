-- Laws of a list made anew by position (specs/Lists.antt). By induction on the list. Assumes nothing.
--     length-remade, length-remade_from     it is as long as before
--     get_or-remade, get_or-remade_from         its entry i is made from i and the old entry
--     remade_from-append                    of two lists, one behind the other
use Prim.Native.Nat.{ℕ, zero, suc, ◌+◌, ◌<◌}
use mathlib.Core.Path.{◌≡◌, refl, ap, ◌∙◌}
use mathlib.Core.List.{List, [], ◌∷◌, ◌++◌}
use native.Mathlib.Nat.{le_of_suc-le-suc, not-suc-le-zero}
use native.Mathlib.Omega.{arith}
use lib.ListN.{length, get_or}
use Rattle.elements.specs.Lists.{remade_from, remade}

module _ {A : Type 0} (f : ℕ → A → A) where
  pub length-remade_from : (k : ℕ) (l : List A) → length (remade_from f k l) ≡ length l
  unfolding remade_from
  length-remade_from k [] = refl
  length-remade_from k (x ∷ xs) = ap suc (length-remade_from (suc k) xs)

  pub get_or-remade_from : (k : ℕ) (l : List A) (i : ℕ) (d : A) → i < length l → get_or (remade_from f k l) i d ≡ f (k + i) (get_or l i d)
  unfolding remade_from
  get_or-remade_from k [] i d h = absurd (not-suc-le-zero h)
  get_or-remade_from k (x ∷ xs) zero d h = ap (λ (n : ℕ). f n x) (omega arith)
  get_or-remade_from k (x ∷ xs) (suc i) d h = get_or-remade_from (suc k) xs i d (le_of_suc-le-suc h) ∙ ap (λ (n : ℕ). f n (get_or xs i d)) (omega arith)

  pub length-remade : (l : List A) → length (remade f l) ≡ length l
  unfolding remade
  length-remade l = length-remade_from zero l

  pub get_or-remade : (l : List A) (i : ℕ) (d : A) → i < length l → get_or (remade f l) i d ≡ f i (get_or l i d)
  unfolding remade
  get_or-remade l i d h = get_or-remade_from zero l i d h ∙ ap (λ (n : ℕ). f n (get_or l i d)) (omega arith)

  pub remade_from-append : (k : ℕ) (xs ys : List A) → remade_from f k (xs ++ ys) ≡ remade_from f k xs ++ remade_from f (k + length xs) ys
  unfolding remade_from
  remade_from-append k [] ys = ap (λ (n : ℕ). remade_from f n ys) (omega arith)
  remade_from-append k (x ∷ xs) ys =
      ap (λ (l : List A). f k x ∷ l) (remade_from-append (suc k) xs ys ∙ ap (λ (n : ℕ). remade_from f (suc k) xs ++ remade_from f n ys) (omega arith))
