-- Arrays as lists. Assumes nothing.
--     length-mapped     the length of an array
--     filled_more       a list that a loop fills from the front
use Prim.Native.Nat.{ℕ, ◌+◌, ◌<◌}
use native.Mathlib.Omega.{arith}
use mathlib.Core.Path.{◌≡◌, sym, ◌∙◌}
use mathlib.Core.List.{List, map}
use lib.ListN.{length, length-map, get_or, set}
use lib.Seq.{get_or-set_same, get_or-set_other}
use borrow.Author.Count.{below_more}

-- the length of an array is told of the list of its values
pub length-mapped : {A B : Type 0} (f : A → B) (l : List A) (n : ℕ) → length (map f l) ≡ n → length l ≡ n
length-mapped f l n e = sym (length-map l f) ∙ e

-- with entry n written too, the entries below n + 1 are those of f
pub filled_more : {A : Type 0} (d : A) (f : ℕ → A) (l : List A) (n : ℕ) (v : A) → n < length l → v ≡ f n → ((k : ℕ) → k < n → get_or l k d ≡ f k)
    → (k : ℕ) → k < n + 1 → get_or (set l n v) k d ≡ f k
filled_more d f l n v h e all =
    below_more (λ k. get_or (set l n v) k d ≡ f k) n (λ k less. get_or-set_other l n k v d (λ same. omega (arith, same, less)) ∙ all k less) (get_or-set_same l n v d h ∙ e)
