-- A list made anew by position. Assumes nothing.
use Rattle.std.specs.Prelude.{ℕ, zero, suc, List, [], ◌∷◌}

-- each entry made anew from its position and its old value; the first position is i
unfoldable pub remade_from : {A : Type 0} → (ℕ → A → A) → ℕ → List A → List A
remade_from f i [] = []
remade_from f i (x ∷ xs) = f i x ∷ remade_from f (suc i) xs

-- each entry made anew from its position and its old value
unfoldable pub remade : {A : Type 0} → (ℕ → A → A) → List A → List A
unfolding remade_from
remade f xs = remade_from f zero xs

-- the list of f at the n positions from i on
unfoldable pub tabulate_from : {A : Type 0} → (ℕ → A) → ℕ → ℕ → List A
tabulate_from f i zero = []
tabulate_from f i (suc n) = f i ∷ tabulate_from f (suc i) n

-- the list of f at each position below n
unfoldable pub tabulate : {A : Type 0} → ℕ → (ℕ → A) → List A
unfolding tabulate_from
tabulate n f = tabulate_from f zero n
