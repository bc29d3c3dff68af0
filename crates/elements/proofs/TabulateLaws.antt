-- Laws of a list given by position (specs/Lists.antt). By induction on its length. Assumes nothing.
--     length-tabulate     its length
--     get_d_tabulate       its entry i
--     tabulate-ext        two that agree at each position
use Prim.Native.Nat.{ℕ, zero, suc, ◌+◌, ◌<◌}
use mathlib.Core.Path.{◌≡◌, refl, sym, ap, subst, ◌∙◌}
use native.Mathlib.Nat.{le_of_suc-le-suc, not-suc-le-zero}
use native.Mathlib.Omega.{arith}
use lib.ListN.{length, get_or}
use lib.Seq.{ext_get_or}
use Rattle.elements.specs.Lists.{tabulate_from, tabulate}

module _ {A : Type 0} (f : ℕ → A) where
  length-tabulate_from : (k n : ℕ) → length (tabulate_from f k n) ≡ n
  unfolding tabulate_from
  length-tabulate_from k zero = refl
  length-tabulate_from k (suc n) = ap suc (length-tabulate_from (suc k) n)

  get_or-tabulate_from : (k n i : ℕ) (d : A) → i < n → get_or (tabulate_from f k n) i d ≡ f (k + i)
  unfolding tabulate_from
  get_or-tabulate_from k zero i d h = absurd (not-suc-le-zero h)
  get_or-tabulate_from k (suc n) zero d h = ap f (omega arith)
  get_or-tabulate_from k (suc n) (suc i) d h = get_or-tabulate_from (suc k) n i d (le_of_suc-le-suc h) ∙ ap f (omega arith)

  pub length-tabulate : (n : ℕ) → length (tabulate n f) ≡ n
  unfolding tabulate
  length-tabulate n = length-tabulate_from zero n

  pub get_d_tabulate : (n i : ℕ) (d : A) → i < n → get_or (tabulate n f) i d ≡ f i
  unfolding tabulate
  get_d_tabulate n i d h = get_or-tabulate_from zero n i d h ∙ ap f (omega arith)

-- two lists given by position that agree at each
pub tabulate-ext : {A : Type 0} (d : A) (n : ℕ) (f g : ℕ → A) → ((i : ℕ) → i < n → f i ≡ g i) → tabulate n f ≡ tabulate n g
tabulate-ext d n f g e =
    ext_get_or d (tabulate n f) (tabulate n g) (length-tabulate f n ∙ sym (length-tabulate g n))
    (λ i h.
    let hi : i < n = subst (λ (m : ℕ). i < m) (length-tabulate f n) h in
    get_d_tabulate f n i d hi ∙ e i hi ∙ sym (get_d_tabulate g n i d hi))
