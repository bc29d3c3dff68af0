-- Which channels and rows of a box a nest of loops has done: all rows of the channels before n; of the channels from n to m the rows before r.
-- Assumes nothing.
--     Before, before-none, before_more    the outer loop: done before channel n
--     Rows, rows_none, rows_more          the inner loop: done before row r, of the channels from n to m
use Prim.Native.Nat.{ℕ, ◌+◌, ◌≤◌, ◌<◌}
use native.Mathlib.Omega.{arith}
use native.Mathlib.Decide.{dec_lt}
use native.Mathlib.Nat.{not-suc-le-zero, eq-or-lt_of_le}
use mathlib.Core.Path.{sym, subst}
use mathlib.Core.Logic.{⊎_elim}

abbrev pub Before : (ℕ → ℕ → Type 0) → (rows n : ℕ) → Type 0
Before R rows n = (c k : ℕ) → c < n → k < rows → R c k

abbrev pub Rows : (ℕ → ℕ → Type 0) → (n m r : ℕ) → Type 0
Rows R n m r = (c k : ℕ) → n ≤ c → c < m → k < r → R c k

module _ (R : ℕ → ℕ → Type 0) where
  pub before-none : (rows : ℕ) → Before R rows 0
  before-none rows c k hc hk = absurd (not-suc-le-zero hc)

  pub rows_none : (n m : ℕ) → Rows R n m 0
  rows_none n m c k low high hk = absurd (not-suc-le-zero hk)

-- what holds of each keeps holding
module _ (R S : ℕ → ℕ → Type 0) (keep : (c k : ℕ) → R c k → S c k) where
  pub rows_more : (n m r : ℕ) → Rows R n m r → ((c : ℕ) → n ≤ c → c < m → S c r) → Rows S n m (r + 1)
  rows_more n m r done here c k low high hk =
      ⊎_elim
      (λ s. subst (λ (x : ℕ). S c x) (sym s) (here c low high))
      (λ l. keep c k (done c k low high l))
      (eq-or-lt_of_le (omega (arith, hk)))

  pub before_more : (rows n m r : ℕ) → rows ≤ r → Before R rows n → Rows S n m r → Before S rows m
  before_more rows n m r h done more c k hc hk =
      elim (dec_lt c n) [ yes l ↦ keep c k (done c k l hk) | no f ↦ more c k (omega arith) hc (omega arith) ]
