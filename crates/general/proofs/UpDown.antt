-- Whole numbers for linear arithmetic, which reads natural numbers alone: z is `up z` less `dn z`, one of which is 0. An order or an equation of
-- whole numbers is one of `up a + dn b` and `up b + dn a`, and `omega` goes on from there. By cases on the signs. Assumes nothing.
--     up, dn                                       what z has above 0, and below
--     ud-inj                                       equal differences are equal numbers
--     add-ud, take-ud, times-ud                    sum, difference, product
--     neg-up, neg-dn                               the parts of -z
--     up-times, dn-times                           a multiple
--     lt_z-true, lt_z-false, le_z-true, le_z-false     what a test says
--     le-lt_z, le-le_z, lt-le_z                       which way a test goes
--     le-ud, ud-le                                 the order `◌≤ℤ◌`
use Prim.Native.Nat.{ℕ, zero, suc, ◌+◌, ◌*◌, ◌≤◌, ◌<◌}
use native.Mathlib.Nat.{mul-zero, zero-mul}
use native.Mathlib.Decide.{dec_lt}
use native.Mathlib.Omega.{arith}
use mathlib.Core.Path.{◌≡◌, refl, sym, ap, subst, ◌∙◌}
use mathlib.Core.Bool.{Bool, true, false, not}
use lib.Dec.{T}
use lib.IntN.{ℤ, pos, negsuc, sub_ℕ, neg_ℤ, ◌+ℤ◌, ◌-ℤ◌, ◌*ℤ◌}
use lib.Signed.{lt_z, le_z, ◌≤ℤ◌, le_z_yes}
use borrow.Author.Tests.{lt-ltb, le-ltb, ltb-true, ltb-false, leb-true, leb-false}

-- z where it is above 0, else 0
abbrev pub up : ℤ → ℕ
up (pos n) = n
up (negsuc n) = 0

-- -z where z is below 0, else 0
abbrev pub dn : ℤ → ℕ
dn (pos n) = 0
dn (negsuc n) = suc n

-- ---- equality

pub ud-inj : (a b : ℤ) → up a + dn b ≡ up b + dn a → a ≡ b
ud-inj (pos m) (pos n) e = ap pos (omega arith)
ud-inj (pos m) (negsuc n) e = absurd (omega arith)
ud-inj (negsuc m) (pos n) e = absurd (omega arith)
ud-inj (negsuc m) (negsuc n) e = ap negsuc (omega arith)

-- ---- the operations

-- m - n, of two natural numbers
sub-ud : (m n : ℕ) → up (sub_ℕ m n) + n ≡ m + dn (sub_ℕ m n)
sub-ud m n = elim (dec_lt m n) [
  | yes h ↦ rw (lt-ltb m n h) (omega arith)
  | no h ↦ rw (le-ltb m n (omega arith)) (omega arith)
]

pub add-ud : (a b : ℤ) → up (a +ℤ b) + (dn a + dn b) ≡ up a + up b + dn (a +ℤ b)
add-ud (pos m) (pos n) = omega arith
add-ud (pos m) (negsuc n) = omega (arith, sub-ud m (suc n))
add-ud (negsuc m) (pos n) = omega (arith, sub-ud n (suc m))
add-ud (negsuc m) (negsuc n) = omega arith

pub neg-up : (b : ℤ) → up (neg_ℤ b) ≡ dn b
neg-up (pos zero) = refl
neg-up (pos (suc n)) = refl
neg-up (negsuc n) = refl

pub neg-dn : (b : ℤ) → dn (neg_ℤ b) ≡ up b
neg-dn (pos zero) = refl
neg-dn (pos (suc n)) = refl
neg-dn (negsuc n) = refl

pub take-ud : (a b : ℤ) → up (a -ℤ b) + (dn a + up b) ≡ up a + dn b + dn (a -ℤ b)
take-ud a b = omega (arith, add-ud a (neg_ℤ b), neg-up b, neg-dn b)

pub times-ud : (a b : ℤ) → up (a *ℤ b) + (up a * dn b + dn a * up b) ≡ up a * up b + dn a * dn b + dn (a *ℤ b)
times-ud (pos m) (pos n) = omega (arith, mul-zero m, zero-mul n)
times-ud (pos m) (negsuc n) = omega (arith, neg-up (pos (m * suc n)), neg-dn (pos (m * suc n)), mul-zero m, zero-mul (suc n))
times-ud (negsuc m) (pos n) = omega (arith, neg-up (pos (suc m * n)), neg-dn (pos (suc m * n)), mul-zero (suc m), zero-mul n)
times-ud (negsuc m) (negsuc n) = omega (arith, mul-zero (suc m), zero-mul (suc n))

-- by a natural number
pub up-times : (a : ℤ) (k : ℕ) → up (a *ℤ pos k) ≡ up a * k
up-times (pos m) k = refl
up-times (negsuc m) k = neg-up (pos (suc m * k)) ∙ sym (zero-mul k)

pub dn-times : (a : ℤ) (k : ℕ) → dn (a *ℤ pos k) ≡ dn a * k
dn-times (pos m) k = sym (zero-mul k)
dn-times (negsuc m) k = neg-dn (pos (suc m * k))

-- ---- tests of order

clash : {A : Type 0} → false ≡ true → A
clash e = absurd (subst (λ (t : Bool). T (not t)) e tt)

pub lt_z-true : (a b : ℤ) → lt_z a b ≡ true → up a + dn b < up b + dn a
lt_z-true (pos m) (pos n) e = omega (arith, ltb-true m n e)
lt_z-true (pos m) (negsuc n) e = clash e
lt_z-true (negsuc m) (pos n) e = omega arith
lt_z-true (negsuc m) (negsuc n) e = omega (arith, ltb-true n m e)

pub lt_z-false : (a b : ℤ) → lt_z a b ≡ false → up b + dn a ≤ up a + dn b
lt_z-false (pos m) (pos n) e = omega (arith, ltb-false m n e)
lt_z-false (pos m) (negsuc n) e = omega arith
lt_z-false (negsuc m) (pos n) e = clash (sym e)
lt_z-false (negsuc m) (negsuc n) e = omega (arith, ltb-false n m e)

pub le_z-true : (a b : ℤ) → le_z a b ≡ true → up a + dn b ≤ up b + dn a
le_z-true (pos m) (pos n) e = omega (arith, leb-true m n e)
le_z-true (pos m) (negsuc n) e = clash e
le_z-true (negsuc m) (pos n) e = omega arith
le_z-true (negsuc m) (negsuc n) e = omega (arith, leb-true n m e)

pub le_z-false : (a b : ℤ) → le_z a b ≡ false → up b + dn a < up a + dn b
le_z-false (pos m) (pos n) e = omega (arith, leb-false m n e)
le_z-false (pos m) (negsuc n) e = omega arith
le_z-false (negsuc m) (pos n) e = clash (sym e)
le_z-false (negsuc m) (negsuc n) e = omega (arith, leb-false n m e)

-- a test that did not go the other way
by-false : (t : Bool) → (t ≡ false → ⊥) → t ≡ true
by-false true f = refl
by-false false f = absurd (f refl)

by-true : (t : Bool) → (t ≡ true → ⊥) → t ≡ false
by-true true f = absurd (f refl)
by-true false f = refl

pub le-lt_z : (a b : ℤ) → up b + dn a ≤ up a + dn b → lt_z a b ≡ false
le-lt_z a b h = by-true (lt_z a b) (λ e. omega (arith, lt_z-true a b e))

pub le-le_z : (a b : ℤ) → up a + dn b ≤ up b + dn a → le_z a b ≡ true
le-le_z a b h = by-false (le_z a b) (λ e. omega (arith, le_z-false a b e))

pub lt-le_z : (a b : ℤ) → up b + dn a < up a + dn b → le_z a b ≡ false
lt-le_z a b h = by-true (le_z a b) (λ e. omega (arith, le_z-true a b e))

-- ---- the order

is_true : (t : Bool) → T t → t ≡ true
is_true true h = refl
is_true false h = absurd h

pub le-ud : {a b : ℤ} → a ≤ℤ b → up a + dn b ≤ up b + dn a
le-ud {a} {b} h = le_z-true a b (is_true (le_z a b) h.le)

pub ud-le : (a b : ℤ) → up a + dn b ≤ up b + dn a → a ≤ℤ b
ud-le a b h = le_z_yes (subst T (sym (le-le_z a b h)) tt)
