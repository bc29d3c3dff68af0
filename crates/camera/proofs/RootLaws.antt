-- The greatest whole root. By induction on the limit. Assumes nothing.
--     root-square, root-next     its square is at or below the number, and the next square is above it
--     root_is                    it is the one number of which both hold
--     root-le, root-positive     it is at most a number whose next square is above; it is 0 of 0 alone
use Prim.Native.Nat.{ℕ, zero, suc, ◌*◌, ◌≤◌, ◌<◌, zero-le}
use native.Mathlib.Nat.{mul-le-mul}
use native.Mathlib.Decide.{dec_lt}
use native.Mathlib.Omega.{arith}
use mathlib.Core.Path.{◌≡◌, refl}
use mathlib.Core.Bool.{Bool, true, false, cond}
use lib.Dec.{leb}
use borrow.Author.Tests.{leb-true, leb-false}
use Rattle.camera.specs.Curve.{root_up_to, root}

-- what holds of each value where the test picks it holds of the one picked
picked : (P : ℕ → Type 0) (t : Bool) (a b : ℕ) → (t ≡ true → P a) → (t ≡ false → P b) → P (cond t a b)
picked P true a b h l = h refl
picked P false a b h l = l refl

square_le : (limit n : ℕ) → root_up_to limit n * root_up_to limit n ≤ n
unfolding root_up_to
square_le zero n = zero-le
square_le (suc limit) n =
    picked (λ e. e * e ≤ n) (leb (suc limit * suc limit) n) (suc limit) (root_up_to limit n) (leb-true (suc limit * suc limit) n) (λ h. square_le limit n)

next-lt : (limit n : ℕ) → n < suc limit * suc limit → n < suc (root_up_to limit n) * suc (root_up_to limit n)
unfolding root_up_to
next-lt zero n l = l
next-lt (suc limit) n l =
    picked (λ e. n < suc e * suc e) (leb (suc limit * suc limit) n) (suc limit) (root_up_to limit n) (λ h. l)
    (λ h. next-lt limit n (leb-false (suc limit * suc limit) n h))

pub root-square : (n : ℕ) → root n * root n ≤ n
unfolding root
root-square n = square_le n n

pub root-next : (n : ℕ) → n < suc (root n) * suc (root n)
unfolding root
root-next n = next-lt n n (omega (arith, mul-le-mul {n₁ = 1} {m₁ = suc n} {n₂ = suc n} {m₂ = suc n} (omega arith) (omega arith)))

-- a number whose square is at or below n is at or below one whose next square is above n
not-above : (a b n : ℕ) → a * a ≤ n → n < suc b * suc b → a ≤ b
not-above a b n h l = elim (dec_lt b a) [
  | yes k ↦ absurd (omega (arith, mul-le-mul {n₁ = suc b} {m₁ = suc b} {n₂ = a} {m₂ = a} k k))
  | no k ↦ omega (arith, k)
]

pub root_is : (n e : ℕ) → e * e ≤ n → n < suc e * suc e → root n ≡ e
root_is n e h l = omega (arith, not-above (root n) e n (root-square n) l, not-above e (root n) n h (root-next n))

pub root-le : (n b : ℕ) → n < suc b * suc b → root n ≤ b
root-le n b h = not-above (root n) b n (root-square n) h

pub root-positive : (n : ℕ) → 0 < n → 0 < root n
root-positive n h = not-above 1 (root n) n h (root-next n)
