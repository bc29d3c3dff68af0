-- Sums, and how many components are held: by rows, by pixels and by components. By induction on the number of terms. Assumes nothing.
--     total-none, total-more, total-add     no term, one more, a number of them more
--     total-same, total-le                  the same terms, and terms up to a bound
--     total-swap                            a sum of sums, the other way round
--     held_one-le, pixel_held-le, row_held-le  how many there are at most
use Prim.Native.Nat.{ℕ, zero, suc, ◌+◌, ◌*◌, ◌≤◌, ◌<◌}
use native.Mathlib.Omega.{arith}
use native.Mathlib.Numerals.{add-one}
use native.Mathlib.Nat.{mul-suc}
use mathlib.Core.Path.{◌≡◌, refl, sym, ap, ◌∙◌}
use mathlib.Core.Bool.{Bool, true, false, cond}
use mathlib.Core.List.{List}
use lib.IntN.{ℤ}
use Rattle.pixels.specs.declared.PixelSetting.{PixelSetting}
use Rattle.quantize.specs.Quantize.{limited}
use Rattle.parlour.specs.declared.Conversion.{Conversion}
use Rattle.parlour.specs.Components.{component}
use Rattle.parlour.specs.Counts.{total, held_one, pixel_held, row_held}

-- ---- sums

pub total-none : (f : ℕ → ℕ) → 0 ≡ total f 0
unfolding total
total-none f = refl

pub total-more : (f : ℕ → ℕ) (n : ℕ) → total f n + f n ≡ total f (n + 1)
unfolding total
total-more f n = ap (total f) (sym (add-one n))

pub total-add : (f : ℕ → ℕ) (m n : ℕ) → total f m + total (λ (i : ℕ). f (m + i)) n ≡ total f (m + n)
unfolding total
total-add f m zero = let e : m + 0 ≡ m = omega arith in omega (arith, ap (total f) e)
total-add f m (suc n) = let e : m + suc n ≡ suc (m + n) = omega arith in omega (arith, total-add f m n, ap (total f) e)

pub total-same : (f g : ℕ → ℕ) (n : ℕ) → ((i : ℕ) → i < n → f i ≡ g i) → total f n ≡ total g n
unfolding total
total-same f g zero e = refl
total-same f g (suc n) e = omega (arith, total-same f g n (λ i h. e i (omega arith)), e n (omega arith))

pub total-le : (f : ℕ → ℕ) (bound n : ℕ) → ((i : ℕ) → i < n → f i ≤ bound) → total f n ≤ bound * n
unfolding total
total-le f bound zero h = omega arith
total-le f bound (suc n) h = omega (arith, total-le f bound n (λ i k. h i (omega arith)), h n (omega arith), mul-suc bound n)

-- of sums, term by term
total-sum : (f g : ℕ → ℕ) (n : ℕ) → total f n + total g n ≡ total (λ (i : ℕ). f i + g i) n
unfolding total
total-sum f g zero = refl
total-sum f g (suc n) = omega (arith, total-sum f g n)

total-zero : (n : ℕ) → 0 ≡ total (λ (i : ℕ). 0) n
unfolding total
total-zero zero = refl
total-zero (suc n) = omega (arith, total-zero n)

pub total-swap : (f : ℕ → ℕ → ℕ) (m n : ℕ) → total (λ (i : ℕ). total (f i) n) m ≡ total (λ (j : ℕ). total (λ (i : ℕ). f i j) m) n
unfolding total
total-swap f zero n = total-zero n
total-swap f (suc m) n = ap (λ (k : ℕ). k + total (f m) n) (total-swap f m n) ∙ total-sum (λ (j : ℕ). total (λ (i : ℕ). f i j) m) (f m) n

-- ---- how many there are at most

one_at_most : (b : Bool) → cond b 1 0 ≤ 1
one_at_most true = omega arith
one_at_most false = omega arith

pub held_one-le : (k : Conversion) (p : ℕ) (d : ℤ) → held_one k p d ≤ 1
unfolding held_one
held_one-le k p d = one_at_most (limited d k.offset k.scale k.shift p)

module _ (image : PixelSetting) (pixels : List ℕ) (k : Conversion) (p : ℕ) where
  pub pixel_held-le : (x y : ℕ) → pixel_held image pixels k p x y ≤ image.channels
  unfolding pixel_held
  pixel_held-le x y = omega (arith, total-le (λ (n : ℕ). held_one k p (component image pixels n x y)) 1 image.channels (λ n h. held_one-le k p _))

  pub row_held-le : (y : ℕ) → row_held image pixels k p y ≤ image.channels * image.width
  unfolding row_held
  row_held-le y = total-le (λ (x : ℕ). pixel_held image pixels k p x y) image.channels image.width (λ x h. pixel_held-le x y)
