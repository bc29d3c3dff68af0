-- Newton's steps to a whole square root, over any number. Assumes nothing.
--     quotient_le        the size of the number over an estimate
--     newton_above       a step from any estimate but 0 is at or above the root
--     newton-falls       a step from above the root falls
--     newton-stops       an estimate at or above the root that does not fall is the root
--     estimates-last     so the estimates end with the root
use Prim.Native.Nat.{ℕ, zero, suc, ◌+◌, ◌-◌, ◌*◌, ◌/◌, ◌≤◌, ◌<◌}
use native.Mathlib.Nat.{mul-add, add-mul, one-mul, suc-mul, mul-suc, mul_comm, mul_assoc, mul-le-mul, mul-le-mul_right, lt-div-mul-add, div-lt_iff_lt-mul, div-le_of_le-mul}
use native.Mathlib.Decide.{dec_le, dec_lt}
use native.Mathlib.Omega.{arith}
use mathlib.Core.Path.{◌≡◌, refl, sym, subst}
use mathlib.Core.Bool.{Bool, true, false, cond}
use mathlib.Core.List.{[]}
use lib.Dec.{ltb}
use borrow.Author.Tests.{ltb-true, ltb-false}
use Rattle.camera.specs.Curve.{root}
use Rattle.camera.proofs.RootLaws.{root-next, root-le}
use Rattle.curve_computed.specs.Newton.{newton, estimates, last_of}

-- the number over an estimate at or above the root is at most two above the root
pub quotient_le : (n e : ℕ) → root n ≤ e → n / e ≤ root n + 2
quotient_le n e h = div-le_of_le-mul e {m = n} {n = root n + 2}
    (omega (arith, root-next n, mul-le-mul_right (root n + 2) h, mul-add (root n) (root n) 2, suc-mul (root n) (suc (root n)), mul-suc (root n) (root n)))

-- ---- one step

-- twice a product is at most the two squares
twice-at : (a d : ℕ) → 2 * (a * (a + d)) ≤ a * a + (a + d) * (a + d)
twice-at a d = omega (arith, mul-add a a d, add-mul a d (a + d), mul-add d a d, mul_comm d a)

twice-le : (a b : ℕ) → 2 * (a * b) ≤ a * a + b * b
twice-le a b = elim (dec_le a b) [
  | yes h ↦ subst (λ (x : ℕ). 2 * (a * x) ≤ a * a + x * x) {x = a + (b - a)} {y = b} (omega (arith, h)) (twice-at a (b - a))
  | no h ↦ omega (arith, mul_comm a b, subst (λ (x : ℕ). 2 * (b * x) ≤ b * b + x * x) {x = b + (a - b)} {y = a} (omega (arith, h)) (twice-at b (a - b)))
]

-- with q = n / e and m one more than the step: n < (q + 1)·e, and e + q + 1 ≤ 2·m, so e² + (q + 1)·e ≤ 2·m·e ≤ m² + e²
next-above : (n e : ℕ) → 0 < e → n < suc (newton n e) * suc (newton n e)
unfolding newton
next-above n e h =
    let q = n / e in
    let m = suc ((e + n / e) / 2) in
    let l : e + q + 1 ≤ 2 * m = omega arith in
    omega (arith, lt-div-mul-add {a = n} {b = e} h, mul-le-mul_right e l, add-mul (e + q) 1 e, add-mul e q e, one-mul e, mul_assoc 2 m e, twice-le m e)

pub newton_above : (n e : ℕ) → 0 < e → root n ≤ newton n e
newton_above n e h = root-le n (newton n e) (next-above n e h)

pub newton-falls : (n e : ℕ) → root n < e → newton n e < e
unfolding newton
newton-falls n e h =
    let l : n < e * e = omega (arith, root-next n, mul-le-mul {n₁ = suc (root n)} {m₁ = suc (root n)} {n₂ = e} {m₂ = e} h h) in
    omega (arith, (div-lt_iff_lt-mul {k = e} {x = n} {y = e} (omega (arith, h))).1 l)

pub newton-stops : (n e : ℕ) → root n ≤ e → e ≤ newton n e → root n ≡ e
newton-stops n e h l = elim (dec_lt (root n) e) [
  | yes k ↦ absurd (omega (arith, l, newton-falls n e k))
  | no k ↦ omega (arith, h, k)
]

-- ---- all steps

module _ (n : ℕ) where
  pub estimates-last : (most none e : ℕ) → root n ≤ e → e < most → last_of none (estimates most n e) ≡ root n
  unfolding estimates last_of
  estimates-last zero none e l k = absurd (omega (arith, k))
  estimates-last (suc most) none e l k = by (ltb (newton n e) e) refl (estimates-last most e (newton n e))
    where
      by : (t : Bool) → ltb (newton n e) e ≡ t → (root n ≤ newton n e → newton n e < most → last_of e (estimates most n (newton n e)) ≡ root n)
          → last_of e (cond t (estimates most n (newton n e)) []) ≡ root n
      by true f rest = let less = ltb-true (newton n e) e f in rest (newton_above n e (omega (arith, less))) (omega (arith, k, less))
      by false f rest = sym (newton-stops n e l (omega (arith, ltb-false (newton n e) e f)))
