-- The logarithm, and the index of an exponential hit. Assumes nothing.
--     log-range, log-le, log-odd           its range; by the leading zeros of the number with its last bit set
--     hit-range, hit-index                 the power and the index of a hit; the index is of 0..63
use Prim.Native.Nat.{ℕ, zero, suc, ◌+◌, ◌-◌, ◌*◌, ◌/◌, ◌%◌, ◌^◌, ◌≤◌, ◌<◌}
use native.Mathlib.Nat.{pow-le-pow_right, two-pow-succ, max-eq_right}
use native.Mathlib.Decide.{ℕ_discrete, dec_lt}
use native.Mathlib.Omega.{arith}
use borrow.Author.Tests.{lt-ltb, le-ltb}
use mathlib.Core.Path.{◌≡◌, refl, ap₂, ◌∙◌}
use mathlib.Core.Bool.{Bool, true, false, cond}
use lib.Bits.{bit_or, or_step, or_zero_r}
use lib.Count.{count_leading_zeros, leading_top}
use lib.Dec.{lit<, ltb}
use lib.Pow.{pow_pos}
use lib.IntN.{ℤ, pos, negsuc, ◌-ℤ◌}
use Rattle.general.proofs.UpDown.{ud-inj, take-ud, le_z-true}
use Rattle.lut.specs.Tables.{reaches}
use Rattle.lut.specs.Numbers.{between, log_below}
use Rattle.lut.proofs.BetweenLaws.{between-ud}

log-range : (n d : ℕ) → 0 < d → d < 2 ^ n → (2 ^ log_below n d ≤ d) × (d < 2 * 2 ^ log_below n d)
unfolding log_below
log-range zero d h k = absurd (omega arith)
log-range (suc n) d h k = elim (dec_lt d (2 ^ n)) [
  | yes b ↦ rw (lt-ltb d (2 ^ n) b) (log-range n d h b)
  | no b ↦ rw (le-ltb d (2 ^ n) (omega (arith, b))) (omega (arith, b), omega arith)
]

cond-le : {a b n : ℕ} (t : Bool) → a ≤ n → b ≤ n → cond t a b ≤ n
cond-le true h k = h
cond-le false h k = k

pub log-le : (n d : ℕ) → log_below (suc n) d ≤ n
unfolding log_below
log-le zero d = cond-le (ltb d (2 ^ 0)) (omega arith) (omega arith)
log-le (suc n) d = cond-le (ltb d (2 ^ suc n)) (omega (arith, log-le n d)) (omega arith)

pow-lt-inv : (i j : ℕ) → 2 ^ i < 2 ^ j → i < j
pow-lt-inv i j h = elim (dec_lt i j) [ yes l ↦ l | no l ↦ absurd (omega (arith, pow-le-pow_right {n = 2} (lit< tt) {i = j} {j = i} (omega (arith, l)))) ]

log_below-is : (n d j : ℕ) → 2 ^ j ≤ d → d < 2 ^ suc j → j < n → log_below n d ≡ j
unfolding log_below
log_below-is zero d j h k l = absurd (omega arith)
log_below-is (suc n) d j h k l = elim (dec_lt d (2 ^ n)) [
  | yes b ↦ rw (lt-ltb d (2 ^ n) b) (log_below-is n d j h k (pow-lt-inv j n (omega arith)))
  | no b ↦ rw (le-ltb d (2 ^ n) (omega (arith, b))) (omega (arith, pow-lt-inv n (suc j) (omega (arith, b))))
]

-- ---- by the leading zeros of the number with its last bit set

log-small : (q : ℕ) → q / 2 ≡ 0 → log_below 32 q ≡ 0
unfolding log_below
log-small q e = elim (ℕ_discrete q 0) [
  | yes z ↦ rw z refl
  | no f ↦ let one : q ≡ 1 = omega (arith, e, f) in rw one refl
]

log-by : (q j : ℕ) → 2 ^ j ≤ q / 2 * 2 + 1 → q / 2 * 2 + 1 < 2 ^ suc j → j < 32 → log_below 32 q ≡ j
log-by q zero h k l = log-small q (omega arith)
log-by q (suc i) h k l = log_below-is 32 q (suc i) (omega (arith, two-pow-succ i)) (omega arith) l

odd_is : (q : ℕ) → bit_or q 1 ≡ q / 2 * 2 + 1
odd_is q = or_step q 1 ∙ ap₂ (λ (a b : ℕ). a * 2 + b) (or_zero_r (q / 2)) (max-eq_right {n = q % 2} {m = 1} (omega arith))

pub log-odd : (q : ℕ) → q < 4294967296 → (count_leading_zeros 32 (bit_or q 1) ≤ 31) × (31 - count_leading_zeros 32 (bit_or q 1) ≡ log_below 32 q)
log-odd q h =
    rw (odd_is q)
    (let t = leading_top 32 (q / 2 * 2 + 1) (omega arith) (omega arith) in
    (omega (arith, t.1), omega (arith, t.1, log-by q t.0 t.2 t.3 (omega (arith, t.1)))))

-- ---- the exponential index

reaches-pos : (offset : ℤ) (d : ℕ) → reaches offset (pos d) ≡ true → 0 < d
unfolding reaches
reaches-pos (pos k) d e = omega (arith, pow_pos k, le_z-true (pos (2 ^ k)) (pos d) e)
reaches-pos (negsuc k) d e = omega (arith, le_z-true (pos 1) (pos d) e)

-- the index, of 0..63
index_is : (offset : ℤ) (d j : ℕ) → between (negsuc 31) (pos 31) offset ≡ true → reaches offset (pos d) ≡ true → d < 2 ^ suc j → j ≤ 31
    → (n : ℕ) × (pos j -ℤ offset ≡ pos n) × (n ≤ 63)
unfolding reaches
index_is (pos k) d j b e l h =
    let low = pow-lt-inv k (suc j) (omega (arith, le_z-true (pos (2 ^ k)) (pos d) e)) in
    (j - k, ud-inj (pos j -ℤ pos k) (pos (j - k)) (omega (arith, low, take-ud (pos j) (pos k))), omega arith)
index_is (negsuc k) d j b e l h =
    (j + suc k, ud-inj (pos j -ℤ negsuc k) (pos (j + suc k)) (omega (arith, take-ud (pos j) (negsuc k))), omega (arith, (between-ud (negsuc 31) (pos 31) (negsuc k) b).0))

-- the power and the index of a hit
module _ (offset : ℤ) (valid : between (negsuc 31) (pos 31) offset ≡ true) (d : ℕ) (small : d ≤ 4294967295) (hit : reaches offset (pos d) ≡ true) where
  abbrev p : ℕ
  p = log_below 32 d

  pub hit-range : (2 ^ p ≤ d) × (d < 2 * 2 ^ p)
  hit-range = log-range 32 d (reaches-pos offset d hit) (omega arith)

  pub hit-index : (n : ℕ) × (pos p -ℤ offset ≡ pos n) × (n ≤ 63)
  hit-index = index_is offset d p valid hit (omega (arith, hit-range.1, two-pow-succ p)) (log-le 31 d)
