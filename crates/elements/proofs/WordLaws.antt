-- Laws of the unsigned number that bytes are, low byte first (specs/Bytes.antt). By induction on the number of bytes. Assumes nothing.
--     word_at-ext                         equal bytes are equal numbers
--     word_at-pos, word_at-neg             the bytes of a number, and of a negative one
--     word_at-one, word_at-two, word_at-lt  one byte, two bytes, and the range
use Prim.Native.Nat.{ℕ, zero, suc, ◌+◌, ◌-◌, ◌*◌, ◌/◌, ◌%◌, ◌^◌, ◌<◌, zero-le, suc-le-suc}
use mathlib.Core.Path.{◌≡◌, refl, sym, ap, ◌∙◌, subst}
use mathlib.Core.List.{List}
use native.Mathlib.Nat.{mod-one, div-one, div-div-eq-div-mul, pow-succ', pow-suc, one-le-pow}
use native.Mathlib.Omega.{arith}
use lib.Arith.{mod-mul}
use lib.IntN.{pos, negsuc}
use lib.ListN.{get_or}
use Rattle.elements.specs.Bytes.{byte_of, word_at}

plus-zero : (a : ℕ) → a + zero ≡ a
plus-zero a = omega arith

plus_suc : (a b : ℕ) → a + suc b ≡ a + 1 + b
plus_suc a b = omega arith

-- ---- equal bytes

pub word_at-ext : (e : ℕ) (l₁ l₂ : List ℕ) (a₁ a₂ : ℕ)
    → ((b : ℕ) → b < e → get_or l₁ (a₁ + b) 0 ≡ get_or l₂ (a₂ + b) 0) → word_at e l₁ a₁ ≡ word_at e l₂ a₂
unfolding word_at
word_at-ext zero l₁ l₂ a₁ a₂ h = refl
word_at-ext (suc e) l₁ l₂ a₁ a₂ h =
    let first : get_or l₁ a₁ 0 ≡ get_or l₂ a₂ 0 = at₁ (plus-zero a₁) ∙ h zero (suc-le-suc zero-le) ∙ at₂ (plus-zero a₂) in
    let rest = word_at-ext e l₁ l₂ (a₁ + 1) (a₂ + 1) (λ b k. at₁ (plus_suc a₁ b) ∙ h (suc b) (suc-le-suc k) ∙ at₂ (plus_suc a₂ b)) in
    rw (first, rest)
  where
    at₁ : {i j : ℕ} → i ≡ j → get_or l₁ j 0 ≡ get_or l₁ i 0
    at₁ e = sym (ap (λ (n : ℕ). get_or l₁ n 0) e)

    at₂ : {i j : ℕ} → i ≡ j → get_or l₂ i 0 ≡ get_or l₂ j 0
    at₂ e = ap (λ (n : ℕ). get_or l₂ n 0) e

-- ---- the bytes of a number

-- a list that holds f from `at` on: its byte there, and those behind it
module _ (e : ℕ) (l : List ℕ) (at : ℕ) (f : ℕ → ℕ) (h : (b : ℕ) → b < suc e → get_or l (at + b) 0 ≡ f b) where
  first_is : get_or l at 0 ≡ f zero
  first_is = sym (ap (λ (i : ℕ). get_or l i 0) (plus-zero at)) ∙ h zero (suc-le-suc zero-le)

  rest-is : (b : ℕ) → b < e → get_or l (at + 1 + b) 0 ≡ f (suc b)
  rest-is b k = sym (ap (λ (i : ℕ). get_or l i 0) (plus_suc at b)) ∙ h (suc b) (suc-le-suc k)

-- byte b + 1 of a number is byte b of its 256th part
next-byte : (n b : ℕ) → n / 256 ^ suc b ≡ n / 256 / 256 ^ b
next-byte n b = ap (λ (x : ℕ). n / x) (pow-succ' 256 b) ∙ sym (div-div-eq-div-mul n 256 (256 ^ b))

-- the low e + 1 bytes of a number: its low byte, and the low e bytes of its 256th part
low-bytes : (n e : ℕ) → n % 256 ^ suc e ≡ n % 256 + 256 * (n / 256 % 256 ^ e)
low-bytes n e =
    ap (λ (x : ℕ). n % x) (pow-suc 256 e)
    ∙ omega (arith, mod-mul n {m = 256 ^ e} {c = 256} (one-le-pow e 256 (omega arith)) (omega arith))

byte_of-pos-zero : (n : ℕ) → byte_of (pos n) zero ≡ n % 256
unfolding byte_of
byte_of-pos-zero n = ap (λ (x : ℕ). x % 256) (div-one n)

byte_of-pos-suc : (n b : ℕ) → byte_of (pos n) (suc b) ≡ byte_of (pos (n / 256)) b
unfolding byte_of
byte_of-pos-suc n b = ap (λ (x : ℕ). x % 256) (next-byte n b)

byte_of-neg-zero : (n : ℕ) → byte_of (negsuc n) zero ≡ 255 - n % 256
unfolding byte_of
byte_of-neg-zero n = ap (λ (x : ℕ). 255 - x % 256) (div-one n)

byte_of-neg-suc : (n b : ℕ) → byte_of (negsuc n) (suc b) ≡ byte_of (negsuc (n / 256)) b
unfolding byte_of
byte_of-neg-suc n b = ap (λ (x : ℕ). 255 - x % 256) (next-byte n b)

pub word_at-pos : (e n : ℕ) (l : List ℕ) (at : ℕ)
    → ((b : ℕ) → b < e → get_or l (at + b) 0 ≡ byte_of (pos n) b) → word_at e l at ≡ n % 256 ^ e
unfolding word_at
word_at-pos zero n l at h = sym (mod-one n)
word_at-pos (suc e) n l at h =
    let f : ℕ → ℕ = λ b. byte_of (pos n) b in
    let rest = word_at-pos e (n / 256) l (at + 1) (λ b k. rest-is e l at f h b k ∙ byte_of-pos-suc n b) in
    omega (arith, rest, first_is e l at f h, byte_of-pos-zero n, low-bytes n e)

pub word_at-neg : (e n : ℕ) (l : List ℕ) (at : ℕ)
    → ((b : ℕ) → b < e → get_or l (at + b) 0 ≡ byte_of (negsuc n) b) → word_at e l at + suc (n % 256 ^ e) ≡ 256 ^ e
unfolding word_at
word_at-neg zero n l at h = omega (arith, mod-one n)
word_at-neg (suc e) n l at h =
    let f : ℕ → ℕ = λ b. byte_of (negsuc n) b in
    let rest = word_at-neg e (n / 256) l (at + 1) (λ b k. rest-is e l at f h b k ∙ byte_of-neg-suc n b) in
    omega (arith, rest, first_is e l at f h, byte_of-neg-zero n, low-bytes n e, pow-suc 256 e)

-- ---- one byte, two bytes, the range

pub word_at-one : (l : List ℕ) (at : ℕ) → word_at 1 l at ≡ get_or l at 0
unfolding word_at
word_at-one l at = omega arith

pub word_at-two : (l : List ℕ) (at : ℕ) → word_at 2 l at ≡ get_or l at 0 + 256 * get_or l (at + 1) 0
unfolding word_at
word_at-two l at = omega arith

pub word_at-lt : (e : ℕ) (l : List ℕ) (at : ℕ) → ((b : ℕ) → b < e → get_or l (at + b) 0 < 256) → word_at e l at < 256 ^ e
unfolding word_at
word_at-lt zero l at h = omega arith
word_at-lt (suc e) l at h =
    let first = below (plus-zero at) (h zero (suc-le-suc zero-le)) in
    let rest = word_at-lt e l (at + 1) (λ b k. below (plus_suc at b) (h (suc b) (suc-le-suc k))) in
    omega (arith, first, rest, pow-suc 256 e)
  where
    below : {i j : ℕ} → i ≡ j → get_or l i 0 < 256 → get_or l j 0 < 256
    below e k = subst (λ (n : ℕ). get_or l n 0 < 256) e k
