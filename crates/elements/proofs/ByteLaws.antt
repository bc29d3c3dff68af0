-- Laws of an element's bytes (specs/Bytes.antt). By the laws of the unsigned number that bytes are, and cases on the sign. Assumes nothing.
--     element_bytes-cases, element_bytes-pos, element_bytes-le     one byte or two
--     element_bytes-int8, element_bytes-other                     which, by the precision
--     byte_of-lt                                                 a byte is below 256
--     signed_low, signed_high                                   the number of a word in the lower half of the range, in the upper
--     element_at-ext                                             equal bytes are equal elements
--     element_at-byte_of                                          the round trip: an element's bytes are that element
--     element_at-one, element_at-two                              the element of one byte, of two
--     element_at-within                                          it is a number of that many bytes
use Prim.Native.Nat.{ℕ, zero, suc, ◌+◌, ◌-◌, ◌*◌, ◌/◌, ◌%◌, ◌^◌, ◌<◌, ◌≤◌}
use mathlib.Core.Path.{◌≡◌, refl, ap, ◌∙◌}
use mathlib.Core.Logic.{◌⊎◌, inl, inr}
use mathlib.Core.List.{List}
use native.Mathlib.Nat.{mod-eq_of_lt, pow-suc}
use native.Mathlib.Decide.{dec_lt}
use native.Mathlib.Omega.{arith}
use lib.IntN.{ℤ, pos, negsuc}
use lib.ListN.{get_or}
use lib.Signed.{mag}
use borrow.Author.Tests.{lt-ltb, le-ltb}
use Rattle.elements.specs.Bytes.{element_bytes, byte_of, word_at, signed, element_at}
use Rattle.elements.proofs.WordLaws.{word_at-ext, word_at-pos, word_at-neg, word_at-one, word_at-two, word_at-lt}

pub element_bytes-cases : (p : ℕ) → (element_bytes p ≡ 1) ⊎ (element_bytes p ≡ 2)
unfolding element_bytes
element_bytes-cases zero = inl refl
element_bytes-cases (suc p) = inr refl

pub element_bytes-pos : (p : ℕ) → 0 < element_bytes p
unfolding element_bytes
element_bytes-pos zero = omega arith
element_bytes-pos (suc p) = omega arith

pub element_bytes-le : (p : ℕ) → element_bytes p ≤ 2
unfolding element_bytes
element_bytes-le zero = omega arith
element_bytes-le (suc p) = omega arith

pub byte_of-lt : (z : ℤ) (b : ℕ) → byte_of z b < 256
unfolding byte_of
byte_of-lt (pos n) b = omega arith
byte_of-lt (negsuc n) b = omega arith

pub signed_low : (e n : ℕ) → n < 256 ^ e / 2 → signed e n ≡ pos n
unfolding signed
signed_low e n h = rw (lt-ltb n (256 ^ e / 2) h)

pub signed_high : (e n : ℕ) → 256 ^ e / 2 ≤ n → signed e n ≡ negsuc (256 ^ e - suc n)
unfolding signed
signed_high e n h = rw (le-ltb n (256 ^ e / 2) h)

pub element_at-ext : (e : ℕ) (l₁ l₂ : List ℕ) (a₁ a₂ : ℕ)
    → ((b : ℕ) → b < e → get_or l₁ (a₁ + b) 0 ≡ get_or l₂ (a₂ + b) 0) → element_at e l₁ a₁ ≡ element_at e l₂ a₂
unfolding element_at
element_at-ext e l₁ l₂ a₁ a₂ h = ap (λ (n : ℕ). signed e n) (word_at-ext e l₁ l₂ a₁ a₂ h)

pub element_at-byte_of : (e : ℕ) (z : ℤ) (l : List ℕ) (at : ℕ)
    → mag z < 256 ^ e / 2 → ((b : ℕ) → b < e → get_or l (at + b) 0 ≡ byte_of z b) → element_at e l at ≡ z
unfolding element_at
element_at-byte_of e (pos n) l at m h =
    let word : word_at e l at ≡ n = word_at-pos e n l at h ∙ mod-eq_of_lt (omega arith) in
    ap (λ (x : ℕ). signed e x) word ∙ signed_low e n m
element_at-byte_of e (negsuc n) l at m h =
    let low : n % 256 ^ e ≡ n = mod-eq_of_lt (omega arith) in
    let word = word_at-neg e n l at h in
    signed_high e (word_at e l at) (omega (arith, low, word)) ∙ ap negsuc (omega (arith, low, word))

pub element_at-one : (l : List ℕ) (at : ℕ) → element_at 1 l at ≡ signed 1 (get_or l at 0)
unfolding element_at
element_at-one l at = ap (λ (n : ℕ). signed 1 n) (word_at-one l at)

pub element_at-two : (l : List ℕ) (at : ℕ) → element_at 2 l at ≡ signed 2 (get_or l at 0 + 256 * get_or l (at + 1) 0)
unfolding element_at
element_at-two l at = ap (λ (n : ℕ). signed 2 n) (word_at-two l at)

-- ---- the range

signed-within : (e n : ℕ) → n < 256 ^ suc e → mag (signed (suc e) n) < 256 ^ suc e / 2
signed-within e n h = elim (dec_lt n (256 ^ suc e / 2)) [
  | yes k ↦ rw (signed_low (suc e) n k) k
  | no k ↦ rw (signed_high (suc e) n (omega arith)) (omega (arith, pow-suc 256 e))
]

pub element_at-within : (e : ℕ) (l : List ℕ) (at : ℕ)
    → 0 < e → ((b : ℕ) → b < e → get_or l (at + b) 0 < 256) → mag (element_at e l at) < 256 ^ e / 2
unfolding element_at
element_at-within zero l at p h = absurd (omega arith)
element_at-within (suc e) l at p h = signed-within e (word_at (suc e) l at) (word_at-lt (suc e) l at h)

pub element_bytes-int8 : (p : ℕ) → p ≡ 0 → element_bytes p ≡ 1
unfolding element_bytes
element_bytes-int8 p e = ap element_bytes e

pub element_bytes-other : (p : ℕ) → (p ≡ 0 → ⊥) → element_bytes p ≡ 2
unfolding element_bytes
element_bytes-other zero f = absurd (f refl)
element_bytes-other (suc p) f = refl
