-- The code's test of one element, and what a pass over the first elements found (specs/Steps.antt). By cases on the precision and the sign, and by induction
-- on how many elements have been passed. Assumes nothing.
--     read-back                                a 16-bit number as the code reads it
--     raised-int8, raised-fp16                 the code's number of an element, and whether its precision takes it
--     limit-int8, limit-other                  the least number with a bit above the low ones
--     or-below                                 the bits of two numbers
--     all_valid-none, all_valid-next             no element yet; one element more
--     all_valid-at, all_valid-all                a pass that found no fault took each element, and back
use Prim.Native.Nat.{ℕ, zero, suc, ◌+◌, ◌%◌, ◌^◌, ◌<◌, ◌≤◌}
use mathlib.Core.Path.{◌≡◌, refl, sym, ap, ◌∙◌}
use mathlib.Core.Bool.{Bool, true, not, ◌&&◌}
use mathlib.Core.List.{List}
use native.Mathlib.Nat.{not-suc-le-zero, one-le-pow}
use native.Mathlib.Decide.{dec_lt, ℕ_discrete}
use native.Mathlib.Numerals.{add-one}
use native.Mathlib.Omega.{arith}
use lib.IntN.{ℤ, pos, negsuc}
use lib.ListN.{get_or}
use lib.Bits.{bit_or, or_lt, or_add_and, and_le_l, and_le_r}
use lib.Dec.{ltb, leb}
use lib.Signed.{mag, le_z}
use borrow.Author.Tests.{lt-ltb, le-ltb, le-leb, lt-leb}
use mir.Syntax.{w16}
use mir.Val.{to_z, of_z}
use mir.Facts.{to_z-of_z}
use Rattle.general.proofs.TestLaws.{and-true}
use Rattle.elements.specs.Bytes.{byte_of, bit_pattern}
use Rattle.elements.specs.Values.{value_valid}
use Rattle.elements.specs.Steps.{all_valid, low_bits}
use Rattle.elements.proofs.ElementLaws.{value_valid-int8, value_valid-fp16}
use Rattle.elements.proofs.ValueLaws.{Valid}
use Rattle.elements.proofs.NanLaws.{is_nan-low}

-- ---- one element

pub read_back : (z : ℤ) → mag z < 2 ^ 15 → to_z w16 (of_z w16 z) ≡ z
read_back z m = to_z-of_z {w = w16} (record { sfits = m })

-- int8: the bits of an element 128 higher, by its word w
int8-number : (z : ℤ) (w : ℕ) → mag z < 32768 → w ≡ bit_pattern z → ltb ((w + 128) % 65536) 256 ≡ le_z (negsuc 127) z && le_z z (pos 127)
unfolding byte_of
int8-number (pos n) w m e = elim (dec_lt n 128) [
  | yes h ↦ rw (lt-ltb ((w + 128) % 65536) 256 (omega (arith, e)), le-leb n 127 (omega arith))
  | no h ↦ rw (le-ltb ((w + 128) % 65536) 256 (omega (arith, e)), lt-leb n 127 (omega arith))
]
int8-number (negsuc n) w m e = elim (dec_lt n 128) [
  | yes h ↦ rw (lt-ltb ((w + 128) % 65536) 256 (omega (arith, e)), le-leb n 127 (omega arith))
  | no h ↦ rw (le-ltb ((w + 128) % 65536) 256 (omega (arith, e)), lt-leb n 127 (omega arith))
]

-- fp16: the bits of an element without the sign, 1023 higher
fp16-number : (n : ℕ) → ltb (n + 1023) 32768 ≡ not (leb 31745 n)
fp16-number n = elim (dec_lt n 31745) [
  | yes h ↦ rw (lt-ltb (n + 1023) 32768 (omega arith), lt-leb 31745 n h)
  | no h ↦ rw (le-ltb (n + 1023) 32768 (omega arith), le-leb 31745 n (omega arith))
]

pub raised-int8 : (p : ℕ) (z : ℤ) (w : ℕ) → w ≡ bit_pattern z → p ≡ 0 → mag z < 32768 → ltb ((w + 128) % 65536) (2 ^ low_bits p) ≡ value_valid p z
unfolding low_bits
raised-int8 p z w e k m = rw k (int8-number z w m e ∙ sym (value_valid-int8 z))

pub raised-fp16 : (p : ℕ) (z : ℤ) (n : ℕ) → n ≡ bit_pattern z % 32768 → (p ≡ 0 → ⊥) → (p ≡ 1 → ⊥) → ltb (n + 1023) (2 ^ low_bits p) ≡ value_valid p z
unfolding low_bits
raised-fp16 zero z n e f g = absurd (f refl)
raised-fp16 (suc zero) z n e f g = absurd (g refl)
raised-fp16 (suc (suc p)) z n e f g = rw e (fp16-number (bit_pattern z % 32768) ∙ ap not (sym (is_nan-low z)) ∙ sym (value_valid-fp16 p z))

pub limit-int8 : (p : ℕ) → p ≡ 0 → 256 ≡ 2 ^ low_bits p
unfolding low_bits
limit-int8 p e = rw e

pub limit-other : (p : ℕ) → (p ≡ 0 → ⊥) → 32768 ≡ 2 ^ low_bits p
unfolding low_bits
limit-other zero f = absurd (f refl)
limit-other (suc p) f = refl

-- ---- the bits of two numbers

or-first : (a b : ℕ) → a ≤ bit_or a b
or-first a b = omega (arith, or_add_and a b, and_le_r a b)

or-second : (a b : ℕ) → b ≤ bit_or a b
or-second a b = omega (arith, or_add_and a b, and_le_l a b)

pub or-below : (a b k : ℕ) → ltb (bit_or a b) (2 ^ k) ≡ ltb a (2 ^ k) && ltb b (2 ^ k)
or-below a b k = elim (dec_lt a (2 ^ k)) [
  | yes h ↦ elim (dec_lt b (2 ^ k)) [
    | yes l ↦ rw (lt-ltb (bit_or a b) (2 ^ k) (or_lt k a b h l), lt-ltb a (2 ^ k) h, lt-ltb b (2 ^ k) l)
    | no l ↦ rw (le-ltb (bit_or a b) (2 ^ k) (omega (arith, or-second a b)), lt-ltb a (2 ^ k) h, le-ltb b (2 ^ k) (omega arith))
  ]
  | no h ↦ rw (le-ltb (bit_or a b) (2 ^ k) (omega (arith, or-first a b)), le-ltb a (2 ^ k) (omega arith))
]

-- ---- a pass over the first n elements

pub all_valid-none : (p : ℕ) (zs : List ℤ) → ltb 0 (2 ^ low_bits p) ≡ all_valid p zs 0
unfolding all_valid
all_valid-none p zs = lt-ltb 0 (2 ^ low_bits p) (one-le-pow (low_bits p) 2 (omega arith))

-- one element more: s says that the first n are valid, t that the next one is
pub all_valid-next : (p : ℕ) (zs : List ℤ) (n : ℕ) (s t : Bool) (x : ℤ) → x ≡ get_or zs n (pos 0) → s ≡ all_valid p zs n → t ≡ value_valid p x → s && t ≡ all_valid p zs (n + 1)
unfolding all_valid
all_valid-next p zs n s t x r e h =
    ap (λ (b : Bool). b && t) e
    ∙ ap (λ (b : Bool). all_valid p zs n && b) (h ∙ ap (λ (z : ℤ). value_valid p z) r)
    ∙ ap (λ (k : ℕ). all_valid p zs k) (sym (add-one n))

pub all_valid-at : (p : ℕ) (zs : List ℤ) (n : ℕ) → all_valid p zs n ≡ true → Valid p zs n
unfolding all_valid
all_valid-at p zs zero e j h = absurd (not-suc-le-zero h)
all_valid-at p zs (suc n) e j h =
    let both = and-true (all_valid p zs n) (value_valid p (get_or zs n (pos 0))) e in
    elim (ℕ_discrete j n) [ yes k ↦ rw k both.1 | no k ↦ all_valid-at p zs n both.0 j (omega (arith, k)) ]

-- and back
pub all_valid-all : (p : ℕ) (zs : List ℤ) (n : ℕ) → Valid p zs n → all_valid p zs n ≡ true
unfolding all_valid
all_valid-all p zs zero h = refl
all_valid-all p zs (suc n) h = rw (all_valid-all p zs n (λ j b. h j (omega arith)), h n (omega arith))
