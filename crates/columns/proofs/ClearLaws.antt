-- Bytes cleared (specs/Blocks.antt), byte by byte, and as zeros written. Assumes nothing.
--     cleared-in, cleared-out     a byte that is cleared, one that is not; where-is says which
--     cleared-length              the buffer keeps its length
--     cleared-past                no byte
--     cleared-filled              the bytes written over by zeros
use Prim.Native.Nat.{ℕ, ◌+◌, ◌-◌, ◌≤◌, ◌<◌, min}
use native.Mathlib.Omega.{arith}
use native.Mathlib.Decide.{dec_lt}
use mathlib.Core.Path.{◌≡◌, refl, sym, ap, subst, ◌∙◌}
use mathlib.Core.Logic.{◌⊎◌, inl, inr, ⊎_elim}
use mathlib.Core.List.{List, ◌++◌}
use lib.ListN.{length, get_or, take, drop, replicate, get_or-eq_default, get_or-append, length-append, length-drop, length-replicate}
use lib.Seq.{ext_get_or}
use Rattle.std.proofs.lemmas.List.{get_or-replicate, get_or-take, get_or-drop, get_or-append_right, length-take-le}
use borrow.Author.Tests.{lt-ltb, le-ltb, le-leb, lt-leb}
use Rattle.elements.proofs.ListLaws.{length-remade, get_or-remade}
use Rattle.columns.specs.Blocks.{cleared}

pub cleared-length : (at n : ℕ) (l : List ℕ) → length (cleared at n l) ≡ length l
unfolding cleared
cleared-length at n l = length-remade _ l

pub cleared-in : (at n : ℕ) (l : List ℕ) (p : ℕ) → p < length l → at ≤ p → p < at + n → get_or (cleared at n l) p 0 ≡ 0
unfolding cleared
cleared-in at n l p lt low high = get_or-remade _ l p 0 lt ∙ rw (le-leb at p low, lt-ltb p (at + n) high)

kept : (at n : ℕ) (l : List ℕ) (p : ℕ) → p < length l → (p < at) ⊎ (at + n ≤ p) → get_or (cleared at n l) p 0 ≡ get_or l p 0
unfolding cleared
kept at n l p lt (inl h) = get_or-remade _ l p 0 lt ∙ rw (lt-leb at p h)
kept at n l p lt (inr h) = get_or-remade _ l p 0 lt ∙ rw (le-leb at p (omega arith), le-ltb p (at + n) h)

pub cleared-out : (at n : ℕ) (l : List ℕ) (p : ℕ) → (p < at) ⊎ (at + n ≤ p) → get_or (cleared at n l) p 0 ≡ get_or l p 0
cleared-out at n l p o = elim (dec_lt p (length l)) [
  | yes lt ↦ kept at n l p lt o
  | no f ↦ get_or-eq_default (cleared at n l) 0 (omega (arith, cleared-length at n l)) ∙ sym (get_or-eq_default l 0 (omega arith))
]

-- where byte p lies
pub where-is : (at n p : ℕ) → ((at ≤ p) × (p < at + n)) ⊎ ((p < at) ⊎ (at + n ≤ p))
where-is at n p = elim (dec_lt p at) [ yes h ↦ inr (inl h) | no f ↦ elim (dec_lt p (at + n)) [ yes h ↦ inl (omega arith, h) | no g ↦ inr (inr (omega arith)) ] ]

-- a list with those bytes is the buffer cleared
cleared-unique : (at n : ℕ) (l after : List ℕ) → length after ≡ length l
    → ((p : ℕ) → p < length l → at ≤ p → p < at + n → get_or after p 0 ≡ 0)
    → ((p : ℕ) → p < length l → (p < at) ⊎ (at + n ≤ p) → get_or after p 0 ≡ get_or l p 0) → after ≡ cleared at n l
cleared-unique at n l after long hit miss =
    ext_get_or 0 after (cleared at n l) (long ∙ sym (cleared-length at n l))
    (λ p h. let lt : p < length l = subst (λ (m : ℕ). p < m) long h in
    ⊎_elim
    (λ i. hit p lt i.0 i.1 ∙ sym (cleared-in at n l p lt i.0 i.1))
    (λ o. miss p lt o ∙ sym (cleared-out at n l p o))
    (where-is at n p))

pub cleared-past : (at n : ℕ) (l : List ℕ) → length l ≤ at → l ≡ cleared at n l
cleared-past at n l h = cleared-unique at n l l refl (λ p lt low high. absurd (omega arith)) (λ p lt o. refl)

-- the bytes from `at` on written over by zeros
module _ (at m : ℕ) (l : List ℕ) (room : at + m ≤ length l) where
  filled : List ℕ
  filled = take at l ++ (replicate m 0 ++ drop m (drop at l))

  head-long : length (take at l) ≡ at
  head-long = length-take-le at l (omega arith)

  filled-low : (p : ℕ) → p < at → get_or filled p 0 ≡ get_or l p 0
  unfolding filled
  filled-low p h = get_or-append (take at l) (replicate m 0 ++ drop m (drop at l)) 0 p (omega (arith, head-long)) ∙ get_or-take at l p 0 h

  filled-from : (p : ℕ) → at ≤ p → get_or filled p 0 ≡ get_or (replicate m 0 ++ drop m (drop at l)) (p - at) 0
  unfolding filled
  filled-from p h = get_or-append_right (take at l) (replicate m 0 ++ drop m (drop at l)) at p 0 head-long h

  filled-in : (p : ℕ) → at ≤ p → p < at + m → get_or filled p 0 ≡ 0
  filled-in p low high =
      filled-from p low
      ∙ get_or-append (replicate m 0) (drop m (drop at l)) 0 (p - at) (omega (arith, length-replicate {A = ℕ} m 0))
      ∙ get_or-replicate m (p - at) 0 0 (omega arith)

  filled-high : (p : ℕ) → at + m ≤ p → get_or filled p 0 ≡ get_or l p 0
  filled-high p h =
      let q : at + (m + (p - at - m)) ≡ p = omega arith in
      filled-from p (omega arith)
      ∙ get_or-append_right (replicate m 0) (drop m (drop at l)) m (p - at) 0 (length-replicate {A = ℕ} m 0) (omega arith)
      ∙ get_or-drop m (drop at l) (p - at - m) 0
      ∙ get_or-drop at l (m + (p - at - m)) 0
      ∙ ap (λ (x : ℕ). get_or l x 0) q

  filled-length : length filled ≡ length l
  unfolding filled
  filled-length = simp (length-append, length-replicate, length-drop) (omega (arith, head-long))

pub cleared-filled : (at m n : ℕ) (z l : List ℕ) → at < length l → z ≡ replicate m 0 → m ≡ min n (length l - at) → take at l ++ (z ++ drop m (drop at l)) ≡ cleared at n l
unfolding filled
cleared-filled at m n z l some zeros is =
    let room : at + m ≤ length l = omega arith in
    ap (λ (y : List ℕ). take at l ++ (y ++ drop m (drop at l))) zeros
    ∙ cleared-unique at n l (filled at m l room) (filled-length at m l room)
    (λ p lt low high. filled-in at m l room p low (omega arith))
    (λ p lt o. ⊎_elim (λ h. filled-low at m l room p h) (λ h. filled-high at m l room p (omega arith)) o)
