-- The first part of a text, and the parts behind it, over the separator. By induction on the text. Assumes nothing.
--     part_length-le                       it ends in the text
--     part_length-position                 it ends where `position` finds the separator, or at the end
--     split-first                         a text's parts: the first, and those behind it
--     parts_behind-end                     no part is left
--     part-whole                          the part of a text from a byte to the end
--     NextPart, next-at, next-part        the part after a separator, and those behind it
use Prim.Native.Nat.{ℕ, zero, suc, ◌+◌, ◌-◌, ◌≤◌, ◌<◌, zero-le, suc-le-suc}
use mathlib.Core.Path.{◌≡◌, refl, ap, ◌∙◌}
use mathlib.Core.Bool.{Bool, true, false, cond}
use mathlib.Core.List.{List, [], ◌∷◌}
use native.Mathlib.Numerals.{add-one}
use native.Mathlib.Omega.{arith}
use lib.Dec.{eqb}
use lib.ListN.{length, take, drop, length-drop, drop_of_length-le}
use lib.Seq.{drop-cons, drop-drop, take_all}
use Rattle.std.specs.List.{position, position_or_len}
use Rattle.std.specs.Option.{unwrap_or}
use Rattle.std.proofs.lemmas.List.Recursion.{is_position_or_len}
use Rattle.std.proofs.lemmas.Bool.Decides.{nat_tests}
use Rattle.lines.specs.Texts.{before, split, part_length, parts_behind}

-- a part up to the end is all that is left
pub part-whole : (text : List ℕ) (i : ℕ) → take (length text - i) (drop i text) ≡ drop i text
part-whole text i = take_all (length text - i) (drop i text) (omega (arith, length-drop i text))

module _ (s : ℕ) where
  -- ---- the first part

  le_step : (t : Bool) (m n : ℕ) → m ≤ n → cond t zero (suc m) ≤ suc n
  le_step true m n h = zero-le
  le_step false m n h = suc-le-suc h

  pub part_length-le : (text : List ℕ) → part_length s text ≤ length text
  unfolding part_length
  part_length-le [] = zero-le
  part_length-le (b ∷ text) = le_step (eqb b s) (part_length s text) (length text) (part_length-le text)

  add-left_one : (n : ℕ) → suc n ≡ 1 + n
  add-left_one n = omega arith

  pub part_length-position : (text : List ℕ) → unwrap_or (position (λ (b : ℕ). eqb b s) text) (length text) ≡ part_length s text
  unfolding part_length
  part_length-position text =
      let step = λ (b : ℕ) (rest : List ℕ). ap (cond (eqb b s) 0) (add-left_one (part_length s rest)) in
      let same : part_length s text ≡ position_or_len (λ (b : ℕ). eqb b s) text = is_position_or_len (part_length s) (λ (b : ℕ). eqb b s) refl step text in
      let within = part_length-le text in
      rw (← same) (grind (arith, nat_tests))

  -- one byte more in front, where the test for a separator gives t
  first_step : (t : Bool) (b n : ℕ) (text : List ℕ)
      → split s text ≡ take n text ∷ parts_behind s (drop n text)
      → cond t ([] ∷ split s text) (before b (split s text)) ≡ take (cond t zero (suc n)) (b ∷ text) ∷ parts_behind s (drop (cond t zero (suc n)) (b ∷ text))
  unfolding parts_behind before
  first_step true b n text e = refl
  first_step false b n text e = ap (before b) e

  pub split-first : (text : List ℕ) → split s text ≡ take (part_length s text) text ∷ parts_behind s (drop (part_length s text) text)
  unfolding split part_length parts_behind
  split-first [] = refl
  split-first (b ∷ text) = first_step (eqb b s) b (part_length s text) text (split-first text)

  -- ---- at a byte

  module _ (text : List ℕ) (i : ℕ) where
    -- ---- the parts behind

    pub parts_behind-end : length text ≤ i → parts_behind s (drop i text) ≡ []
    unfolding parts_behind
    parts_behind-end h = ap (parts_behind s) (drop_of_length-le text h)

    behind-at : i < length text → parts_behind s (drop i text) ≡ split s (drop (i + 1) text)
    unfolding parts_behind
    behind-at h = rw (drop-cons text i 0 h, add-one i)

  -- ---- the part after the separator at i, which is n bytes long, and those behind it

  pub record NextPart (text : List ℕ) (i n : ℕ) : Type 0 where
    pub ends : i + 1 + n ≤ length text
    pub parts : parts_behind s (drop i text) ≡ take (i + 1 + n - (i + 1)) (drop (i + 1) text) ∷ parts_behind s (drop (i + 1 + n) text)

  pub next-at : (text : List ℕ) (i n : ℕ) → i < length text → n ≡ part_length s (drop (i + 1) text) → NextPart text i n
  next-at text i n h e =
      let within : n ≤ length text - (i + 1) = rw (e, ← length-drop (i + 1) text) (part_length-le (drop (i + 1) text)) in
      let long : i + 1 + n - (i + 1) ≡ n = omega arith in
      record {
        ends = omega arith;
        parts = behind-at text i h ∙ split-first (drop (i + 1) text) ∙ rw (long, ← e, drop-drop n (i + 1) text);
      }

  pub next-part : (text : List ℕ) (i n : ℕ) → i < length text → n ≡ part_length s (take (length text - (i + 1)) (drop (i + 1) text)) → NextPart text i n
  next-part text i n h e = next-at text i n h (e ∙ ap (part_length s) (part-whole text (i + 1)))
