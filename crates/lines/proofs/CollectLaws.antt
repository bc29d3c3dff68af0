-- One call of `collect`, in terms of the lines of the whole input. By induction on the part. Assumes nothing.
--     lines_from                        the lines of an input whose first line is begun by a text
--     lines_from-none                   begun by nothing
--     lines_from-end-none, -end-some    the end of the input
--     lines_from-ended, -open           a part with a newline, and one without
--     lines_of-none, -ended, -open      the lines of a whole input, the first taken off
use Prim.Native.Nat.{ℕ, zero, suc, ◌+◌, ◌≤◌, ◌<◌}
use mathlib.Core.Path.{◌≡◌, refl, sym, ap, ◌∙◌}
use mathlib.Core.Bool.{Bool, true, false, cond}
use mathlib.Core.List.{List, [], ◌∷◌, ◌++◌, append_assoc, append-nil}
use native.Mathlib.Numerals.{add-one}
use native.Mathlib.Omega.{arith}
use lib.Dec.{eqb}
use lib.ListN.{length, take, drop}
use Rattle.lines.specs.Texts.{before, split, without_empty_last, lines_of, part_length}

-- a text before the first of some parts
abbrev onto : List ℕ → List (List ℕ) → List (List ℕ)
onto line [] = line ∷ []
onto line (part ∷ parts) = (line ++ part) ∷ parts

unfoldable pub lines_from : List ℕ → List ℕ → List (List ℕ)
lines_from text input = without_empty_last (onto text (split 10 input))

-- ---- the parts of a text
onto-before : (line : List ℕ) (b : ℕ) (parts : List (List ℕ)) → onto (b ∷ line) parts ≡ before b (onto line parts)
unfolding before
onto-before line b [] = refl
onto-before line b (part ∷ parts) = refl

onto-onto : (s t : List ℕ) (parts : List (List ℕ)) → onto s (onto t parts) ≡ onto (s ++ t) parts
onto-onto s t [] = refl
onto-onto s t (part ∷ parts) = ap (λ (l : List ℕ). l ∷ parts) (sym (append_assoc s t part))

onto-none : (input : List ℕ) → onto [] (split 10 input) ≡ split 10 input
unfolding split before
onto-none [] = refl
onto-none (b ∷ input) = go (eqb b 10) (split 10 input)
  where
    go : (t : Bool) (parts : List (List ℕ)) → onto [] (cond t ([] ∷ parts) (before b parts)) ≡ cond t ([] ∷ parts) (before b parts)
    go true parts = refl
    go false [] = refl
    go false (part ∷ parts) = refl

module _ (more : List ℕ) where
  split-ended : (part : List ℕ) → part_length 10 part < length part
      → split 10 (part ++ more) ≡ take (part_length 10 part) part ∷ split 10 (drop (part_length 10 part + 1) part ++ more)
  unfolding split part_length before
  split-ended [] h = absurd (omega arith)
  split-ended (b ∷ part) h = go (eqb b 10) h (split-ended part)
    where
      go : (t : Bool) → cond t zero (suc (part_length 10 part)) < suc (length part)
          → (part_length 10 part < length part → split 10 (part ++ more) ≡ take (part_length 10 part) part ∷ split 10 (drop (part_length 10 part + 1) part ++ more))
          → cond t ([] ∷ split 10 (part ++ more)) (before b (split 10 (part ++ more)))
          ≡ take (cond t zero (suc (part_length 10 part))) (b ∷ part) ∷ split 10 (drop (cond t zero (suc (part_length 10 part)) + 1) (b ∷ part) ++ more)
      go true k e = refl
      go false k e = ap (before b) (e (omega arith)) ∙ rw (add-one, add-one)

  split-open : (part : List ℕ) → length part ≤ part_length 10 part → split 10 (part ++ more) ≡ onto part (split 10 more)
  unfolding split part_length
  split-open [] h = sym (onto-none more)
  split-open (b ∷ part) h = go (eqb b 10) h (split-open part)
    where
      go : (t : Bool) → suc (length part) ≤ cond t zero (suc (part_length 10 part)) → (length part ≤ part_length 10 part → split 10 (part ++ more) ≡ onto part (split 10 more))
          → cond t ([] ∷ split 10 (part ++ more)) (before b (split 10 (part ++ more))) ≡ onto (b ∷ part) (split 10 more)
      go true k e = absurd (omega arith)
      go false k e = ap (before b) (e (omega arith)) ∙ sym (onto-before part b (split 10 more))

-- an empty line that another follows is kept
kept-before : (b : ℕ) (line : List ℕ) (parts : List (List ℕ)) → without_empty_last (line ∷ before b parts) ≡ line ∷ without_empty_last (before b parts)
unfolding without_empty_last before
kept-before b [] [] = refl
kept-before b [] (part ∷ parts) = refl
kept-before b (a ∷ line) parts = refl

kept_line : (line input : List ℕ) → without_empty_last (line ∷ split 10 input) ≡ line ∷ without_empty_last (split 10 input)
unfolding split without_empty_last
kept_line [] [] = refl
kept_line (a ∷ line) [] = refl
kept_line line (b ∷ input) = go (eqb b 10) line
  where
    go : (t : Bool) (l : List ℕ)
        → without_empty_last (l ∷ cond t ([] ∷ split 10 input) (before b (split 10 input))) ≡ l ∷ without_empty_last (cond t ([] ∷ split 10 input) (before b (split 10 input)))
    go true [] = refl
    go true (a ∷ l) = refl
    go false l = kept-before b l (split 10 input)

-- ---- the lines
pub lines_from-none : (input : List ℕ) → lines_from [] input ≡ lines_of input
unfolding lines_from lines_of
lines_from-none input = ap without_empty_last (onto-none input)

pub lines_from-end-none : lines_from [] [] ≡ []
unfolding lines_from split without_empty_last
lines_from-end-none = refl

pub lines_from-end-some : (b : ℕ) (text : List ℕ) → lines_from (b ∷ text) [] ≡ (b ∷ text) ∷ []
unfolding lines_from split without_empty_last
lines_from-end-some b text = ap (λ (l : List ℕ). (b ∷ l) ∷ []) (append-nil text)

module _ (text part more : List ℕ) where
  pub lines_from-ended : part_length 10 part < length part
      → lines_from text (part ++ more) ≡ (text ++ take (part_length 10 part) part) ∷ lines_from [] (drop (part_length 10 part + 1) part ++ more)
  unfolding lines_from
  lines_from-ended h =
      let rest = drop (part_length 10 part + 1) part ++ more in
      ap (λ (l : List (List ℕ)). without_empty_last (onto text l)) (split-ended more part h)
      ∙ kept_line (text ++ take (part_length 10 part) part) rest
      ∙ ap (λ (l : List (List ℕ)). (text ++ take (part_length 10 part) part) ∷ without_empty_last l) (sym (onto-none rest))

  pub lines_from-open : length part ≤ part_length 10 part → lines_from text (part ++ more) ≡ lines_from (text ++ part) more
  unfolding lines_from
  lines_from-open h = ap (λ (l : List (List ℕ)). without_empty_last (onto text l)) (split-open more part h) ∙ ap without_empty_last (onto-onto text part (split 10 more))

-- ---- of a whole input

pub lines_of-none : lines_of [] ≡ []
unfolding lines_of split without_empty_last
lines_of-none = refl

pub lines_of-ended : (input : List ℕ) → part_length 10 input < length input
    → lines_of input ≡ take (part_length 10 input) input ∷ lines_of (drop (part_length 10 input + 1) input)
lines_of-ended input h =
    let first = take (part_length 10 input) input in
    let rest = drop (part_length 10 input + 1) input in
    sym (lines_from-none input)
    ∙ sym (ap (lines_from []) (append-nil input))
    ∙ lines_from-ended [] input [] h
    ∙ ap (λ (l : List (List ℕ)). first ∷ l) (ap (lines_from []) (append-nil rest) ∙ lines_from-none rest)

pub lines_of-open : (input : List ℕ) → 0 < length input → length input ≤ part_length 10 input → lines_of input ≡ input ∷ []
lines_of-open [] p h = absurd (omega arith)
lines_of-open (b ∷ input) p h =
    sym (lines_from-none (b ∷ input))
    ∙ sym (ap (lines_from []) (append-nil (b ∷ input)))
    ∙ lines_from-open [] (b ∷ input) [] h
    ∙ lines_from-end-some b input
