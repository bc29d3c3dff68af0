-- The lines of an input, from a byte on, and what they ask for. Assumes nothing.
--     line-within                              the line that begins at a byte
--     request-one, -two, -more, -three         what is asked for, by the ends of the first three lines
use Prim.Native.Nat.{ℕ, ◌+◌, ◌-◌, ◌≤◌, ◌<◌}
use native.Mathlib.Omega.{arith}
use native.Mathlib.Decide.{dec_le}
use mathlib.Core.Path.{◌≡◌, refl, sym, ap, ◌∙◌}
use mathlib.Core.List.{List, [], ◌∷◌}
use lib.ListN.{length, take, drop, length-drop, drop_of_length-le}
use lib.Seq.{slice, length-slice, take_all, drop-drop}
use Rattle.lines.specs.Texts.{lines_of, part_length}
use Rattle.lines.proofs.SplitLaws.{part_length-le}
use Rattle.lines.proofs.CollectLaws.{lines_of-none, lines_of-ended, lines_of-open}
use Rattle.records.specs.Records.{record_of}
use Rattle.mend_text.specs.Requests.{unreadable, with_names, by_lines, request_of}
use Rattle.mend_text.proofs.NameLaws.{part_slice, name-empty, no_second}

-- ---- how many lines

three : (a b c : List ℕ) → with_names (record_of a) b c ≡ by_lines (a ∷ b ∷ c ∷ [])
unfolding by_lines
three a b c = refl

few : (ls : List (List ℕ)) → length ls ≤ 2 → unreadable ≡ by_lines ls
unfolding by_lines
few [] h = refl
few (a ∷ []) h = refl
few (a ∷ b ∷ []) h = refl
few (a ∷ b ∷ c ∷ ls) h = absurd (omega arith)

many : (ls : List (List ℕ)) → 3 < length ls → unreadable ≡ by_lines ls
unfolding by_lines
many [] h = absurd (omega arith)
many (a ∷ []) h = absurd (omega arith)
many (a ∷ b ∷ []) h = absurd (omega arith)
many (a ∷ b ∷ c ∷ []) h = absurd (omega arith)
many (a ∷ b ∷ c ∷ d ∷ ls) h = refl

-- ---- the line that begins at byte `from`

lines-open : (text : List ℕ) → length text ≤ part_length 10 text → length (lines_of text) ≤ 1
lines-open [] h = rw lines_of-none (omega arith)
lines-open (b ∷ text) h = rw (lines_of-open (b ∷ text) (omega arith) h) (omega arith)

lines-some : (text : List ℕ) → 0 < length text → 0 < length (lines_of text)
lines-some text h =
    elim (dec_le (length text) (part_length 10 text)) [
      | yes k ↦ rw (lines_of-open text h k) (omega arith)
      | no f ↦ rw (lines_of-ended text (omega arith)) (omega arith)
    ]

module _ (text : List ℕ) (from to : ℕ) (h : from ≤ length text) (e : to ≡ from + part_length 10 (drop from text)) where
  pub line-within : (from ≤ to) × (to ≤ length text)
  line-within = (omega arith, omega (arith, part_length-le 10 (drop from text), length-drop from text))

  line-is : take (part_length 10 (drop from text)) (drop from text) ≡ slice from to text
  line-is =
      let n : part_length 10 (drop from text) ≡ to - from = omega arith in
      ap (λ (k : ℕ). take k (drop from text)) n ∙ part_slice text from to (omega arith)

  line-ended : to < length text → lines_of (drop from text) ≡ slice from to text ∷ lines_of (drop (to + 1) text)
  line-ended l =
      let rest = drop from text in
      let n = part_length 10 rest in
      let next : from + (n + 1) ≡ to + 1 = omega arith in
      lines_of-ended rest (omega (arith, length-drop from text)) ∙ rw (line-is, drop-drop (n + 1) from text, next)

  line-open : length text ≤ to → length (lines_of (drop from text)) ≤ 1
  line-open l = lines-open (drop from text) (omega (arith, length-drop from text))

  left_is : length text ≤ to → drop from text ≡ slice from to text
  left_is l = sym (take_all (part_length 10 (drop from text)) (drop from text) (omega (arith, length-drop from text))) ∙ line-is

  module _ (a b : List ℕ) where
    last-ended : to < length text → length text ≤ to + 1 → with_names (record_of a) b (slice from to text) ≡ by_lines (a ∷ b ∷ lines_of (drop from text))
    last-ended k l =
        three a b (slice from to text)
        ∙ ap (λ (ls : List (List ℕ)). by_lines (a ∷ b ∷ slice from to text ∷ ls)) (sym (ap lines_of (drop_of_length-le text {i = to + 1} l) ∙ lines_of-none))
        ∙ ap (λ (ls : List (List ℕ)). by_lines (a ∷ b ∷ ls)) (sym (line-ended k))

    last-open : length text ≤ to → from < length text → with_names (record_of a) b (slice from to text) ≡ by_lines (a ∷ b ∷ lines_of (drop from text))
    last-open l k =
        three a b (slice from to text)
        ∙ ap (λ (last : List ℕ). by_lines (a ∷ b ∷ last ∷ [])) (sym (left_is l))
        ∙ ap (λ (ls : List (List ℕ)). by_lines (a ∷ b ∷ ls)) (sym (lines_of-open (drop from text) (omega (arith, length-drop from text)) (omega (arith, length-drop from text))))

    -- nothing follows the second line: an empty name is none
    last_none : length text ≤ from → with_names (record_of a) b (slice from to text) ≡ by_lines (a ∷ b ∷ lines_of (drop from text))
    last_none l =
        let none : length (lines_of (drop from text)) ≡ 0 = ap (λ (t : List ℕ). length (lines_of t)) (drop_of_length-le text {i = from} l) ∙ ap length lines_of-none in
        let empty : length (slice from to text) ≡ 0 = length-slice from to text line-within.1 ∙ omega (arith, line-within.1) in
        sym (no_second b (slice from to text) (record_of a) (name-empty (slice from to text) empty)) ∙ few (a ∷ b ∷ lines_of (drop from text)) (omega arith)

    -- the last of three
    line-last : length text ≤ to + 1 → with_names (record_of a) b (slice from to text) ≡ by_lines (a ∷ b ∷ lines_of (drop from text))
    line-last l =
        elim (dec_le (length text) to) [
          | yes k ↦ elim (dec_le (length text) from) [ yes z ↦ last_none z | no f ↦ last-open k (omega arith) ]
          | no f ↦ last-ended (omega arith) l
        ]

-- ---- what is asked for: a, b and c are the ends of the first three lines

module _ (text : List ℕ) (a : ℕ) (ea : a ≡ 0 + part_length 10 text) where
  pub request-one : length text ≤ a → unreadable ≡ request_of text
  unfolding request_of
  request-one l = few (lines_of text) (omega (arith, line-open text 0 a (omega arith) ea l))

  module _ (la : a < length text) (b : ℕ) (eb : b ≡ a + 1 + part_length 10 (drop (a + 1) text)) where
    pub request-two : length text ≤ b → unreadable ≡ request_of text
    unfolding request_of
    request-two l = rw (line-ended text 0 a (omega arith) ea la) (few (take a text ∷ lines_of (drop (a + 1) text)) (omega (arith, line-open text (a + 1) b (omega arith) eb l)))

    module _ (lb : b < length text) (c : ℕ) (ec : c ≡ b + 1 + part_length 10 (drop (b + 1) text)) where
      two-lines : lines_of text ≡ take a text ∷ slice (a + 1) b text ∷ lines_of (drop (b + 1) text)
      two-lines = line-ended text 0 a (omega arith) ea la ∙ ap (λ (ls : List (List ℕ)). take a text ∷ ls) (line-ended text (a + 1) b (omega arith) eb lb)

      pub request-more : c + 1 < length text → unreadable ≡ request_of text
      unfolding request_of
      request-more l =
          let first = take a text in
          let second = slice (a + 1) b text in
          let third = slice (b + 1) c text in
          let more = lines_of (drop (c + 1) text) in
          let all : lines_of text ≡ first ∷ second ∷ third ∷ more = two-lines ∙ ap (λ (ls : List (List ℕ)). first ∷ second ∷ ls) (line-ended text (b + 1) c (omega arith) ec (omega arith)) in
          many (first ∷ second ∷ third ∷ more) (omega (arith, lines-some (drop (c + 1) text) (omega (arith, length-drop (c + 1) text)))) ∙ ap by_lines (sym all)

      pub request-three : length text ≤ c + 1 → with_names (record_of (take a text)) (slice (a + 1) b text) (slice (b + 1) c text) ≡ request_of text
      unfolding request_of
      request-three l = line-last text (b + 1) c (omega arith) ec (take a text) (slice (a + 1) b text) l ∙ ap by_lines (sym two-lines)
