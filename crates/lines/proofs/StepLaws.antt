-- The code's steps come to the definitions: bytes added to a line, lines counted, parts collected. Assumes nothing.
--     byte-kept, byte-lost                 one more byte, by the length of the line
--     added-end, added-kept, added-lost    bytes added from a byte on, by the length of the line
--     next-empty                           the line after another, before its first byte
--     collected-ended, collected-open      a part with a newline, and one without
use Prim.Native.Nat.{ℕ, ◌+◌, ◌≤◌, ◌<◌, min}
use native.Mathlib.Nat.{min-eq_left, min-eq_right}
use native.Mathlib.Numerals.{add-one}
use native.Mathlib.Omega.{arith}
use mathlib.Core.Path.{◌≡◌, refl, sym, ap, ◌∙◌}
use mathlib.Core.Bool.{true, false}
use mathlib.Core.List.{List, []}
use lib.ListN.{length, take, drop, set, get_or, drop_of_length-le}
use lib.Seq.{drop-cons}
use borrow.Author.Tests.{lt-ltb, le-ltb}
use Rattle.lines.specs.declared.Line.{Line}
use Rattle.lines.specs.declared.Lines.{Lines}
use Rattle.lines.specs.declared.Collected.{Collected}
use Rattle.lines.specs.Texts.{part_length}
use Rattle.lines.specs.Collecting.{line_text, with_byte, added, next_lines, collected}

-- ---- one more byte, by the length of the line

pub byte-kept : (l : Line) (b : ℕ) → l.length < 120 → ◌≡◌ {A = Line} (record { length = l.length + 1; bytes = set l.bytes l.length b }) (with_byte l b)
unfolding with_byte
byte-kept l b h = let e : min (l.length + 1) 121 ≡ l.length + 1 = min-eq_left (omega arith) in rw (lt-ltb l.length 120 h, e)

pub byte-lost : (l : Line) (b : ℕ) → 120 ≤ l.length → ◌≡◌ {A = Line} (record { length = 121; bytes = l.bytes }) (with_byte l b)
unfolding with_byte
byte-lost l b h = let e : min (l.length + 1) 121 ≡ 121 = min-eq_right (omega arith) in rw (le-ltb l.length 120 h, e)

-- bytes added from the one at i on
module _ (l : Line) (more : List ℕ) (i : ℕ) where
  pub added-end : length more ≤ i → l ≡ added l (drop i more)
  unfolding added
  added-end h = sym (ap (added l) (drop_of_length-le more {i = i} h))

  module _ (h : i < length more) where
    first : added (with_byte l (get_or more i 0)) (drop (i + 1) more) ≡ added l (drop i more)
    unfolding added
    first = rw (drop-cons more i 0 h, add-one i)

    pub added-kept : l.length < 120 → added (record { length = l.length + 1; bytes = set l.bytes l.length (get_or more i 0) }) (drop (i + 1) more) ≡ added l (drop i more)
    added-kept s = ap (λ (m : Line). added m (drop (i + 1) more)) (byte-kept l (get_or more i 0) s) ∙ first

    pub added-lost : 120 ≤ l.length → added (record { length = 121; bytes = l.bytes }) (drop (i + 1) more) ≡ added l (drop i more)
    added-lost s = ap (λ (m : Line). added m (drop (i + 1) more)) (byte-lost l (get_or more i 0) s) ∙ first

-- ---- the next line has no bytes yet
pub next-empty : (s : Lines) → line_text (next_lines s).line ≡ []
unfolding line_text next_lines
next-empty s = refl

-- ---- a part collected
module _ (s : Lines) (part : List ℕ) {n : ℕ} {l : Line} (e : n ≡ part_length 10 part) (a : l ≡ added s.line (take n part)) where
  pub collected-ended : n < length part
      → ◌≡◌ {A = Collected} (record { lines = record { count = s.count; line = l }; read = n + 1; ended = true }) (collected s part)
  unfolding collected
  collected-ended h = rw (← e, lt-ltb n (length part) h, a)

  pub collected-open : length part ≤ n
      → ◌≡◌ {A = Collected} (record { lines = record { count = s.count; line = l }; read = n; ended = false }) (collected s part)
  unfolding collected
  collected-open h = rw (← e, le-ltb n (length part) h, a)
