-- A readable input is short: it has no more bytes than its lines, each with a newline behind it. By induction on the input. Assumes nothing.
--     request-long       an input of over 363 bytes
use Prim.Native.Nat.{ℕ, suc, ◌+◌, ◌≤◌, ◌<◌}
use native.Mathlib.Omega.{arith}
use native.Mathlib.Decide.{dec_le}
use mathlib.Core.Path.{◌≡◌, refl, sym, ap, ◌∙◌}
use mathlib.Core.Bool.{Bool, true, false, cond}
use mathlib.Core.List.{List, [], ◌∷◌}
use Rattle.std.specs.Prelude.{Option}
use lib.Dec.{eqb}
use lib.ListN.{length}
use Rattle.lines.specs.Texts.{before, split, without_empty_last, lines_of}
use Rattle.records.specs.declared.Record.{Record}
use Rattle.records.specs.Records.{record_of}
use Rattle.records.proofs.LineLaws.{record-long}
use Rattle.mend_text.specs.Requests.{unreadable, with_names, by_lines, request_of}
use Rattle.mend_text.proofs.NameLaws.{name-long, frameless, no_first, no_second}

-- the bytes of some lines, a newline behind each
unfoldable total : List (List ℕ) → ℕ
total [] = 0
total (line ∷ ls) = length line + 1 + total ls

total-before : (b : ℕ) (parts : List (List ℕ)) → suc (total parts) ≤ total (before b parts)
unfolding total before
total-before b [] = omega arith
total-before b (part ∷ parts) = omega arith

total-split : (text : List ℕ) → suc (length text) ≤ total (split 10 text)
unfolding split total
total-split [] = omega arith
total-split (b ∷ text) = go (eqb b 10) (total-split text)
  where
    go : (t : Bool) → suc (length text) ≤ total (split 10 text) → suc (suc (length text)) ≤ total (cond t ([] ∷ split 10 text) (before b (split 10 text)))
    go true h = omega arith
    go false h = omega (arith, total-before b (split 10 text))

total_kept : (parts : List (List ℕ)) → total parts ≤ suc (total (without_empty_last parts))
unfolding total without_empty_last
total_kept [] = omega arith
total_kept ([] ∷ []) = omega arith
total_kept ([] ∷ (part ∷ parts)) = omega (arith, total_kept (part ∷ parts))
total_kept ((b ∷ text) ∷ parts) = omega (arith, total_kept parts)

total-lines : (text : List ℕ) → length text ≤ total (lines_of text)
unfolding lines_of
total-lines text = omega (arith, total-split text, total_kept (split 10 text))

long-line : (a b c : List ℕ) → 363 < length a + length b + length c + 3 → unreadable ≡ with_names (record_of a) b c
long-line a b c h =
    elim (dec_le (length a) 120) [
      | yes s ↦ elim (dec_le (length b) 120) [
        | yes t ↦ no_second b c (record_of a) (name-long c (omega arith))
        | no f ↦ no_first b c (record_of a) (name-long b (omega arith))
      ]
      | no f ↦ frameless b c ∙ ap (λ (r : Option Record). with_names r b c) (sym (record-long a (omega arith)))
    ]

long-lines : (ls : List (List ℕ)) → 363 < total ls → unreadable ≡ by_lines ls
unfolding total by_lines
long-lines [] h = refl
long-lines (a ∷ []) h = refl
long-lines (a ∷ b ∷ []) h = refl
long-lines (a ∷ b ∷ c ∷ []) h = long-line a b c (omega arith)
long-lines (a ∷ b ∷ c ∷ d ∷ ls) h = refl

pub request-long : (text : List ℕ) → 363 < length text → request_of text ≡ unreadable
unfolding request_of
request-long text h = sym (long-lines (lines_of text) (omega (arith, total-lines text)))
