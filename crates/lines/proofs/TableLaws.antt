-- The numbers behind a word, field by field. By cases on what is left. Assumes nothing.
--     Passed                           some numbers are read: those of what is left decide
--     table_none                       none read yet
--     table-end, table-next            no field is left; one field more that is a number
--     table-no-number, table-eighth    a field that is no number; one more after seven
use Prim.Native.Nat.{ℕ, ◌+◌, ◌≤◌, ◌<◌}
use mathlib.Core.Path.{◌≡◌, refl, sym, ap, ◌∙◌}
use mathlib.Core.List.{List, [], ◌∷◌, ◌++◌, append_assoc, append-nil}
use native.Mathlib.Omega.{arith}
use lib.ListN.{length, set, replicate, length-append}
use borrow.Author.Tests.{le-leb, lt-leb}
use Rattle.std.proofs.Common.{Option, None, Some}
use Rattle.std.specs.Option.{option_map}
use Rattle.lines.specs.Texts.{padded}
use Rattle.lines.specs.declared.Number.{Number}
use Rattle.lines.specs.declared.Numbers.{Numbers}
use Rattle.lines.specs.Numbers.{number_of, and_number, listed, in_table, numbers_of}
use Rattle.lines.proofs.TextLaws.{padded-set}

-- numbers already read, and those of what is left
abbrev behind : List ℕ → Option (List ℕ) → Option (List ℕ)
behind ns n = option_map (λ (ms : List ℕ). ns ++ ms) n

behind-none : (n : Option (List ℕ)) → n ≡ behind [] n
behind-none None = refl
behind-none (Some ms) = refl

snoc : (ns : List ℕ) (m : Number) (n : Option (List ℕ)) → behind ns (and_number (Some m) n) ≡ behind (ns ++ m.value ∷ []) n
unfolding and_number
snoc ns m None = refl
snoc ns m (Some ms) = ap Some (sym (append_assoc ns (m.value ∷ []) ms))

eighth : (ns : List ℕ) (p : Option Number) (n : Option (List ℕ)) → length ns ≡ 7 → in_table (behind ns (and_number p n)) ≡ None
unfolding and_number in_table
eighth ns None n e = refl
eighth ns (Some m) None e = refl
eighth ns (Some m) (Some ms) e = rw (lt-leb (length (ns ++ m.value ∷ ms)) 7 (omega (arith, length-append ns (m.value ∷ ms))))

-- ---- the pass: `count` values are read, and the fields `left` are left

pub record Passed (whole : List (List ℕ)) (count : ℕ) (values : List ℕ) (left : List (List ℕ)) : Type 0 where
  pub ns : List ℕ
  pub counted : count ≡ length ns
  pub padding : values ≡ padded 7 ns
  pub read : listed whole ≡ behind ns (listed left)

pub table_none : (whole : List (List ℕ)) → Passed whole 0 (replicate 7 0) whole
table_none whole = record { ns = []; counted = refl; padding = refl; read = behind-none (listed whole) }

module _ (whole : List (List ℕ)) (count : ℕ) (values : List ℕ) (left : List (List ℕ)) (p : Passed whole count values left) where
  pub table-end : left ≡ [] → count ≤ 7 → ◌≡◌ {A = Option Numbers} (Some (record { count = count; values = values })) (numbers_of whole)
  unfolding listed in_table numbers_of
  table-end e small = rw (p.read, e, p.padding, p.counted) (rw (append-nil p.ns, le-leb (length p.ns) 7 (omega (arith, p.counted))))

  module _ (text : List ℕ) (texts : List (List ℕ)) (e : left ≡ text ∷ texts) where
    pub table-no-number : number_of text ≡ None → None ≡ numbers_of whole
    unfolding listed and_number in_table numbers_of
    table-no-number u = rw (p.read, e) (rw u)

    pub table-eighth : count ≡ 7 → None ≡ numbers_of whole
    unfolding listed numbers_of
    table-eighth c = sym (rw (p.read, e) (eighth p.ns (number_of text) (listed texts) (omega (arith, p.counted))))

    pub table-next : (m : Number) → number_of text ≡ Some m → count < 7 → Passed whole (count + 1) (set values count m.value) texts
    unfolding listed
    table-next m u small =
        record {
          ns = p.ns ++ m.value ∷ [];
          counted = omega (arith, p.counted, length-append p.ns (m.value ∷ []));
          padding = rw (p.padding, p.counted) (padded-set 7 p.ns m.value (omega (arith, p.counted)));
          read = p.read ∙ rw e (rw u (snoc p.ns m (listed texts)));
        }
