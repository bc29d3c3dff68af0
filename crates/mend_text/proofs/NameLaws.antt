-- What makes a line a name, and what two lines behind a record ask for. Assumes nothing.
--     part_slice                               a part of a text, as the code lends it
--     name-empty, -long, -out, name-is         whether a line is a name
--     names-first, names-second, names-both    whether two lines are different names
--     named-no, named-yes, frameless            what two lines behind a record ask for
--     no_first, no_second                      where one of them is no name
--     stands                                   a part of a text stands in it
use Prim.Native.Nat.{ℕ, zero, suc, ◌-◌, ◌≤◌, ◌<◌}
use native.Mathlib.Omega.{arith}
use native.Mathlib.Decide.{dec_le}
use mathlib.Core.Path.{◌≡◌, refl, sym, ap, ◌∙◌}
use mathlib.Core.Bool.{Bool, true, false, not, ◌&&◌}
use mathlib.Core.List.{List, [], ◌∷◌}
use Rattle.std.specs.Prelude.{Option, None, Some}
use lib.Dec.{eqb, leb}
use lib.ListN.{length, take, drop, length-drop}
use lib.Seq.{slice, take-nil}
use borrow.Author.Tests.{le-leb, lt-leb, eq-eqb, ne_eqb}
use Rattle.layout.specs.declared.CubeLayout.{CubeLayout}
use Rattle.lines.specs.Texts.{split, fields_of, part_length, parts_behind, same_text}
use Rattle.lines.proofs.SplitLaws.{part_length-le, split-first, parts_behind-end}
use Rattle.records.specs.declared.Record.{Record}
use Rattle.records.specs.declared.Record.TheVariants.{Frame, Stall, Cell, Leave}
use Rattle.mend_text.specs.Requests.{unreadable, mending, is_name, with_names, StandsIn}

pub part_slice : (text : List ℕ) (a b : ℕ) → a ≤ b → take (b - a) (drop a text) ≡ slice a b text
part_slice text zero b h = let e : b - 0 ≡ b = omega arith in ap (λ (k : ℕ). take k text) e
part_slice [] (suc a) b h = rw (take-nil {A = ℕ} (b - suc a), take-nil {A = ℕ} b)
part_slice (x ∷ text) (suc a) zero h = absurd (omega arith)
part_slice (x ∷ text) (suc a) (suc b) h = let e : suc b - suc a ≡ b - a = omega arith in ap (λ (k : ℕ). take k (drop a text)) e ∙ part_slice text a b (omega arith)

pub stands : (text name : List ℕ) (a b : ℕ) → a ≤ b → b ≤ length text → name ≡ take (b - a) (drop a text) → StandsIn text name
stands text name a b h within part = record { first = a; behind = b; ordered = h; within = within; part = part ∙ part_slice text a b h }

-- ---- a name

split-some : (text : List ℕ) → 0 < length (split 9 text)
split-some text = rw (split-first 9 text) (omega arith)

behind-some : (rest : List ℕ) → 0 < length rest → 0 < length (parts_behind 9 rest)
unfolding parts_behind
behind-some [] h = absurd (omega arith)
behind-some (b ∷ rest) h = split-some rest

module _ (line : List ℕ) where
  fields-count : length (fields_of line) ≡ suc (length (parts_behind 9 (drop (part_length 9 line) line)))
  unfolding fields_of
  fields-count = ap length (split-first 9 line)

  -- one field: no tab stands in the line
  one_field : eqb (length (fields_of line)) 1 ≡ eqb (part_length 9 line) (length line)
  one_field =
      let n = part_length 9 line in
      let within = part_length-le 9 line in
      elim (dec_le (length line) n) [
        | yes h ↦ eq-eqb (length (fields_of line)) 1 (fields-count ∙ ap (λ (l : List (List ℕ)). suc (length l)) (parts_behind-end 9 line n h)) ∙ sym (eq-eqb n (length line) (omega arith))
        | no f ↦ ne_eqb (length (fields_of line)) 1 (λ e. omega (arith, fields-count, behind-some (drop n line) (omega (arith, length-drop n line))))
            ∙ sym (ne_eqb n (length line) (λ e. f (omega arith)))
      ]

  pub name-empty : length line ≡ 0 → is_name line ≡ false
  unfolding is_name
  name-empty e = rw (lt-leb 1 (length line) (omega arith))

  pub name-long : 120 < length line → is_name line ≡ false
  unfolding is_name
  name-long h = rw (le-leb 1 (length line) (omega arith), lt-leb (length line) 120 h)

  pub name-out : (leb 1 (length line) && leb (length line) 120) ≡ false → is_name line ≡ false
  unfolding is_name
  name-out e = go (leb 1 (length line)) (leb (length line) 120) e
    where
      go : (a b : Bool) → (a && b) ≡ false → a && b && eqb (length (fields_of line)) 1 ≡ false
      go true b e = rw e
      go false b e = refl

  pub name-is : (length line ≡ 0 → ⊥) → length line ≤ 120 → eqb (part_length 9 line) (length line) ≡ is_name line
  unfolding is_name
  name-is f h = rw (le-leb 1 (length line) (omega arith), le-leb (length line) 120 h) (sym one_field)

-- ---- two different names, and what they ask for behind a record

module _ (first second : List ℕ) where
  names-second-of : (t : Bool) → is_name second ≡ false → t && is_name second && not (same_text first second) ≡ false
  names-second-of true e = ap (λ (x : Bool). x && not (same_text first second)) e
  names-second-of false e = refl

  pub names-first : is_name first ≡ false → is_name first && is_name second && not (same_text first second) ≡ false
  names-first e = ap (λ (x : Bool). x && is_name second && not (same_text first second)) e

  pub names-second : is_name second ≡ false → is_name first && is_name second && not (same_text first second) ≡ false
  names-second e = names-second-of (is_name first) e

  pub names-both : is_name first ≡ true → is_name second ≡ true → is_name first && is_name second && not (same_text first second) ≡ not (same_text first second)
  names-both e f = ap (λ (x : Bool). x && is_name second && not (same_text first second)) e ∙ ap (λ (x : Bool). x && not (same_text first second)) f

  pub named-no : (r : Option Record) → is_name first && is_name second && not (same_text first second) ≡ false → unreadable ≡ with_names r first second
  unfolding with_names
  named-no (Some (Frame q)) e = rw e
  named-no (Some (Stall slot w0 h0 w h id)) e = refl
  named-no (Some (Cell slot c h w id)) e = refl
  named-no (Some (Leave slot id)) e = refl
  named-no None e = refl

  pub named-yes : (q : CubeLayout) → is_name first && is_name second && not (same_text first second) ≡ true → mending q first second ≡ with_names (Some (Frame q)) first second
  unfolding with_names
  named-yes q e = rw e

  pub frameless : unreadable ≡ with_names None first second
  unfolding with_names
  frameless = refl

  pub no_first : (r : Option Record) → is_name first ≡ false → unreadable ≡ with_names r first second
  no_first r e = named-no r (names-first e)

  pub no_second : (r : Option Record) → is_name second ≡ false → unreadable ≡ with_names r first second
  no_second r e = named-no r (names-second e)
