-- A report's lines, and how many of them fit. By induction on the report. Assumes nothing.
--     lines-drop, lines_next, lines_end        positions and old values side by side, from an index on
--     fitting-here, -full, -none               whether the next line fits
--     fitting-first, fitting-within            what fits is the first lines, and no longer than the room
use Prim.Native.Nat.{ℕ, zero, suc, ◌+◌, ◌-◌, ◌≤◌, ◌<◌, min}
use native.Mathlib.Nat.{min-eq_left, min-eq_right}
use native.Mathlib.Numerals.{add-one}
use native.Mathlib.Decide.{dec_le}
use native.Mathlib.Omega.{arith}
use mathlib.Core.Path.{◌≡◌, refl, sym, ap, ◌∙◌}
use mathlib.Core.Bool.{Bool, true, false, cond}
use mathlib.Core.List.{List, [], ◌∷◌, ◌++◌, flatten}
use lib.Dec.{leb}
use lib.ListN.{length, get_or, drop, length-append, drop_of_length-le}
use lib.Seq.{drop-cons}
use borrow.Author.Tests.{le-leb, lt-leb, leb-true}
use Rattle.padding.specs.Mending.{Dirt}
use Rattle.padding.specs.Files.{lines}
use Rattle.mend_text.specs.Reports.{dirt_text, report_text, fitting}

-- ---- positions and old values side by side

lines_none : (positions : List ℕ) → lines positions [] ≡ []
unfolding lines
lines_none [] = refl
lines_none (p ∷ positions) = refl

pub lines-drop : (k : ℕ) (positions olds : List ℕ) → drop k (lines positions olds) ≡ lines (drop k positions) (drop k olds)
unfolding lines
lines-drop zero positions olds = refl
lines-drop (suc k) [] olds = refl
lines-drop (suc k) (p ∷ positions) [] = sym (lines_none (drop k positions))
lines-drop (suc k) (p ∷ positions) (v ∷ olds) = lines-drop k positions olds

module _ (positions olds : List ℕ) (i : ℕ) where
  abbrev pub line_at : Dirt
  line_at = record { position = get_or positions i 0; old = get_or olds i 0 }

  pub lines_next : i < length positions → i < length olds → lines (drop i positions) (drop i olds) ≡ line_at ∷ lines (drop (i + 1) positions) (drop (i + 1) olds)
  unfolding lines
  lines_next h k = rw (drop-cons positions i 0 h, drop-cons olds i 0 k, add-one i)

  pub lines_end : min (length positions) (length olds) ≤ i → lines (drop i positions) (drop i olds) ≡ []
  unfolding lines
  lines_end h =
      elim (dec_le (length positions) (length olds)) [
        | yes k ↦ ap (λ (l : List ℕ). lines l (drop i olds)) (drop_of_length-le positions {i = i} (omega (arith, min-eq_left k)))
        | no f ↦ (
            let k : length olds ≤ length positions = omega arith in
            ap (lines (drop i positions)) (drop_of_length-le olds {i = i} (omega (arith, min-eq_right k))) ∙ lines_none (drop i positions)
            )
      ]

-- ---- what fits

module _ (room : ℕ) (d : Dirt) (report : List Dirt) where
  pub fitting-here : length (dirt_text d) ≤ room → fitting room (d ∷ report) ≡ d ∷ fitting (room - length (dirt_text d)) report
  unfolding fitting
  fitting-here h = rw (le-leb (length (dirt_text d)) room h)

  pub fitting-full : room < length (dirt_text d) → fitting room (d ∷ report) ≡ []
  unfolding fitting
  fitting-full h = rw (lt-leb (length (dirt_text d)) room h)

pub fitting-none : (room : ℕ) → fitting room [] ≡ []
unfolding fitting
fitting-none room = refl

-- what fits is the first lines
pub fitting-first : (room : ℕ) (report : List Dirt) → report ≡ fitting room report ++ drop (length (fitting room report)) report
unfolding fitting
fitting-first room [] = refl
fitting-first room (d ∷ report) = go (leb (length (dirt_text d)) room) (fitting (room - length (dirt_text d)) report) (fitting-first (room - length (dirt_text d)) report)
  where
    go : (t : Bool) (more : List Dirt) → report ≡ more ++ drop (length more) report → d ∷ report ≡ cond t (d ∷ more) [] ++ drop (length (cond t (d ∷ more) [])) (d ∷ report)
    go true more e = ap (λ (l : List Dirt). d ∷ l) e
    go false more e = refl

pub fitting-within : (room : ℕ) (report : List Dirt) → length (report_text (fitting room report)) ≤ room
unfolding fitting report_text flatten
fitting-within room [] = omega arith
fitting-within room (d ∷ report) = go (leb (length (dirt_text d)) room) refl (fitting (room - length (dirt_text d)) report) (fitting-within (room - length (dirt_text d)) report)
  where
    go : (t : Bool) → leb (length (dirt_text d)) room ≡ t → (more : List Dirt) → length (report_text more) ≤ room - length (dirt_text d) → length (report_text (cond t (d ∷ more) [])) ≤ room
    go true e more h = omega (arith, leb-true (length (dirt_text d)) room e, length-append (dirt_text d) (report_text more))
    go false e more h = omega arith
