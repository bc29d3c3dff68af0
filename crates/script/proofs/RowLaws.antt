-- Rows and desks: as many rows as lines, numbered one after another; a refused record changes nothing. By induction on the lines. Assumes nothing.
--     rows-count                         as many rows as lines
--     rows-number                        their numbers
--     refused-desk, refused-value        what a refused record leaves
--     accepted-desk, accepted-value      what an accepted record leaves
--     unframed, framed_is                a record before a frame, and after one
use Prim.Native.Nat.{ℕ, zero, suc, ◌+◌, ◌<◌}
use native.Mathlib.Nat.{not-suc-le-zero, le_of_suc-le-suc}
use native.Mathlib.Omega.{arith}
use mathlib.Core.Path.{◌≡◌, refl, ap, ◌∙◌}
use mathlib.Core.Bool.{Bool, true, false, cond}
use mathlib.Core.List.{List, [], ◌∷◌, map}
use lib.ListN.{length, get_or}
use Rattle.std.proofs.Common.{Option}
use Rattle.refusal.specs.declared.Refusal.{Refusal}
use Rattle.refusal.specs.declared.Refusal.TheVariants.{Size}
use Rattle.refusal.specs.Checks.{Answer, Accepted, Refused}
use Rattle.refusal.proofs.CheckLaws.{leaves-done, leaves-before}
use Rattle.records.specs.declared.Record.{Record}
use Rattle.records.specs.Records.{record_of}
use Rattle.script.specs.declared.Desk.{Desk}
use Rattle.script.specs.Rows.{framed_or, record_answer, record_value, record_done, value_after, desk_after}
use Rattle.script.specs.Sheets.{row_of, rows_after, line_number}

pub rows-count : (n : ℕ) (d : Desk) (lines : List (List ℕ)) → length (rows_after n d lines) ≡ length lines
unfolding rows_after
rows-count n d [] = refl
rows-count n d (line ∷ lines) = ap suc (rows-count (n + 1) (desk_after d (record_of line)) lines)

pub rows-number : (n : ℕ) (d : Desk) (lines : List (List ℕ)) (k : ℕ) → k < length lines → get_or (map line_number (rows_after n d lines)) k 0 ≡ n + k + 1
unfolding rows_after row_of
rows-number n d [] k h = absurd (not-suc-le-zero h)
rows-number n d (line ∷ lines) zero h = omega arith
rows-number n d (line ∷ lines) (suc k) h = rows-number (n + 1) (desk_after d (record_of line)) lines k (le_of_suc-le-suc h) ∙ omega arith

module _ (d : Desk) (r : Option Record) where
  pub refused-desk : {x : Refusal} {i : ℕ} → record_answer d r ≡ Refused x i → desk_after d r ≡ d
  unfolding desk_after
  refused-desk e = leaves-before (record_done d r) d e

  pub refused-value : {x : Refusal} {i : ℕ} → record_answer d r ≡ Refused x i → value_after d r ≡ 0
  unfolding value_after
  refused-value e = leaves-before (record_value d r) 0 e

  pub accepted-desk : record_answer d r ≡ Accepted → desk_after d r ≡ record_done d r
  unfolding desk_after
  accepted-desk e = leaves-done (record_done d r) d e

  pub accepted-value : record_answer d r ≡ Accepted → value_after d r ≡ record_value d r
  unfolding value_after
  accepted-value e = leaves-done (record_value d r) 0 e

module _ (d : Desk) (a : Answer) where
  pub unframed : d.framed ≡ false → framed_or d a ≡ Refused Size 0
  unfolding framed_or
  unframed e = ap (λ (t : Bool). cond t a (Refused Size 0)) e

  pub framed_is : d.framed ≡ true → framed_or d a ≡ a
  unfolding framed_or
  framed_is e = ap (λ (t : Bool). cond t a (Refused Size 0)) e
