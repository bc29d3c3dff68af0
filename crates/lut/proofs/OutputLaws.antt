-- The outputs of an accepted run: each is the answer to its sample, a hit's lies between its two entries, and what stands behind a table's last entry is not
-- read. Assumes nothing.
--     output-is                                 an output
--     output-x-enclosed, output-y-enclosed      a hit
--     x-past-last, y-past-last                  a table with more entries behind its last
use Prim.Native.Nat.{ℕ, zero, suc, ◌≤◌, ◌<◌}
use native.Mathlib.Omega.{arith}
use mathlib.Core.Path.{◌≡◌, refl, sym, ap, subst, ◌∙◌}
use mathlib.Core.List.{List, [], ◌∷◌, ◌++◌, map}
use lib.IntN.{ℤ, pos}
use lib.ListN.{length, get_or-append}
use mir.Syntax.{w32}
use mir.Val.{SFits}
use Rattle.general.proofs.NumberLaws.{ud-fits}
use Rattle.refusal.specs.Checks.{Accepted}
use Rattle.lut.specs.declared.Table.{Table}
use Rattle.lut.specs.declared.Table.TheVariants.{X, Y}
use Rattle.lut.specs.declared.Side.TheVariants.{Hit}
use Rattle.lut.specs.declared.LutSettings.{LutSettings}
use Rattle.lut.specs.declared.Counters.{Counters}
use Rattle.lut.specs.Tables.{entry, side_x, answer_x, side_y, answer_y}
use Rattle.lut.specs.Samples.{sample_kind, answering, answer_of, sample_answer}
use Rattle.lut.specs.Calls.{run_answer, run_outputs}
use Rattle.lut.specs.Hits.{Enclosed, index_x, index_y, Signed32}
use Rattle.lut.proofs.BetweenLaws.{between-abs}
use Rattle.lut.proofs.SideLaws.{y_valid-parts}
use Rattle.lut.proofs.ValidLaws.{Valid, valid-run, outputs-left}
use Rattle.lut.proofs.EnclosedLaws.{x-enclosed, y-enclosed, x-agree, y-agree}

signed-fits : (z : ℤ) → Signed32 z → SFits w32 z
signed-fits z e = let b = between-abs 2147483647 2147483647 z e in ud-fits z b.0 b.1

entry-map : (f : ℤ → ℤ) (l : List ℤ) (j : ℕ) → j < length l → entry (map f l) j ≡ f (entry l j)
unfolding entry
entry-map f [] j h = absurd (omega arith)
entry-map f (x ∷ l) zero h = refl
entry-map f (x ∷ l) (suc j) h = entry-map f l j (omega arith)

entry-front : (l more : List ℤ) (last : ℕ) → last < length l → (i : ℕ) → i ≤ last → entry (l ++ more) i ≡ entry l i
unfolding entry
entry-front l more last h i k = get_or-append l more (pos 0) i (omega arith)

answer-by : (s : LutSettings) (xs ys : List ℤ) (x : ℤ) (t : Table) → answering s (sample_kind s x) ≡ t → sample_answer s xs ys x ≡ answer_of s xs ys t x
unfolding sample_answer
answer-by s xs ys x t e = ap (λ (u : Table). answer_of s xs ys u x) e

module _ (s : LutSettings) (xs ys samples before : List ℤ) (c : Counters) (accepted : run_answer s xs ys samples (length before) c ≡ Accepted) where
  abbrev outputs : List ℤ
  outputs = run_outputs s xs ys samples c before

  holds : Valid s (length xs) (length ys) (length samples) (length before) c
  holds = valid-run s xs ys samples before c accepted

  pub output-is : (j : ℕ) → j < length samples → entry outputs j ≡ sample_answer s xs ys (entry samples j)
  output-is j h = ap (λ (l : List ℤ). entry l j) (sym (outputs-left s xs ys samples before c accepted)) ∙ entry-map (sample_answer s xs ys) samples j h

  module _ (j : ℕ) (h : j < length samples) where
    abbrev x : ℤ
    x = entry samples j

    pub output-x-enclosed : Signed32 s.x.start → Signed32 x → answering s (sample_kind s x) ≡ X → side_x s.x x ≡ Hit → Enclosed xs 64 (index_x s.x x) (entry outputs j)
    unfolding answer_of
    output-x-enclosed fs fx e side =
        subst (λ (v : ℤ). Enclosed xs 64 (index_x s.x x) v) (sym (output-is j h ∙ answer-by s xs ys x X e))
        (x-enclosed s.x holds.valid_x x (signed-fits s.x.start fs) (signed-fits x fx) xs side)

    pub output-y-enclosed : answering s (sample_kind s x) ≡ Y → side_y s.y x ≡ Hit → Enclosed ys 256 (index_y s.y x) (entry outputs j)
    unfolding answer_of
    output-y-enclosed e side =
        subst (λ (v : ℤ). Enclosed ys 256 (index_y s.y x) v) (sym (output-is j h ∙ answer-by s xs ys x Y e))
        (y-enclosed s.y ys x (y_valid-parts s.y holds.valid_y).1 side)

  module _ (more : List ℤ) (x : ℤ) where
    pub x-past-last : Signed32 s.x.start → Signed32 x → answer_x s.x (xs ++ more) x ≡ answer_x s.x xs x
    x-past-last fs fx =
        x-agree s.x holds.valid_x x (signed-fits s.x.start fs) (signed-fits x fx) (xs ++ more) xs (entry-front xs more 64 (omega (arith, holds.x_long)))

    pub y-past-last : answer_y s.y (ys ++ more) x ≡ answer_y s.y ys x
    y-past-last = y-agree s.y (ys ++ more) ys x (y_valid-parts s.y holds.valid_y).1 (entry-front ys more 256 (omega (arith, holds.y_long)))
