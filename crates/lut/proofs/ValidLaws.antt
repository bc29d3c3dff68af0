-- What an accepted run tells: each rule of the scope paper holds ("Two tables"). And what a run leaves, by its answer. Assumes nothing.
--     Valid, valid                            the rules; an accepted run meets them
--     outputs-left .. counters-kept           outputs and counters of an accepted and of a refused run
use Prim.Native.Nat.{ℕ, ◌+◌, ◌≤◌}
use mathlib.Core.Path.{◌≡◌, refl, sym}
use mathlib.Core.Bool.{true, ◌&&◌}
use mathlib.Core.List.{List, map}
use lib.Dec.{leb, eqb}
use lib.IntN.{ℤ}
use lib.ListN.{length}
use borrow.Author.Tests.{leb-true, eqb-true}
use Rattle.general.proofs.TestLaws.{and_left, and_right, and-four}
use Rattle.std.specs.Prelude.{Err}
use Rattle.refusal.specs.declared.Fault.{Fault}
use Rattle.refusal.specs.declared.Refusal.TheVariants.{TableLength, XSelect, XEnd, YSelect, YEnd, Shift, Counters as CounterLimit, OutputLength}
use Rattle.refusal.specs.Checks.{in_order, Accepted}
use Rattle.refusal.proofs.CheckLaws.{Held, in_order-all, require_at-held, leaves-done, leaves-before}
use Rattle.lut.specs.declared.LutSettings.{LutSettings}
use Rattle.lut.specs.declared.Counters.{Counters}
use Rattle.lut.specs.Rules.{mode_valid, end_valid, y_select_valid, y_end_valid, shift_valid, shifts_valid, counter_sum, table_checks, lut_checks}
use Rattle.lut.specs.Samples.{sample_answer, counted}
use Rattle.lut.specs.Steps.{x_valid, y_valid}
use Rattle.lut.specs.Calls.{run_answer, run_outputs, run_counters}

pub record Valid (s : LutSettings) (xs ys samples outputs : ℕ) (c : Counters) : Type 0 where
  pub x_long : xs ≡ 65
  pub y_long : ys ≡ 257
  pub valid_x : x_valid s.x ≡ true
  pub valid_y : y_valid s.y ≡ true
  pub long : outputs ≡ samples
  pub room : counter_sum c + samples ≤ 4294967295

module _ (s : LutSettings) (xs ys samples outputs : ℕ) (c : Counters) where
  pub valid : in_order (lut_checks s xs ys samples outputs c) ≡ Accepted → Valid s xs ys samples outputs c
  unfolding table_checks lut_checks Held x_valid y_valid
  valid e =
      let h = in_order-all (lut_checks s xs ys samples outputs c) e in
      let lengths = require_at-held 0 TableLength (eqb xs 65 && eqb ys 257) h.0 in
      let shift = and-four (shift_valid s.x.below.shift) (shift_valid s.x.above.shift) (shift_valid s.y.below.shift) (shift_valid s.y.above.shift) (require_at-held 0 Shift (shifts_valid s) h.1.1.1.1.1.0) in
      record {
        x_long = eqb-true xs 65 (and_left (eqb xs 65) (eqb ys 257) lengths);
        y_long = eqb-true ys 257 (and_right (eqb xs 65) (eqb ys 257) lengths);
        valid_x = rw (require_at-held 0 XSelect (mode_valid s.x.mode) h.1.0, require_at-held 0 XEnd (end_valid s.x) h.1.1.0, shift.0, shift.1) refl;
        valid_y = rw (require_at-held 0 YSelect (y_select_valid s.y) h.1.1.1.0, require_at-held 0 YEnd (y_end_valid s.y) h.1.1.1.1.0, shift.2, shift.3) refl;
        long = eqb-true outputs samples (require_at-held 0 OutputLength (eqb outputs samples) h.1.1.1.1.1.1.0);
        room = leb-true (counter_sum c + samples) 4294967295 (require_at-held 0 CounterLimit (leb (counter_sum c + samples) 4294967295) h.1.1.1.1.1.1.1.0);
      }

-- ---- what a run leaves

module _ (s : LutSettings) (xs ys samples before : List ℤ) (c : Counters) where
  module _ (e : run_answer s xs ys samples (length before) c ≡ Accepted) where
    pub valid-run : Valid s (length xs) (length ys) (length samples) (length before) c
    unfolding run_answer
    valid-run = valid s (length xs) (length ys) (length samples) (length before) c e

    pub outputs-left : map (sample_answer s xs ys) samples ≡ run_outputs s xs ys samples c before
    unfolding run_outputs
    outputs-left = sym (leaves-done (map (sample_answer s xs ys) samples) before e)

    pub counters-left : counted s samples c ≡ run_counters s xs ys samples (length before) c
    unfolding run_counters
    counters-left = sym (leaves-done (counted s samples c) c e)

  module _ {f : Fault} (e : run_answer s xs ys samples (length before) c ≡ Err f) where
    pub outputs-kept : before ≡ run_outputs s xs ys samples c before
    unfolding run_outputs
    outputs-kept = sym (leaves-before (map (sample_answer s xs ys) samples) before e)

    pub counters-kept : c ≡ run_counters s xs ys samples (length before) c
    unfolding run_counters
    counters-kept = sym (leaves-before (counted s samples c) c e)
