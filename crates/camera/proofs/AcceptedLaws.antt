-- The lookup's checks of the ready-made settings and the two tables: all but the last two pass, whatever the select. Assumes nothing.
--     accepted-but, accepted-where      what the lookup answers; and where both last checks hold
use Prim.Native.Nat.{ℕ, ◌+◌, ◌-◌, ◌≤◌}
use native.Mathlib.Nat.{le_refl}
use native.Mathlib.Omega.{arith}
use mathlib.Core.Path.{◌≡◌, refl, ap, ◌∙◌}
use mathlib.Core.Bool.{true, ◌&&◌}
use mathlib.Core.List.{List, [], ◌∷◌}
use lib.Dec.{leb, eqb}
use lib.IntN.{ℤ, pos, negsuc, ◌+ℤ◌, ◌-ℤ◌, +ℤ_idl}
use lib.ListN.{length}
use Rattle.std.specs.Prelude.{Option}
use borrow.Author.Tests.{le-leb, eq-eqb}
use Rattle.refusal.specs.declared.Refusal.TheVariants.{TableLength, XSelect, XEnd, YSelect, YEnd, Shift, Counters as CounterLimit, OutputLength}
use Rattle.refusal.specs.Checks.{require, in_order, Accepted}
use Rattle.refusal.proofs.CheckLaws.{in_order-nil, in_order-next}
use Rattle.lut.specs.declared.Counters.{Counters}
use Rattle.lut.specs.declared.Table.{Table}
use Rattle.lut.specs.Numbers.{between, scaled}
use Rattle.lut.specs.Rules.{mode_valid, same_z, end_valid, shift_valid, counter_sum, table_checks, lut_checks}
use Rattle.lut.specs.Calls.{run_answer}
use Rattle.camera.specs.Curve.{curve_x, curve_y, x_table, y_table}
use Rattle.camera.specs.Ready.{flat, ready_settings}
use Rattle.camera.proofs.CurveLaws.{entries-length}
use Rattle.camera.proofs.ReadyLaws.{less_two}

tables-valid : eqb (length x_table) 65 && eqb (length y_table) 257 ≡ true
unfolding x_table y_table
tables-valid = rw (entries-length curve_x 0 65, entries-length curve_y 0 257)

-- a number from 0 to b lies in a range that begins below 0
wide-between : (a b k : ℕ) → k ≤ b → between (negsuc a) (pos b) (pos k) ≡ true
unfolding between
wide-between a b k h = le-leb k b h

same_self : (n : ℕ) → same_z (pos n) (pos n) ≡ true
unfolding same_z
same_self n = rw (le-leb n n (le_refl n))

same_end : (n : ℕ) → same_z (pos n) (pos 0 +ℤ pos n) ≡ true
same_end n = ap (same_z (pos n)) (+ℤ_idl (pos n)) ∙ same_self n

module _ (s : ℕ) (low : 2 ≤ s) (high : s ≤ 22) (priority overflow underflow : Option Table) where
  mode-valid : mode_valid (ready_settings (pos s) priority overflow underflow).x.mode ≡ true
  unfolding mode_valid ready_settings
  mode-valid = ap (between (negsuc 5) (pos 25)) (less_two s low) ∙ wide-between 5 25 (s - 2) (omega arith)

  pub accepted-but : (samples : List ℤ) (outputs : ℕ) (c : Counters)
      → run_answer (ready_settings (pos s) priority overflow underflow) x_table y_table samples outputs c
      ≡ in_order (require OutputLength (eqb outputs (length samples)) ∷ require CounterLimit (leb (counter_sum c + length samples) 4294967295) ∷ [])
  unfolding run_answer table_checks lut_checks ready_settings flat end_valid shift_valid between
  accepted-but samples outputs c =
      in_order-next 0 TableLength _ tables-valid
      ∙ in_order-next 0 XSelect _ mode-valid
      ∙ in_order-next 0 XEnd _ (same_end (scaled 64 (pos s -ℤ pos 2)))
      ∙ in_order-next 0 YSelect _ (wide-between 7 23 s (omega arith))
      ∙ in_order-next 0 YEnd _ (same_end (scaled 256 (pos s)))
      ∙ in_order-next 0 Shift _ refl

  pub accepted-where : (samples : List ℤ) (outputs : ℕ) (c : Counters) → outputs ≡ length samples → counter_sum c + length samples ≤ 4294967295
      → run_answer (ready_settings (pos s) priority overflow underflow) x_table y_table samples outputs c ≡ Accepted
  accepted-where samples outputs c e h =
      accepted-but samples outputs c
      ∙ in_order-next 0 OutputLength _ (eq-eqb outputs (length samples) e)
      ∙ in_order-next 0 CounterLimit _ (le-leb (counter_sum c + length samples) 4294967295 h)
      ∙ in_order-nil
