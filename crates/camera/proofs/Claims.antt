-- The claims about the camera curve and its ready-made settings (scope paper, "Two tables"). Assumes nothing.
use Prim.Native.Nat.{ℕ, ◌+◌, ◌*◌, ◌≤◌, ◌<◌, min}
use mathlib.Core.Path.{◌≡◌, refl, sym}
use mathlib.Core.Bool.{false}
use mathlib.Core.List.{List, [], ◌∷◌}
use lib.Dec.{leb, eqb}
use lib.IntN.{ℤ, pos, nat_abs}
use lib.ListN.{length, get_or}
use Rattle.std.specs.Prelude.{Option, Ok, Err}
use Rattle.refusal.specs.declared.Refusal.TheVariants.{OutputLength, YSelect, Counters as CounterLimit}
use Rattle.refusal.specs.Checks.{require, in_order, Accepted, refused_at}
use Rattle.lut.specs.declared.Counters.{Counters}
use Rattle.lut.specs.declared.Table.{Table}
use Rattle.lut.specs.Numbers.{between}
use Rattle.lut.specs.Rules.{counter_sum}
use Rattle.lut.specs.Calls.{run_answer}
use Rattle.camera.specs.Curve.{curve_x, curve_y, x_table, y_table}
use Rattle.camera.specs.Ready.{ready_settings, ready_answer}
use Rattle.camera.proofs.CurveLaws.{curve-rule, entry-read}
use Rattle.camera.proofs.ReadyLaws.{pos-between, answer-setting, answer-refused}
use Rattle.camera.proofs.AcceptedLaws.{accepted-but, accepted-where}

-- entry i of Y is the greatest whole e with e² ≤ i·1048576
pub y-rule : (i : ℕ) → i ≤ 256 → let e = nat_abs (curve_y i) in (e * e ≤ i * 1048576) × (i * 1048576 < (e + 1) * (e + 1))
unfolding curve_y
y-rule = curve-rule 256 1048576

-- entry j of X is the greatest whole e with e² ≤ j·262144
pub x-rule : (j : ℕ) → j ≤ 64 → let e = nat_abs (curve_x j) in (e * e ≤ j * 262144) × (j * 262144 < (e + 1) * (e + 1))
unfolding curve_x
x-rule = curve-rule 64 262144

-- an entry of a table is the curve's; past the last index the curve keeps its last entry
pub y-at : (i : ℕ) → get_or y_table (min i 256) (pos 0) ≡ curve_y i
unfolding y_table curve_y
y-at i = entry-read 256 1048576 i refl refl

pub x-at : (j : ℕ) → get_or x_table (min j 64) (pos 0) ≡ curve_x j
unfolding x_table curve_x
x-at j = entry-read 64 262144 j refl refl

module _ (priority overflow underflow : Option Table) where
  -- a select from 2 to 22 gives its settings
  pub valid : (s : ℕ) → 2 ≤ s → s ≤ 22 → ready_answer (pos s) priority overflow underflow ≡ Ok (ready_settings (pos s) priority overflow underflow)
  valid s low high = sym (answer-setting (pos s) priority overflow underflow (pos-between 2 22 s low high))

  -- any other is refused
  pub refused : (s : ℤ) → between (pos 2) (pos 22) s ≡ false → ready_answer s priority overflow underflow ≡ Err (refused_at 0 YSelect)
  refused s h = sym (answer-refused s priority overflow underflow h)

  module _ (s : ℕ) (low : 2 ≤ s) (high : s ≤ 22) (samples : List ℤ) (outputs : ℕ) (c : Counters) where
    -- the lookup refuses the settings and the two tables only for the output's length and the counters
    pub accepted-but-lengths : run_answer (ready_settings (pos s) priority overflow underflow) x_table y_table samples outputs c
        ≡ in_order (require OutputLength (eqb outputs (length samples)) ∷ require CounterLimit (leb (counter_sum c + length samples) 4294967295) ∷ [])
    accepted-but-lengths = accepted-but s low high priority overflow underflow samples outputs c

    -- and accepts them where these two are right
    pub accepted : outputs ≡ length samples → counter_sum c + length samples ≤ 4294967295
        → run_answer (ready_settings (pos s) priority overflow underflow) x_table y_table samples outputs c ≡ Accepted
    accepted e h = accepted-where s low high priority overflow underflow samples outputs c e h
