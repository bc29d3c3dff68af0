-- `lut_calls::samples::answer_all` meets its contract: points, rows and bounds are the settings', and the loop goes by them. Assumes nothing.
use Prim.Native.Nat.{ℕ}
use native.Mathlib.Omega.{arith}
use mathlib.Core.Path.{◌≡◌, refl, ap, ap₂, ◌∙◌}
use mathlib.Core.Bool.{true}
use mathlib.Core.List.{List, map}
use lib.IntN.{ℤ}
use Rattle.general.proofs.NumberLaws.{ud-abs}
use Rattle.lut.specs.declared.Slope.{Slope}
use Rattle.lut.specs.declared.LutSettings.{LutSettings}
use Rattle.lut.specs.Samples.{sample_answer}
use Rattle.lut.specs.Steps.{x_valid, y_valid}
use Rattle.lut.proofs.BetweenLaws.{between-abs}
use Rattle.lut.proofs.SideLaws.{y_valid-parts, x_valid-mode, x_valid-below, x_valid-above}
use Rattle.lut_calls.specs.declared.Bounds.{Bounds}
use Rattle.lut_calls.specs.declared.TableRows.{TableRows}
use Rattle.lut_calls.specs.StepsRows.{linear_rows, rows_x, rows_of}
use Rattle.lut_calls.specs.StepsPoints.{Stored, Filled}
use Rattle.lut_calls.specs.StepsLoop.{bounds_of, wide_of, SettingsFit, pair_of, pair_answer, Tally, Ranged, count_at}
use Rattle.lut_calls.proofs.PointLaws.{stored-kept}
use Rattle.lut_calls.proofs.PlanLaws.{pair_number, pair_is, ready_by, planned-ready, planned-answer}
use Rattle.lut_calls.proofs.LoopLaws.{nothing_seen, map-ranged, count-ranged}
use Rattle.lut_calls.proofs.PairLaws.{seen-counted, seen-room}
use Rattle.lut_calls.proofs.samples.answer_all.Goals as goal

-- Y's points stay where X's are written
stored-y : {firsts₀ rises₀ firsts₁ rises₁ firsts rises xs ys : List ℤ} {y_below y_above x_below x_above : Slope}
    → Filled firsts₀ rises₀ firsts₁ rises₁ ys 0 256 y_below y_above → Filled firsts₁ rises₁ firsts rises xs 258 64 x_below x_above
    → Stored firsts rises ys 0 256 y_below y_above
stored-y h e = stored-kept h.stored (λ j l. e.firsts_kept j (omega arith)) (λ j l. e.rises_kept j (omega arith))

-- what is counted, by the settings
tally : (s : LutSettings) → SettingsFit s → x_valid s.x ≡ true → y_valid s.y ≡ true → (samples : List ℤ) (b : Bounds) (seen : List ℕ) → b ≡ bounds_of s
    → Tally (pair_of b) samples seen → Ranged samples → Tally (pair_number s) samples seen
tally s fit x y samples b seen e t range k =
    t k ∙ ap (λ (b : Bounds). count_at (pair_of b) k samples) e ∙ count-ranged (pair_of (bounds_of s)) (pair_number s) (pair_is s fit x y) k samples range

pub fill-requires-clause-shift_value : goal.fill-requires-clause-shift_value
fill-requires-clause-shift_value c = let t = y_valid-parts c.args.s.y c.requires.in_bounds.3 in (t.2, t.3)

pub fill-requires-2-clause-shift_value : goal.fill-requires-2-clause-shift_value
fill-requires-2-clause-shift_value c = let x = c.args.s.x in (x_valid-below x c.requires.in_bounds.2, x_valid-above x c.requires.in_bounds.2)

pub rows_x-requires : goal.rows_x-requires
rows_x-requires c = x_valid-mode c.args.s.x c.requires.in_bounds.2

pub linear_rows-requires : goal.linear_rows-requires
linear_rows-requires c =
    let y = c.args.s.y in
    let b = between-abs 7 25 y.select (y_valid-parts y c.requires.in_bounds.3).0 in
    (ud-abs y.select b.0 (omega (arith, b.1)), omega arith)

pub bounds_of-requires : goal.bounds_of-requires
bounds_of-requires c = x_valid-mode c.args.s.x c.requires.in_bounds.2

pub all-requires-clause-all_ready : goal.all-requires-clause-all_ready
all-requires-clause-all_ready c =
    let a = c.args in
    let rows_are : c.rows_of-all_rows.result ≡ rows_of a.s (rows_x a.s.x) (linear_rows a.s.y 0 256) =
    c.rows_of-all_rows.ensures ∙ ap₂ (λ (x y : TableRows). rows_of a.s x y) c.rows_x.ensures c.linear_rows.ensures in
    ready_by rows_are c.bounds_of.ensures.0 c.wide_of.ensures
    (planned-ready a.s c.bounds_of.ensures.1 c.requires.in_bounds.2 c.requires.in_bounds.3 a.xs.now a.ys.now c.fill-2.new.firsts c.fill-2.new.rises
    c.fill-2.ensures.stored (stored-y c.fill.ensures c.fill-2.ensures))

pub all-requires-clause-outputs_len : goal.all-requires-clause-outputs_len
all-requires-clause-outputs_len c =
    (c.requires.outputs_len.0, omega (arith, c.requires.outputs_len.1), refl, nothing_seen (pair_of c.bounds_of.result) 9)

pub tallied-requires : goal.tallied-requires
tallied-requires c =
    let a = c.args in
    let b = c.bounds_of in
    let seen = c.all.new.seen in
    let t = tally a.s b.ensures.1 c.requires.in_bounds.2 c.requires.in_bounds.3 a.samples.now b.result seen b.ensures.0 c.all.ensures.tallied c.all.ensures.ranged in
    seen-room a.s a.samples.now a.c seen t c.requires.outputs_len.1

pub returns-clause-answered : goal.returns-clause-answered
returns-clause-answered c =
    let a = c.args in
    let rows = rows_of a.s (rows_x a.s.x) (linear_rows a.s.y 0 256) in
    let rows_are : c.rows_of-all_rows.result ≡ rows =
    c.rows_of-all_rows.ensures ∙ ap₂ (λ (x y : TableRows). rows_of a.s x y) c.rows_x.ensures c.linear_rows.ensures in
    let firsts = c.fill-2.new.firsts in
    let rises = c.fill-2.new.rises in
    let by : ℤ → ℤ = pair_answer rows (bounds_of a.s) firsts rises (wide_of a.s.x.mode) in
    let answers : c.all.new.outputs ≡ map (pair_answer rows (bounds_of a.s) firsts rises (wide_of a.s.x.mode)) a.samples.now
    = simp (rows_are, c.bounds_of.ensures.0, c.wide_of.ensures) at c.all.ensures.answered in
    answers
    ∙ map-ranged by (sample_answer a.s a.xs.now a.ys.now)
    (planned-answer a.s c.bounds_of.ensures.1 c.requires.in_bounds.2 c.requires.in_bounds.3 a.xs.now a.ys.now firsts rises
    c.fill-2.ensures.stored (stored-y c.fill.ensures c.fill-2.ensures))
    a.samples.now c.all.ensures.ranged

pub returns-clause-tallied : goal.returns-clause-tallied
returns-clause-tallied c =
    let a = c.args in
    let b = c.bounds_of in
    let seen = c.all.new.seen in
    let t = tally a.s b.ensures.1 c.requires.in_bounds.2 c.requires.in_bounds.3 a.samples.now b.result seen b.ensures.0 c.all.ensures.tallied c.all.ensures.ranged in
    c.tallied.ensures ∙ seen-counted a.s a.samples.now a.c seen t
