-- `lut_calls::rows::rows_x` meets its contract: its cases are the definition's. Assumes nothing.
use native.Mathlib.Omega.{arith}
use mathlib.Core.Path.{◌≡◌, refl, ◌∙◌}
use Rattle.general.proofs.NumberLaws.{back32, ud-abs}
use Rattle.lut.specs.Tables.{linear_x}
use Rattle.lut.proofs.BetweenLaws.{between-abs}
use Rattle.lut.proofs.AnswerLaws.{mode_valid-linear, mode_valid-exponential}
use Rattle.lut_calls.specs.StepsRows.{slope_row, power_row, linear_rows, rows_x}
use Rattle.lut_calls.proofs.rows.rows_x.Goals as goal

pub linear_rows-requires : goal.linear_rows-requires
linear_rows-requires c =
    let s = c in
    let b = between-abs 5 25 c.in-Linear.select (mode_valid-linear s.args.s.mode c.in-Linear.select c.in-Linear.is ∙ s.requires) in
    rw (back32 c.in-Linear.select c.in-Linear.known_told-1-own.given.0.1) (ud-abs c.in-Linear.select b.0 (omega (arith, b.1)), omega arith)

pub power_row-requires : goal.power_row-requires
power_row-requires c =
    let k = c in
    let s = k in
    let b = between-abs 31 31 k.in-Exponential.offset (mode_valid-exponential s.args.s.mode k.in-Exponential.offset k.in-Exponential.is ∙ s.requires) in
    rw (back32 k.in-Exponential.offset k.in-Exponential.known_told-in-Exponential-1-own.given.0.1) (ud-abs k.in-Exponential.offset (omega (arith, b.0)) b.1)

pub returns-in-Linear : goal.returns-in-Linear
unfolding rows_x
returns-in-Linear c =
    let k = c in
    let t = k in
    let s = t.args.s in
    let r : c.linear_rows.result ≡ linear_rows (linear_x s k.in-Linear.select) 258 64
    = simp (back32 k.in-Linear.select k.in-Linear.known_told-1-own.given.0.1, back32 s.start t.struct_told-1.given.1.0.1, back32 s.end t.struct_told-1.given.1.1.0.1)
    at c.linear_rows.ensures in
    rw k.in-Linear.is r

pub returns-in-Exponential : goal.returns-in-Exponential
unfolding rows_x
returns-in-Exponential c =
    let p = c in
    let b = p in
    let k = b in
    let t = k in
    let s = t.args.s in
    let told = t.struct_told-1.given in
    let start = back32 s.start told.1.0.1 in
    let below : b.slope_row.result ≡ slope_row s.start s.below.shift 323
    = simp (start, back32 s.below.shift told.1.1.1.0.1.1.1.0.1) at b.slope_row.ensures in
    let hit : p.power_row.result ≡ power_row s.start k.in-Exponential.offset = simp (start, back32 k.in-Exponential.offset k.in-Exponential.known_told-in-Exponential-1-own.given.0.1) at p.power_row.ensures in
    let above : c.slope_row-in-Exponential.result ≡ slope_row s.end s.above.shift 322
    = simp (back32 s.end told.1.1.0.1, back32 s.above.shift told.1.1.1.1.0.1.1.1.0.1) at c.slope_row-in-Exponential.ensures in
    rw (k.in-Exponential.is, below, hit, above) refl
