-- `lut_calls::rows::linear_rows` meets its contract: the settings' numbers are read back. Assumes nothing.
use Prim.Native.Nat.{◌+◌}
use mathlib.Core.Path.{◌≡◌, refl}
use Rattle.general.proofs.NumberLaws.{back32}
use Rattle.lut_calls.specs.StepsRows.{slope_row, line_row, linear_rows}
use Rattle.lut_calls.proofs.rows.linear_rows.Goals as goal

pub returns : goal.returns
unfolding linear_rows
returns c =
    let told = c in
    let a = told.args in
    let t = a.t in
    let g = told.struct_told-1.given in
    let start = back32 t.start g.1.0.1 in
    let below : c.slope_row.result ≡ slope_row t.start t.below.shift (a.base + a.last + 1)
    = simp (start, back32 t.below.shift g.1.1.1.0.1.1.1.0.1) at c.slope_row.ensures in
    let hit : c.line_row.result ≡ line_row t.start t.select a.base = simp (start, back32 t.select g.0.1) at c.line_row.ensures in
    let above : c.slope_row-2.result ≡ slope_row t.end t.above.shift (a.base + a.last)
    = simp (back32 t.end g.1.1.0.1, back32 t.above.shift g.1.1.1.1.0.1.1.1.0.1) at c.slope_row-2.ensures in
    rw (below, hit, above) refl
