-- `lut_calls::rows::line_row` meets its contract: the numbers are read back. Assumes nothing.
use Prim.Native.Nat.{◌^◌, ◌≤◌}
use native.Mathlib.Omega.{arith}
use mathlib.Core.Path.{◌≡◌, refl}
use mir.Syntax.{w64}
use mir.Facts.{to_z-of_z, to_z_pos}
use Rattle.general.proofs.UpDown.{up, dn}
use Rattle.general.proofs.NumberLaws.{power_le, abs-ud}
use Rattle.lut_calls.specs.StepsRows.{line_row}
use Rattle.lut_calls.proofs.rows.line_row.Goals as goal

pub returns : goal.returns
unfolding line_row
returns c =
    let a = c.args in
    let f = c.ranges in
    let up_is : c.above_zero-down.result ≡ up a.select = simp (to_z-of_z f.select) at c.above_zero-down.ensures in
    let dn-is : c.below_zero.result ≡ dn a.select = simp (to_z-of_z f.select) at c.below_zero.ensures in
    let dn_le : c.below_zero.result ≤ 31 = omega (arith, dn-is, (abs-ud a.select c.requires).1) in
    let size = to_z_pos w64 {n = 2 ^ c.below_zero.result} (omega (arith, power_le c.below_zero.result dn_le)) in
    rw (c.power-size.ensures, size, dn-is, up_is, to_z-of_z f.start) refl
