-- `lut_calls::points::rise` meets its contract: the product stays within 32 bits. Assumes nothing.
use Prim.Native.Nat.{◌^◌, ◌≤◌}
use native.Mathlib.Omega.{arith}
use mathlib.Core.Path.{◌≡◌, ap, ◌∙◌}
use mir.Syntax.{w16}
use mir.Val.{SFits}
use Rattle.general.proofs.UpDown.{dn}
use Rattle.general.proofs.NumberLaws.{back32, ud-abs}
use Rattle.lut_calls.proofs.PointLaws.{shift-ud, rise-le, count_fits, rise-fits, rise-value}
use Rattle.lut_calls.proofs.points.rise.Goals as goal

scale-fits : (c : goal.After-struct_told-2-1) → SFits w16 c.args.s.scale
scale-fits c = record { sfits = c.struct_told-1.given.0.1 }

dn-is : (c : goal.After-below_zero) → c.below_zero.result ≡ dn c.args.s.shift
dn-is c =
    let t = c in
    simp (back32 t.args.s.shift t.struct_told-2-1.given.1.0.1) at c.below_zero.ensures

power-is : (c : goal.After-power) → c.power.result ≡ 2 ^ dn c.args.s.shift
power-is c = c.power.ensures ∙ ap (λ (n : _). 2 ^ n) (dn-is c.before)

few : (c : goal.After-power) → c.power.result ≤ 65536
few c = let s = c in rw (power-is c) (rise-le s.args.s.shift s.requires)

pub below_zero-requires : goal.below_zero-requires
below_zero-requires c =
    let s = c in
    let b = shift-ud s.args.s.shift s.requires in
    rw (back32 s.args.s.shift c.struct_told-2-1.given.1.0.1) (ud-abs s.args.s.shift (omega (arith, b.0)) (omega (arith, b.1)))

pub power-requires : goal.power-requires
power-requires c = let s = c in omega (arith, dn-is c, (shift-ud s.args.s.shift s.requires).1)

pub overflow_cast-result-2 : goal.overflow_cast-result-2
overflow_cast-result-2 c = count_fits (few c)

pub overflow_mul-result : goal.overflow_mul-result
overflow_mul-result c = rise-fits (scale-fits c.before.before) (few c)

pub returns : goal.returns
returns c = rise-value c.args.s (scale-fits c.before.before) (few c) (power-is c)
