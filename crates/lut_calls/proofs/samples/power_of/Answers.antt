-- `lut_calls::samples::power_of` meets its contract: the distance is the definition's, and above 0. Assumes nothing.
use native.Mathlib.Omega.{arith}
use mathlib.Core.Path.{◌≡◌, ap, ◌∙◌}
use lib.IntN.{ℤ, nat_abs, ◌-ℤ◌, ◌*ℤ◌}
use mir.Facts.{to_z-of_z}
use Rattle.general.proofs.NumberLaws.{held, back32, back64}
use Rattle.lut.specs.Numbers.{log_below}
use Rattle.lut_calls.specs.StepsRows.{row_wide, row_power}
use Rattle.lut_calls.proofs.samples.power_of.Goals as goal

far-held : (c : goal.After-far) → let a = c.args in held c.far.result ≡ row_wide a.r a.x
unfolding row_wide
far-held c =
    let s = c in
    let t = c.struct_told-1.given in
    let e : c.far.result ≡ (s.args.x -ℤ s.args.r.origin) *ℤ s.args.r.wide
    = simp (to_z-of_z s.ranges.x, back32 s.args.r.origin t.0.1, back64 s.args.r.wide t.1.1.1.1.1.0.1) at c.far.ensures in
    back64 c.far.result c.far.type_inv ∙ e

pub far-requires : goal.far-requires
unfolding row_wide
far-requires c =
    let s = c in
    let t = c.struct_told-1.given in
    rw (to_z-of_z s.ranges.x, back32 s.args.r.origin t.0.1, back64 s.args.r.wide t.1.1.1.1.1.0.1) s.requires.wide_le

pub overflow_cast-far : goal.overflow_cast-far
overflow_cast-far c =
    let p = c.requires in
    rw (far-held c ∙ p.wide_is) (tt, record { fits = omega (arith, p.wide_le) })

pub returns-then-wide : goal.returns-then-wide
unfolding row_power
returns-then-wide c =
    let i = c in
    rw i.if-wide.true (c.log2.ensures ∙ ap (λ (z : ℤ). log_below 32 (nat_abs z)) (far-held c.before))

pub returns : goal.returns
unfolding row_power
returns c = rw c.if-wide.false
