-- `lut_calls::samples::first_x` meets its contract: the sum stays within 64 bits. Assumes nothing.
use Prim.Native.Nat.{◌^◌, ◌≤◌}
use native.Mathlib.Omega.{arith}
use mathlib.Core.Path.{◌≡◌, ap, ◌∙◌}
use lib.IntN.{pos, ◌+ℤ◌}
use mir.Syntax.{w32, w64}
use mir.Val.{SFits}
use mir.Facts.{sfits_widen}
use Rattle.general.proofs.UpDown.{up}
use Rattle.general.proofs.Casts.{cast-value}
use Rattle.general.proofs.NumberLaws.{back32, power_le}
use Rattle.lut.proofs.BetweenLaws.{between-abs}
use Rattle.lut.proofs.AnswerLaws.{mode_valid-exponential}
use Rattle.lut.proofs.RuleLaws.{sum-value}
use Rattle.lut_calls.specs.StepsLoop.{first_x}
use Rattle.lut_calls.proofs.samples.first_x.Goals as goal

up_is : (c : goal.After-above_zero) → c.above_zero.result ≡ up c.in-Exponential.offset
up_is c = let k = c in simp (back32 k.in-Exponential.offset k.in-Exponential.known_told-in-Exponential-1-own.given.0.1) at c.above_zero.ensures

up_le : (c : goal.After-above_zero) → c.above_zero.result ≤ 31
up_le c =
    let m = c in
    let s = m in
    omega (arith, up_is c, (between-abs 31 31 m.in-Exponential.offset (mode_valid-exponential s.args.s.mode m.in-Exponential.offset m.in-Exponential.is ∙ s.requires)).0)

few : (c : goal.After-power) → c.power.result ≤ 8589934592
few c = omega (arith, c.power.ensures, power_le c.above_zero.result (up_le c.before))

pub power-requires : goal.power-requires
power-requires c = up_le c

pub returns-in-Linear : goal.returns-in-Linear
unfolding first_x
returns-in-Linear c =
    let start_fits : SFits w32 c.args.s.start = record { sfits = c.struct_told-1.given.1.0.1 } in
    let m = c in
    let f = start_fits in
    rw m.in-Linear.is (cast-value {w' = w64} f (sfits_widen tt f))

pub returns-in-Exponential : goal.returns-in-Exponential
unfolding first_x
returns-in-Exponential c =
    let start_fits : SFits w32 c.args.s.start = record { sfits = c.struct_told-1.given.1.0.1 } in
    let a = c in
    let m = a in
    let t = m in
    rw m.in-Exponential.is
    (sum-value start_fits (few c) ∙ ap (λ (n : _). t.args.s.start +ℤ pos n) (c.power.ensures ∙ ap (λ (n : _). 2 ^ n) (up_is a.before)))
