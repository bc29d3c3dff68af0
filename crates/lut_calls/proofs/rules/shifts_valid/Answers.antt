-- `lut_calls::rules::shifts_valid` meets its contract: what it hands on is read back. Assumes nothing.
use mathlib.Core.Path.{◌≡◌}
use Rattle.general.proofs.NumberLaws.{back32}
use Rattle.lut.specs.Rules.{shift_valid}
use Rattle.lut_calls.proofs.rules.shifts_valid.Goals as goal

pub returns : goal.returns
unfolding shift_valid
returns c =
    let d = c in
    let s = d.args.s in
    let t = d.struct_told-1.given in
    let first : c.between.result ≡ shift_valid s.x.below.shift
    = simp (back32 s.x.below.shift t.0.1.1.1.1.1.0.1.1.1.0.1) at c.between.ensures in
    let second : c.between-2.result ≡ shift_valid s.x.above.shift
    = simp (back32 s.x.above.shift t.0.1.1.1.1.1.1.0.1.1.1.0.1) at c.between-2.ensures in
    let third : c.between-3.result ≡ shift_valid s.y.below.shift
    = simp (back32 s.y.below.shift t.1.0.1.1.1.1.1.0.1.1.1.0.1) at c.between-3.ensures in
    let fourth : c.between-4.result ≡ shift_valid s.y.above.shift
    = simp (back32 s.y.above.shift t.1.0.1.1.1.1.1.1.0.1.1.1.0.1) at c.between-4.ensures in
    rw (first, second, third, fourth)
