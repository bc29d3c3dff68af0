-- `lut_calls::rules::scaled` meets its contract: the product stays within 64 bits. Assumes nothing.
use native.Mathlib.Omega.{arith}
use mathlib.Core.Path.{◌≡◌}
use mir.Facts.{to_z-of_z}
use Rattle.general.proofs.UpDown.{up, dn}
use Rattle.general.proofs.NumberLaws.{ud-abs}
use Rattle.lut.proofs.BetweenLaws.{between-abs}
use Rattle.lut.proofs.RuleLaws.{scaled-is}
use Rattle.lut_calls.proofs.rules.scaled.Goals as goal

up_is : (c : goal.After-above_zero) → c.above_zero.result ≡ up c.args.select
up_is c = simp (to_z-of_z c.ranges.select) at c.above_zero.ensures

dn-is : (c : goal.After-below_zero) → c.below_zero.result ≡ dn c.args.select
dn-is c = simp (to_z-of_z c.ranges.select) at c.below_zero.ensures

pub overflow_shl-result : goal.overflow_shl-result
overflow_shl-result c = omega (arith, up_is c, (between-abs 7 25 c.args.select c.requires.1).0)

pub below_zero-requires : goal.below_zero-requires
below_zero-requires c =
    let s = c in
    let b = between-abs 7 25 s.args.select s.requires.1 in
    rw (to_z-of_z s.ranges.select) (ud-abs s.args.select (omega (arith, b.0)) (omega (arith, b.1)))

pub overflow_shr-result : goal.overflow_shr-result
overflow_shr-result c = let s = c in omega (arith, dn-is c, (between-abs 7 25 s.args.select s.requires.1).1)

pub returns : goal.returns
returns c =
    let s = c in
    scaled-is s.args.n s.args.select s.requires.0 s.requires.1 (up_is c.before) (dn-is c)
