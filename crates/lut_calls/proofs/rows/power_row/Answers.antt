-- `lut_calls::rows::power_row` meets its contract: the first point's number is above 0. Assumes nothing.
use native.Mathlib.Omega.{arith}
use mathlib.Core.Path.{◌≡◌, refl, ap, ◌∙◌}
use lib.Dec.{lit<}
use lib.IntN.{ℤ, pos, ◌-ℤ◌}
use mir.Syntax.{w32}
use mir.Val.{SFits, to_z, of_z}
use mir.Facts.{to_z-of_z}
use Rattle.general.proofs.Ranges.{within-take, within-fits}
use Rattle.general.proofs.NumberLaws.{nat-within, abs-within}
use Rattle.lut_calls.specs.StepsRows.{power_row}
use Rattle.lut_calls.proofs.rows.power_row.Goals as goal

base-fits : (c : goal.Start) → SFits w32 (pos 257 -ℤ c.args.offset)
base-fits c = within-fits (within-take (nat-within {m = 257} {n = 257} (omega arith)) (abs-within c.args.offset c.requires)) (lit< tt)

base-is : (c : goal.Start) → to_z w32 (of_z w32 (pos 257 -ℤ to_z w32 (of_z w32 c.args.offset))) ≡ pos 257 -ℤ c.args.offset
base-is c = ap (λ (z : ℤ). to_z w32 (of_z w32 (pos 257 -ℤ z))) (to_z-of_z c.ranges.offset) ∙ to_z-of_z (base-fits c)

pub returns : goal.returns
unfolding power_row
returns c = rw (to_z-of_z c.ranges.start, base-is c) refl
