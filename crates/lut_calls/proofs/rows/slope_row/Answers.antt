-- `lut_calls::rows::slope_row` meets its contract: the numbers are read back. Assumes nothing.
use mathlib.Core.Path.{refl}
use mir.Facts.{to_z-of_z}
use Rattle.lut_calls.specs.StepsRows.{slope_row}
use Rattle.lut_calls.proofs.rows.slope_row.Goals as goal

pub returns : goal.returns
unfolding slope_row
returns c = let f = c.ranges in rw (c.above_zero-down.ensures, to_z-of_z f.origin, to_z-of_z f.shift) refl
