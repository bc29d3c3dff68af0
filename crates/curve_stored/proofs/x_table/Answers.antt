-- `curve_stored::x_table` meets its contract: one test over all stored entries finds each to be the greatest root. Assumes nothing.
use lib.Dec.{lit≤}
use Rattle.camera.specs.Curve.{curve_x, x_table}
use Rattle.curve_stored.proofs.StoredLaws.{curve-all}
use Rattle.curve_stored.proofs.x_table.Goals as goal

pub returns : goal.returns
unfolding curve_x x_table
returns c = curve-all 64 262144 _ 0 tt (lit≤ tt)
