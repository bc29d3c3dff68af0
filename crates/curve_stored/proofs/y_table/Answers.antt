-- `curve_stored::y_table` meets its contract: one test over all stored entries finds each to be the greatest root. Assumes nothing.
use lib.Dec.{lit≤}
use Rattle.camera.specs.Curve.{curve_y, y_table}
use Rattle.curve_stored.proofs.StoredLaws.{curve-all}
use Rattle.curve_stored.proofs.y_table.Goals as goal

pub returns : goal.returns
unfolding curve_y y_table
returns c = curve-all 256 1048576 _ 0 tt (lit≤ tt)
