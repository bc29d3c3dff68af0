-- `curve_computed::x_table` meets its contract: its entries are filled in. Assumes nothing.
use Rattle.camera.specs.Curve.{curve_x, x_table}
use Rattle.curve_computed.proofs.x_table.Goals as goal

pub returns : goal.returns
unfolding curve_x x_table
returns c = c.table.ensures
