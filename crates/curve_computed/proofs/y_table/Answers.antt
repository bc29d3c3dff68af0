-- `curve_computed::y_table` meets its contract: its entries are filled in. Assumes nothing.
use Rattle.camera.specs.Curve.{curve_y, y_table}
use Rattle.curve_computed.proofs.y_table.Goals as goal

pub returns : goal.returns
unfolding curve_y y_table
returns c = c.table.ensures
