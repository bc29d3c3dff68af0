-- `lut_calls::rows::picked` meets its contract: its cases are the definition's. Assumes nothing.
use Rattle.lut_calls.specs.StepsRows.{picked}
use Rattle.lut_calls.proofs.rows.picked.Goals as goal

pub returns-in-X : goal.returns-in-X
unfolding picked
returns-in-X c = rw c.in-X.is

pub returns-in-Y : goal.returns-in-Y
unfolding picked
returns-in-Y c = rw c.in-Y.is
