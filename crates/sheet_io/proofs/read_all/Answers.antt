-- `sheet_io::read_all` meets its contract: a part more is read. Assumes nothing.
use Rattle.sheet_io.proofs.PrintLaws.{reading-none, reading-more}
use Rattle.sheet_io.proofs.read_all.Goals as goal

pub loop-init : goal.loop-init
loop-init c = reading-none c.begin-printed.ensures

pub loop-preserved : goal.loop-preserved
loop-preserved c = reading-more _ c.loop.invariant c.feed_all-printed.ensures
