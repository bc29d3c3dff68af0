-- `sheet_io::run` meets its contract: some parts were read, and then the end. Assumes nothing.
use Rattle.sheet_io.proofs.PrintLaws.{reading-whole}
use Rattle.sheet_io.proofs.run.Goals as goal

pub returns : goal.returns
returns c = reading-whole c.read_all.ensures c.finish.ensures
