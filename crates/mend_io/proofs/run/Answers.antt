-- `mend_io::run` meets its contract: by what the input asks for. Assumes nothing.
use Rattle.mend_io.proofs.EndLaws.{alone-end, ends-unreadable, ends-mending}
use Rattle.mend_io.proofs.run.Goals as goal

pub returns-in-None : goal.returns-in-None
returns-in-None c = ends-unreadable _ c.read_input.ensures.asked c.in-None.is (alone-end c.last.ensures)

pub returns-in-Some : goal.returns-in-Some
returns-in-Some c = ends-mending _ c.read_input.ensures.asked c.in-Some.is c.mend_files.ensures
