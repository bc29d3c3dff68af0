-- `sheet_io::finish` meets its contract: the row of a last line is written. Assumes nothing.
use Rattle.sheet_io.proofs.PrintLaws.{reading-end}
use Rattle.sheet_io.proofs.finish.Goals as goal

pub returns : goal.returns
returns c = let w = c in reading-end w.args.before w.finish-last.ensures w.given_text.ensures w.write-all.ensures
