-- `sheet_io::begin` meets its contract: the header is written. Assumes nothing.
use Rattle.lines.proofs.HoldLaws.{written-text}
use Rattle.script.specs.Output.{header}
use Rattle.sheet_io.proofs.begin.Goals as goal

pub returns : goal.returns
returns c = rw (c.write-header.ensures, c.header_text.ensures, c.begin-sheet.ensures, written-text header)
