-- `mend_io::printing::print_line` meets its contract: all bytes of the line are kept. Assumes nothing.
use Rattle.lines.specs.Collecting.{line_text}
use Rattle.mend_io.proofs.printing.print_line.Goals as goal

pub returns : goal.returns
unfolding line_text
returns c = c.print.ensures
