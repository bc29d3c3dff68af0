-- `mend_io::printing::print_header` meets its contract. Assumes nothing.
use mathlib.Core.Path.{ap, ◌∙◌}
use Rattle.lines.specs.declared.Line.{Line}
use Rattle.lines.specs.Sums.{checksum}
use Rattle.lines.specs.Collecting.{line_text}
use Rattle.lines.proofs.HoldLaws.{written-text}
use Rattle.mend_text.specs.Reports.{header}
use Rattle.mend_io.proofs.printing.print_header.Goals as goal

pub returns : goal.returns
returns c = c.print_line.ensures ∙ ap (λ (l : Line). checksum 0 (line_text l)) c.header_text.ensures ∙ ap (checksum 0) (written-text header)
