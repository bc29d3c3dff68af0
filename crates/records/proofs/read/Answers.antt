-- `records::read` meets its contract: the line collected holds its text. Assumes nothing.
use mathlib.Core.Path.{◌∙◌}
use Rattle.lines.proofs.HoldLaws.{holds-empty, holds-added}
use Rattle.records.proofs.LineLaws.{line-record}
use Rattle.records.proofs.read.Goals as goal

pub returns : goal.returns
returns c =
    let line = c.args.line.now in
    c.of_line.ensures ∙ rw (c.add.ensures, c.empty.ensures) (line-record _ line (holds-added line _ _ holds-empty))
