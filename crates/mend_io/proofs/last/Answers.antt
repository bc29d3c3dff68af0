-- `mend_io::last` meets its contract. Assumes nothing.
use Prim.Native.Nat.{ℕ}
use mathlib.Core.Path.{ap, ◌∙◌}
use Rattle.lines.specs.declared.Line.{Line}
use Rattle.lines.specs.Sums.{checksum}
use Rattle.lines.specs.Collecting.{line_text}
use Rattle.lines.proofs.HoldLaws.{written-text}
use Rattle.mend_text.specs.Reports.{number_text}
use Rattle.mend_io.specs.declared.Ended.{Ended}
use Rattle.mend_io.proofs.last.Goals as goal

pub returns : goal.returns
returns c =
    let t = c in
    let a = t.args in
    let text = ap (λ (l : Line). checksum a.sum (line_text l)) t.number_text.ensures ∙ ap (checksum a.sum) (written-text (number_text a.code)) in
    ap {B = Ended} (λ (s : ℕ). record { code = a.code; length = a.size; sum = s }) (c.print_line-number.ensures ∙ text)
