-- `mend_text::line_end` meets its contract: what is left of the text is lent. Assumes nothing.
use mathlib.Core.Path.{◌≡◌, ap, ◌∙◌}
use native.Mathlib.Omega.{arith}
use lib.ListN.{drop, length-drop}
use Rattle.lines.specs.Texts.{part_length}
use Rattle.lines.proofs.SplitLaws.{part-whole, part_length-le}
use Rattle.mend_text.proofs.line_end.Goals as goal

-- where the line ends, in what is left
ends : (c : goal.After-part_length) → let a = c.args in c.part_length.result ≡ part_length 10 (drop a.from a.text.now)
ends c = let a = c.args in c.part_length.ensures ∙ ap (part_length 10) (part-whole a.text.now a.from)

pub overflow_add-result : goal.overflow_add-result
overflow_add-result c =
    let a = c.args in
    omega (arith, ends c, part_length-le 10 (drop a.from a.text.now), length-drop a.from a.text.now, c.well_formed.0.0)
