-- `lines_calls::add_signed` meets its contract, by the sign. Assumes nothing.
use mathlib.Core.Path.{◌∙◌}
use mathlib.Core.Logic.{inl, inr}
use Rattle.lines.specs.Collecting.{added}
use Rattle.lines.proofs.DigitLaws.{numeral-plain, numeral-zero, numeral-minus}
use Rattle.lines_calls.proofs.add_signed.Goals as goal

pub returns-then-n-ne0 : goal.returns-then-n-ne0
unfolding added
returns-then-n-ne0 c = let a = c.args in c.add_number.ensures ∙ rw (c.add-begun.ensures, c.if-minus.true, ← numeral-minus a.n c.if-n-ne0.true)

pub returns-else-minus : goal.returns-else-minus
returns-else-minus c =
    let a = c.args in
    c.add_number-else-minus.ensures ∙ elim c.else-minus.either [
      | inl zero ↦ rw (zero.0, numeral-zero a.n zero.1)
      | inr plain ↦ rw (plain, numeral-plain a.n)
    ]
