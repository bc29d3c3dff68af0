-- `parlour_calls::rules::kind_taken` meets its contract: its two tests are the definition's. Assumes nothing.
use mathlib.Core.Path.{sym, ap, ◌∙◌}
use borrow.Author.Tests.{eq-eqb, ne_eqb}
use Rattle.pixels.specs.declared.PixelFormat.{PixelFormat}
use Rattle.parlour.specs.Rules.{kind_taken}
use Rattle.parlour_calls.proofs.rules.kind_taken.Goals as goal

pub returns-then-format-ne2 : goal.returns-then-format-ne2
unfolding kind_taken
returns-then-format-ne2 c =
    let e = ap (λ (f : PixelFormat). f.precision) c.format-format.ensures in
    rw (ne_eqb _ 2 (λ s. c.if-format-ne2.true (e ∙ s)))

pub returns-else-format-ne2 : goal.returns-else-format-ne2
unfolding kind_taken
returns-else-format-ne2 c =
    let e = ap (λ (f : PixelFormat). f.precision) c.format-format.ensures in
    rw (eq-eqb _ 2 c.if-format-ne2.false, eq-eqb _ 2 (sym e ∙ c.if-format-ne2.false))
