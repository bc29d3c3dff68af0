-- `padding_calls::rows::all_zero` meets its contract: as long as it says yes, the bytes before the loop's are zero. Assumes nothing.
use mathlib.Core.Path.{◌≡◌, sym, ◌∙◌}
use mathlib.Core.Bool.{true, false}
use Rattle.padding_calls.proofs.GoesLaws.{zeros-none, zeros-more}
use Rattle.padding_calls.proofs.rows.all_zero.Goals as goal
use Rattle.padding_calls.proofs.rows.all_zero.Goals.{then-b-ne0, else-b-ne0}

pub loop-b-init : goal.loop-b-init
loop-b-init c = λ e. zeros-none 0 c.args.bytes.now

pub loop-b-preserved : goal.loop-b-preserved
loop-b-preserved c =
    λ e. elim c.if-b-ne0.branch [
      | then-b-ne0 w ↦ let no : false ≡ true = sym w.clean-is ∙ e in absurd (cc)
      | else-b-ne0 w ↦ zeros-more 0 c.loop-b.b-index c.args.bytes.now (c.loop-b.invariant (sym w.clean-is ∙ e)) w.if-b-ne0.false
    ]
