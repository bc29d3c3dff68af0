-- `layout_calls::whose` meets its contract: it checks, and finds the owner in an accepted layout. Assumes nothing.
use mathlib.Core.Path.{sym, ap, ◌∙◌}
use Rattle.std.specs.Prelude.{Ok}
use Rattle.refusal.proofs.CheckLaws.{given-accepted, given-refused, handed-on}
use Rattle.layout.specs.declared.CubeLayout.{CubeLayout}
use Rattle.layout.specs.Owners.{owner}
use Rattle.layout.specs.Whose.{in_extent, byte_owner, whose_answer}
use Rattle.layout_calls.proofs.whose.Goals as goal

pub returns-in_err-checked : goal.returns-in_err-checked
unfolding whose_answer
returns-in_err-checked c = handed-on c.from_residual.result c.from_residual.ensures.1 ∙ sym (given-refused _ (sym c.in_err-checked.ensures.answered))

pub returns : goal.returns
unfolding whose_answer
returns c =
    let p = c.args.position in
    let whose = c.byte_owner.ensures ∙ ap (λ (q : CubeLayout). byte_owner (in_extent q p) (owner q p)) c.in_ok-checked.ensures.same in
    ap Ok whose ∙ sym (given-accepted _ (sym c.in_ok-checked.ensures.answered))
