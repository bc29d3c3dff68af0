-- `walk_calls::start` meets its contract: a packing that is refused starts no walk, one that is accepted has a valid layout. Assumes nothing.
use mathlib.Core.Path.{◌≡◌, sym, ap, ◌∙◌}
use lib.ListN.{length}
use Rattle.std.specs.Prelude.{Ok}
use Rattle.refusal.specs.Checks.{Accepted}
use Rattle.refusal.proofs.CheckLaws.{in_order-front, given-accepted, given-refused, handed-on}
use Rattle.layout.specs.Rules.{layout_checks, cube_checks}
use Rattle.layout.specs.Calls.{pack_answer}
use Rattle.walk.specs.Walks.{first_walk, walk_start}
use Rattle.walk_calls.proofs.start.Goals as goal

accepted : (c : goal.In_ok-check_pack) → pack_answer c.args.layout c.args.elements.now c.args.len ≡ Accepted
accepted c = sym c.check_pack.ensures ∙ c.in_ok-check_pack.was

pub returns-in_err-check_pack : goal.returns-in_err-check_pack
unfolding walk_start
returns-in_err-check_pack c =
    handed-on c.from_residual.result c.from_residual.ensures.1 ∙ sym (given-refused (first_walk c.args.layout) (sym c.check_pack.ensures ∙ c.in_err-check_pack.was))

pub first-requires : goal.first-requires
unfolding pack_answer cube_checks
first-requires c =
    let a = c.args in
    in_order-front (layout_checks a.layout) _ (in_order-front (cube_checks a.layout (length a.elements.now) a.len) _ (accepted c))

pub returns : goal.returns
unfolding walk_start
returns c = ap Ok c.first.ensures ∙ sym (given-accepted (first_walk c.args.layout) (accepted c.before))
