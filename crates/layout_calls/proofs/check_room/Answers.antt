-- `layout_calls::check_room` meets its contract: it makes the definition's checks in their order. Assumes nothing.
use Prim.Native.Nat.{ℕ, ◌≤◌, ◌<◌}
use mathlib.Core.Path.{sym, subst, ◌∙◌}
use Rattle.refusal.proofs.CheckLaws.{handed-on}
use Rattle.layout.proofs.CallLaws.{box-layout, clear-box, clear_room, clear-valid}
use Rattle.layout_calls.proofs.check_room.Goals as goal

pub returns-in_err-check_box : goal.returns-in_err-check_box
returns-in_err-check_box c =
    let a = c.args in
    handed-on c.from_residual.result c.from_residual.ensures.1 ∙ clear-box a.layout a.b a.len (sym c.check_box.ensures ∙ c.in_err-check_box.was)

pub invariant_of-valid : goal.invariant_of-valid
invariant_of-valid c = let a = c.args in record { accepted = box-layout a.layout a.b (sym c.check_box.ensures ∙ c.in_ok-check_box.was) }

pub returns-then-len-end : goal.returns-then-len-end
returns-then-len-end c =
    let a = c.args in
    clear_room a.layout a.b a.len (sym c.check_box.ensures ∙ c.in_ok-check_box.was) (subst (λ (n : ℕ). a.len < n) c.end-end.ensures c.if-len-end.true)

pub returns : goal.returns
returns c =
    let a = c.args in
    clear-valid a.layout a.b a.len (sym c.check_box.ensures ∙ c.in_ok-check_box.was) (subst (λ (n : ℕ). n ≤ a.len) c.end-end.ensures c.if-len-end.false)
