-- `layout_calls::admit` meets its contract: it makes the definition's checks in their order. Assumes nothing.
use Prim.Native.Nat.{ℕ, ◌≤◌, ◌<◌}
use mathlib.Core.Path.{sym, subst, ◌∙◌}
use Rattle.refusal.proofs.CheckLaws.{handed-on}
use Rattle.layout.proofs.CallLaws.{admit-box, admit-count, admit-room, admit-valid, box-layout, box-layout-valid, box_checks-valid, box-counts}
use Rattle.layout_calls.proofs.admit.Goals as goal

pub returns-in_err-check_box : goal.returns-in_err-check_box
returns-in_err-check_box c =
    let a = c.args in
    handed-on c.from_residual.result c.from_residual.ensures.1 ∙ admit-box a.layout a.b a.given a.len (sym c.check_box.ensures ∙ c.in_err-check_box.was)

pub invariant_of-valid : goal.invariant_of-valid
invariant_of-valid c = let a = c.args in record { accepted = box-layout a.layout a.b (sym c.check_box.ensures ∙ c.in_ok-check_box.was) }

pub box_count-requires : goal.box_count-requires
box_count-requires c =
    let a = c.args in
    let held = sym c.check_box.ensures ∙ c.in_ok-check_box.was in
    box-counts a.layout a.b (box-layout-valid a.layout a.b held) (box_checks-valid a.layout a.b held)

pub returns-then-given-box_count : goal.returns-then-given-box_count
returns-then-given-box_count c =
    let a = c.args in
    admit-count a.layout a.b a.given a.len (sym c.check_box.ensures ∙ c.in_ok-check_box.was) (λ e. c.if-given-box_count.true (e ∙ sym c.box_count.ensures))

pub returns-then-len-end : goal.returns-then-len-end
returns-then-len-end c =
    let a = c.args in
    admit-room a.layout a.b a.given a.len (sym c.check_box.ensures ∙ c.in_ok-check_box.was) (c.if-given-box_count.false ∙ c.box_count.ensures)
    (subst (λ (n : ℕ). a.len < n) c.end.ensures c.if-len-end.true)

pub returns : goal.returns
returns c =
    let a = c.args in
    admit-valid a.layout a.b a.given a.len (sym c.check_box.ensures ∙ c.in_ok-check_box.was) (c.if-given-box_count.false ∙ c.box_count.ensures)
    (subst (λ (n : ℕ). n ≤ a.len) c.end.ensures c.if-len-end.false)
