-- `cube::position` meets its contract: it checks, and computes the position in an accepted layout. Assumes nothing.
use native.Mathlib.Omega.{arith}
use mathlib.Core.Path.{◌≡◌, sym, ap, ◌∙◌}
use Rattle.std.specs.Prelude.{Ok}
use Rattle.refusal.specs.Checks.{in_order, Accepted}
use Rattle.refusal.proofs.CheckLaws.{given-accepted, given-refused, handed-on}
use Rattle.layout.specs.Geometry.{element_position}
use Rattle.layout.specs.Boxes.{one_element}
use Rattle.layout.specs.Rules.{box_checks}
use Rattle.layout.specs.Calls.{position_quantity}
use Rattle.layout.proofs.CallLaws.{box-layout, box_checks-valid}
use Rattle.cube.proofs.position.Goals as goal

pub position_of-requires : goal.position_of-requires
position_of-requires c =
    let a = c.args in
    let one = one_element a.channel a.row a.column in
    let accepted : in_order (box_checks a.layout one) ≡ Accepted = sym c.check_box.ensures ∙ c.in_ok-check_box.was in
    let t = box_checks-valid a.layout one accepted in
    record {
      layout_value = box-layout a.layout one accepted;
      channel_lt_channels = (omega (arith, t.channels.fit), omega (arith, t.rows.fit), omega (arith, t.columns.fit));
    }

pub returns-in_err-check_box : goal.returns-in_err-check_box
unfolding position_quantity
returns-in_err-check_box c =
    let a = c.args in
    handed-on c.from_residual.result c.from_residual.ensures.1
    ∙ sym (given-refused (element_position a.layout a.channel a.row a.column) (sym c.check_box.ensures ∙ c.in_err-check_box.was))

pub returns : goal.returns
unfolding position_quantity
returns c =
    let a = c.args in
    let accepted : in_order (box_checks a.layout (one_element a.channel a.row a.column)) ≡ Accepted = sym c.check_box.ensures ∙ c.in_ok-check_box.was in
    ap Ok c.position_of.ensures ∙ sym (given-accepted (element_position a.layout a.channel a.row a.column) accepted)
