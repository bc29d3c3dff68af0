-- `parlour_calls::painted` meets its contract: it checks the picture, then the region, and paints all of it. Assumes nothing.
use Prim.Native.Nat.{ℕ}
use mathlib.Core.Path.{sym, ap, ◌∙◌}
use Rattle.std.specs.Prelude.{Ok}
use Rattle.refusal.proofs.CheckLaws.{handed-on}
use Rattle.parlour_calls.proofs.PaintLaws.{picture-refused, target-refused, paintable, paint-counts, paint-leaves}
use Rattle.parlour_calls.proofs.painted.Goals as goal

pub paint_rows-requires : goal.paint_rows-requires
paint_rows-requires c =
    let a = c.args in
    paintable a.table a.slot a.id a.image a.pixels.now a.conversion a.buffer.now (sym c.check_picture.ensures ∙ c.in_ok-check_picture.was) (sym c.find_target.ensures ∙ c.in_ok-target.was)

pub returns-in_err-check_picture-clause-counted : goal.returns-in_err-check_picture-clause-counted
returns-in_err-check_picture-clause-counted c =
    let a = c.args in
    handed-on c.from_residual.result c.from_residual.ensures.1
    ∙ (picture-refused a.table a.slot a.id a.image a.pixels.now a.conversion a.buffer.now (sym c.check_picture.ensures ∙ c.in_err-check_picture.was)).0

pub returns-in_err-check_picture-clause-left : goal.returns-in_err-check_picture-clause-left
returns-in_err-check_picture-clause-left c =
    let a = c.args in
    (picture-refused a.table a.slot a.id a.image a.pixels.now a.conversion a.buffer.now (sym c.check_picture.ensures ∙ c.in_err-check_picture.was)).1

pub returns-in_err-target-clause-counted : goal.returns-in_err-target-clause-counted
returns-in_err-target-clause-counted c =
    let a = c.args in
    handed-on c.from_residual-in_err-target.result c.from_residual-in_err-target.ensures.1
    ∙ (target-refused a.table a.slot a.id a.image a.pixels.now a.conversion a.buffer.now (sym c.check_picture.ensures ∙ c.in_ok-check_picture.was)
    (sym c.find_target.ensures ∙ c.in_err-target.was)).0

pub returns-in_err-target-clause-left : goal.returns-in_err-target-clause-left
returns-in_err-target-clause-left c =
    let a = c.args in
    (target-refused a.table a.slot a.id a.image a.pixels.now a.conversion a.buffer.now (sym c.check_picture.ensures ∙ c.in_ok-check_picture.was)
    (sym c.find_target.ensures ∙ c.in_err-target.was)).1

pub returns-clause-counted : goal.returns-clause-counted
returns-clause-counted c =
    let a = c.args in
    ap (λ (n : ℕ). Ok n) c.paint_rows.ensures.counted
    ∙ paint-counts a.table a.slot a.id a.image a.pixels.now a.conversion a.buffer.now (sym c.check_picture.ensures ∙ c.in_ok-check_picture.was) (sym c.find_target.ensures ∙ c.in_ok-target.was)

pub returns-clause-left : goal.returns-clause-left
returns-clause-left c =
    let a = c.args in
    c.paint_rows.ensures.painted
    ∙ paint-leaves a.table a.slot a.id a.image a.pixels.now a.conversion a.buffer.now (sym c.check_picture.ensures ∙ c.in_ok-check_picture.was) (sym c.find_target.ensures ∙ c.in_ok-target.was)
