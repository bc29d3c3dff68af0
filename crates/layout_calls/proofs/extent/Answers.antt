-- `layout_calls::extent` meets its contract: it checks, and measures an accepted layout. Assumes nothing.
use mathlib.Core.Path.{sym, ap, ◌∙◌}
use Rattle.std.specs.Prelude.{Ok}
use Rattle.refusal.proofs.CheckLaws.{given-accepted, given-refused, handed-on}
use Rattle.layout.specs.declared.CubeLayout.{CubeLayout}
use Rattle.layout.specs.Geometry.{cube_extent}
use Rattle.layout.specs.Calls.{extent_quantity}
use Rattle.layout_calls.proofs.extent.Goals as goal

pub returns-in_err-checked : goal.returns-in_err-checked
unfolding extent_quantity
returns-in_err-checked c =
    handed-on c.from_residual.result c.from_residual.ensures.1 ∙ sym (given-refused (cube_extent c.args.layout) (sym c.in_err-checked.ensures.answered))

pub returns : goal.returns
unfolding extent_quantity
returns c =
    let q = c.args.layout in
    let extent = c.extent.ensures ∙ ap (λ (x : CubeLayout). cube_extent x) c.in_ok-checked.ensures.same in
    ap Ok extent ∙ sym (given-accepted (cube_extent q) (sym c.in_ok-checked.ensures.answered))
