-- `weights_calls::extent` meets its contract: it checks, and measures the surface of an accepted setting. Assumes nothing.
use mathlib.Core.Path.{sym, ap, ◌∙◌}
use Rattle.std.specs.Prelude.{Ok}
use Rattle.refusal.proofs.CheckLaws.{given-accepted, given-refused, handed-on}
use Rattle.weights.specs.declared.WeightLayout.{WeightLayout}
use Rattle.weights.specs.Geometry.{surface_bytes}
use Rattle.weights.specs.Calls.{extent_quantity}
use Rattle.weights_calls.proofs.extent.Goals as goal

pub returns-in_err-measured : goal.returns-in_err-measured
unfolding extent_quantity
returns-in_err-measured c =
    handed-on c.from_residual.result c.from_residual.ensures.1 ∙ sym (given-refused (surface_bytes c.args.layout) (sym c.in_err-measured.ensures.answered))

pub returns : goal.returns
unfolding extent_quantity
returns c =
    let value = c.surface_bytes.ensures ∙ ap (λ (q : WeightLayout). surface_bytes q) c.in_ok-measured.ensures.same in
    ap Ok value ∙ sym (given-accepted (surface_bytes c.args.layout) (sym c.in_ok-measured.ensures.answered))
