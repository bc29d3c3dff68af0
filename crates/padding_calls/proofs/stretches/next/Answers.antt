-- `padding_calls::stretches::next` meets its contract: before the last surface there is no padding. Assumes nothing.
use Prim.Native.Nat.{ℕ, ◌<◌}
use mathlib.Core.Path.{subst, subst⁻¹}
use mathlib.Core.Bool.{false}
use Rattle.layout.proofs.Valid.{valid}
use Rattle.padding_calls.specs.Steps.{IsStretch}
use Rattle.padding_calls.proofs.StretchLaws.{before_last}
use Rattle.padding_calls.proofs.stretches.next.Goals as goal

pub returns-then-position-base : goal.returns-then-position-base
returns-then-position-base c =
    let q = c.args.layout in
    let base = c.last_surface-base.ensures in
    subst⁻¹ (λ (n : ℕ). IsStretch q c.args.position (record { end = n; atoms = false })) base
    (before_last q (valid q c.requires.0) c.args.position (subst (λ (n : ℕ). c.args.position < n) base c.if-position-base.true))
