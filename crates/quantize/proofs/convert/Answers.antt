-- `quantize::convert` meets its contract: it checks, and gives what an accepted conversion does. Assumes nothing.
use mathlib.Core.Path.{◌≡◌, sym, ap, ◌∙◌}
use mir.Facts.{to_z-of_z}
use Rattle.std.specs.Prelude.{Ok}
use Rattle.refusal.specs.Checks.{in_order, Accepted}
use Rattle.refusal.proofs.CheckLaws.{handed-on}
use Rattle.quantize.specs.Quantize.{quantize_checks, conversion}
use Rattle.quantize.proofs.AnswerLaws.{answer-refused, answer-value, checked}
use Rattle.quantize.proofs.convert.Goals as goal

held : (c : goal.In_ok-check) → in_order (quantize_checks c.args.precision c.args.shift) ≡ Accepted
held c = sym c.check.ensures ∙ c.in_ok-check.was

pub conversion-requires : goal.conversion-requires
conversion-requires c = let a = c.args in (checked a.precision a.shift (held c)).1

pub returns-in_err-check : goal.returns-in_err-check
returns-in_err-check c = let a = c.args in
    handed-on _ c.from_residual.ensures.1 ∙ answer-refused a.d a.offset a.scale a.shift a.precision (sym c.check.ensures ∙ c.in_err-check.was)

-- what `conversion` was handed is read back
pub returns : goal.returns
returns c =
    let a = c.args in
    let f = c.ranges in
    let value : c.conversion.result ≡ conversion a.d a.offset a.scale a.shift a.precision = simp (to_z-of_z f.d, to_z-of_z f.offset, to_z-of_z f.scale) at c.conversion.ensures in
    ap (λ x. Ok x) value ∙ answer-value a.d a.offset a.scale a.shift a.precision (held c.before)
