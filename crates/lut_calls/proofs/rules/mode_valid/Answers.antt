-- `lut_calls::rules::mode_valid` meets its contract: its cases are the definition's. Assumes nothing.
use mathlib.Core.Path.{◌≡◌, ◌∙◌}
use lib.IntN.{pos, negsuc}
use Rattle.general.proofs.NumberLaws.{back32}
use Rattle.lut.specs.Numbers.{between}
use Rattle.lut.proofs.AnswerLaws.{mode_valid-linear, mode_valid-exponential}
use Rattle.lut_calls.proofs.rules.mode_valid.Goals as goal

pub returns-in-Linear : goal.returns-in-Linear
returns-in-Linear c =
    let select = c.in-Linear.select in
    let r : c.between.result ≡ between (negsuc 5) (pos 25) select = simp (back32 select c.in-Linear.known_told-1-own.given.0.1) at c.between.ensures in
    r ∙ mode_valid-linear c.args.mode select c.in-Linear.is

pub returns-in-Exponential : goal.returns-in-Exponential
returns-in-Exponential c =
    let offset = c.in-Exponential.offset in
    let r : c.between-in-Exponential.result ≡ between (negsuc 31) (pos 31) offset
    = simp (back32 offset c.in-Exponential.known_told-in-Exponential-1-own.given.0.1) at c.between-in-Exponential.ensures in
    r ∙ mode_valid-exponential c.args.mode offset c.in-Exponential.is
