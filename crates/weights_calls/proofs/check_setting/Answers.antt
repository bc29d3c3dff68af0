-- `weights_calls::check_setting` meets its contract: it makes checks 1, 2 in their order. Assumes nothing.
use mathlib.Core.Path.{◌≡◌, sym, ◌∙◌}
use mathlib.Core.Bool.{true}
use Rattle.weights.specs.Rules.{sizes_valid}
use Rattle.weights.proofs.RuleLaws.{setting-sizes, setting-precision, setting-valid}
use Rattle.weights_calls.proofs.check_setting.Goals as goal

pub returns-then-not-sizes_valid-clause-answered : goal.returns-then-not-sizes_valid-clause-answered
returns-then-not-sizes_valid-clause-answered c = setting-sizes c.args.layout (sym c.sizes_valid.ensures ∙ c.if-not-sizes_valid.true)

pub returns-then-layout-ge3-clause-answered : goal.returns-then-layout-ge3-clause-answered
returns-then-layout-ge3-clause-answered c =
    let held : sizes_valid c.args.layout ≡ true = sym c.sizes_valid.ensures ∙ c.if-not-sizes_valid.false in
    setting-precision c.args.layout held c.if-layout-ge3.true

pub returns-clause-answered : goal.returns-clause-answered
returns-clause-answered c =
    let held : sizes_valid c.args.layout ≡ true = sym c.sizes_valid.ensures ∙ c.if-not-sizes_valid.false in
    setting-valid c.args.layout held c.if-layout-ge3.false
