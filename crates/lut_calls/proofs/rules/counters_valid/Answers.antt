-- `lut_calls::rules::counters_valid` meets its contract: it computes the sum of the definition. Assumes nothing.
use Rattle.lut.specs.Rules.{counter_sum}
use mathlib.Core.Path.{refl}
use Rattle.lut_calls.proofs.rules.counters_valid.Goals as goal

pub returns : goal.returns
unfolding counter_sum
returns c = refl
