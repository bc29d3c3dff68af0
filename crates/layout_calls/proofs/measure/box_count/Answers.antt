-- `layout_calls::measure::box_count` meets its contract: the product of three numbers up to 8192 is below 2 ^ 40. Assumes nothing.
use mathlib.Core.Path.{refl}
use Rattle.layout.specs.Boxes.{box_count}
use Rattle.layout_calls.proofs.measure.box_count.Goals as goal

pub returns : goal.returns
unfolding box_count
returns c = refl
