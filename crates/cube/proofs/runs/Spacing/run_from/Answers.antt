-- `cube::runs::Spacing::run_from` meets its contract: its sum is the definition's, below 2 ^ 46. Assumes nothing.
use mathlib.Core.Path.{refl}
use Rattle.cube.specs.Steps.{run_from}
use Rattle.cube.proofs.runs.Spacing.run_from.Goals as goal

pub returns : goal.returns
unfolding run_from
returns c = refl
