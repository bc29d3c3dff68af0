-- `history_calls::read` is the fold's step: the promise of `regions::read`. Assumes nothing.
use mathlib.Core.Path.{refl}
use Rattle.history.specs.Program.{step}
use Rattle.history_calls.proofs.StepLaws.{step_of-ext}
use Rattle.history_calls.proofs.read.Goals as goal

pub returns : goal.returns
unfolding step
returns c = step_of-ext c.read.ensures.answered c.read.ensures.left c.read.ensures.kept refl
