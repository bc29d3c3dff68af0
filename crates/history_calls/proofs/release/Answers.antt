-- `history_calls::release` is the fold's step: the promise of `regions::release`. Assumes nothing.
use mathlib.Core.Path.{refl}
use Rattle.history.specs.Program.{step}
use Rattle.history_calls.proofs.StepLaws.{step_of-ext}
use Rattle.history_calls.proofs.release.Goals as goal

pub returns : goal.returns
unfolding step
returns c = step_of-ext c.release.ensures.answered refl c.release.ensures.handed c.release.ensures.left
