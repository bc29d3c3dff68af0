-- `history_calls::place` is the fold's step: the promise of `regions::place`. Assumes nothing.
use mathlib.Core.Path.{refl}
use Rattle.history.specs.Program.{step}
use Rattle.history_calls.proofs.StepLaws.{step_of-ext}
use Rattle.history_calls.proofs.place.Goals as goal

pub returns : goal.returns
unfolding step
returns c = step_of-ext c.place.ensures.answered refl c.place.ensures.left refl
