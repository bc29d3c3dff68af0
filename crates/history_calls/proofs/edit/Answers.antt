-- `history_calls::edit` is the fold's step: the promise of `regions::edit`. Assumes nothing.
use mathlib.Core.Path.{refl}
use Rattle.history.specs.Program.{step}
use Rattle.history_calls.proofs.StepLaws.{step_of-ext}
use Rattle.history_calls.proofs.edit.Goals as goal

pub returns : goal.returns
unfolding step
returns c = step_of-ext c.edit.ensures.answered refl c.edit.ensures.kept c.edit.ensures.left
