-- `history_calls::begin` is the beginning of a list: the promises of `cube::pack` and `regions::empty`. Assumes nothing.
use mathlib.Core.Path.{refl}
use Rattle.history_calls.proofs.StepLaws.{step_of-ext}
use Rattle.history_calls.proofs.begin.Goals as goal

pub returns : goal.returns
returns c = step_of-ext c.pack-answer.ensures.answered refl c.empty-table.ensures c.pack-answer.ensures.left
