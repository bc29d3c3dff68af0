-- `history_calls::paint` is the fold's step: the promise of `parlour::paint`. Assumes nothing.
use Rattle.parlour.specs.Calls.{paint_held}
use Rattle.history.specs.Program.{step}
use Rattle.history_calls.proofs.StepLaws.{step_with-ext, reply-of}
use Rattle.history_calls.proofs.paint.Goals as goal

pub returns : goal.returns
unfolding step paint_held
returns c = step_with-ext (reply-of _ _ c.paint.ensures.counted) c.paint.ensures.kept c.paint.ensures.left
