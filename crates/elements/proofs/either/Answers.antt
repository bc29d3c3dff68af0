-- `elements::either` meets its contract. Assumes nothing.
use Rattle.elements.proofs.StepLaws.{or-below}
use Rattle.elements.proofs.either.Goals as goal

pub returns : goal.returns
returns c k = or-below c.args.a c.args.b k
