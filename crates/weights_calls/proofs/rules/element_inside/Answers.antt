-- `weights_calls::rules::element_inside` meets its contract: each test is the definition's. Assumes nothing.
use Rattle.weights.specs.Rules.{element_inside}
use borrow.Author.Rules.{rules}
use Rattle.weights_calls.proofs.rules.element_inside.Goals as goal

pub returns : goal.returns
unfolding element_inside
returns c = search rules
