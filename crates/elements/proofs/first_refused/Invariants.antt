-- `elements::first_refused` meets its contract. The loop's invariant: each element so far is valid. So an element that is not is the first at fault, and the loop
-- does not pass them all. Assumes nothing.
use Rattle.elements.proofs.ValueLaws.{Valid}
use Rattle.elements.proofs.first_refused.Given as goal

abbrev pub invariant-loop-at : goal.invariant-loop-at
invariant-loop-at l = Valid l.precision l.elements l.at
