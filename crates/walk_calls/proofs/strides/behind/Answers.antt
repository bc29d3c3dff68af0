-- `walk_calls::strides::behind` meets its contract: an atom is left where a channel is, and the walk can be moved. Assumes nothing.
use native.Mathlib.Omega.{arith}
use mathlib.Core.Path.{◌∙◌}
use borrow.Author.Tests.{lt-ltb, le-ltb}
use Rattle.walk.specs.Walks.{atom_left}
use Rattle.walk_calls.specs.Steps.{moved_on, walk_behind}
use Rattle.walk_calls.proofs.strides.behind.Goals as goal

pub returns-then-walk-eq0 : goal.returns-then-walk-eq0
unfolding walk_behind atom_left
returns-then-walk-eq0 c = rw (le-ltb 0 c.args.walk.channels (omega (arith, c.if-walk-eq0.true)))

pub returns : goal.returns
unfolding walk_behind moved_on atom_left
returns c = c.moved.ensures ∙ rw (c.next.ensures, lt-ltb 0 c.args.walk.channels (omega (arith, c.if-walk-eq0.false)))
