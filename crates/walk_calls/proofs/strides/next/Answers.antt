-- `walk_calls::strides::next` meets its contract: its tests are the definition's. Assumes nothing.
use borrow.Author.Tests.{lt-ltb, le-ltb}
use Rattle.walk.specs.Walks.{stride_of}
use Rattle.walk_calls.proofs.strides.next.Goals as goal

pub returns-then-walk-gt1 : goal.returns-then-walk-gt1
unfolding stride_of
returns-then-walk-gt1 c = rw (lt-ltb 1 _ c.if-walk-gt1.true)

pub returns-then-walk-gt1-2 : goal.returns-then-walk-gt1-2
unfolding stride_of
returns-then-walk-gt1-2 c = rw (le-ltb 1 _ c.if-walk-gt1.false, lt-ltb 1 _ c.if-walk-gt1-2.true)

pub returns-then-full-walk : goal.returns-then-full-walk
unfolding stride_of
returns-then-full-walk c =
    let more = lt-ltb _ _ (rw c.full-full.ensures at c.if-full-walk.true) in
    rw (c.full-full.ensures, le-ltb 1 _ c.if-walk-gt1.false, le-ltb 1 _ c.if-walk-gt1-2.false, more)

pub returns : goal.returns
unfolding stride_of
returns c =
    let last = le-ltb _ _ (rw c.full-full.ensures at c.if-full-walk.false) in
    rw (le-ltb 1 _ c.if-walk-gt1.false, le-ltb 1 _ c.if-walk-gt1-2.false, last)
