-- `mend_io::write_second` meets its contract. Assumes nothing.
use borrow.Author.Tests.{not-false}
use Rattle.mend_io.proofs.EndLaws.{written_none, written-broken, written-whole}
use Rattle.mend_io.proofs.write_second.Goals as goal

pub returns-in_default : goal.returns-in_default
returns-in_default c = written_none _ _ c.last.ensures

pub returns-then-not-copied : goal.returns-then-not-copied
returns-then-not-copied c = written-broken _ _ _ c.copy_all-copied.ensures c.last-then-not-copied.ensures

pub returns : goal.returns
returns c = written-whole _ _ _ c.copy_all-copied.ensures (not-false _ c.if-not-copied.false)
