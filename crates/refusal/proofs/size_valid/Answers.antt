-- `refusal::size_valid` meets its contract: its tests are the definition's. Assumes nothing.
use Rattle.refusal.proofs.SizeLaws.{size_small, size-large}
use Rattle.refusal.proofs.size_valid.Goals as goal

pub returns-then-n-lt1 : goal.returns-then-n-lt1
returns-then-n-lt1 c = size_small c.args.most c.args.n c.if-n-lt1.true

pub returns : goal.returns
returns c = size-large c.args.most c.args.n c.if-n-lt1.false
