-- `lut_calls::numbers::log2` meets its contract: by the leading zeros of the number with its last bit set. Assumes nothing.
use Rattle.lut.proofs.LogLaws.{log-odd}
use Rattle.lut_calls.proofs.numbers.log2.Goals as goal

pub overflow_sub-result : goal.overflow_sub-result
overflow_sub-result c = (log-odd c.args.q c.ranges.q.fits).0

pub returns : goal.returns
returns c = (log-odd c.args.q c.ranges.q.fits).1
