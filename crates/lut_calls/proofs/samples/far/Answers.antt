-- `lut_calls::samples::far` meets its contract: the distance stays within 64 bits. Assumes nothing.
use Rattle.lut.proofs.HeldLaws.{far-value}
use Rattle.lut_calls.proofs.samples.far.Goals as goal

pub returns : goal.returns
returns c = far-value c.ranges.x c.ranges.origin c.ranges.size c.requires
