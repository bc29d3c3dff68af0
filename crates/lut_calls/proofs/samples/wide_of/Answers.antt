-- `lut_calls::samples::wide_of` meets its contract: its cases are the definition's. Assumes nothing.
use Rattle.lut_calls.specs.StepsLoop.{wide_of}
use Rattle.lut_calls.proofs.samples.wide_of.Goals as goal

pub returns-in-Linear : goal.returns-in-Linear
unfolding wide_of
returns-in-Linear c = rw c.in-Linear.is

pub returns-in-Exponential : goal.returns-in-Exponential
unfolding wide_of
returns-in-Exponential c = rw c.in-Exponential.is
