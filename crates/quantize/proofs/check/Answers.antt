-- `quantize::check` meets its contract: it makes the definition's checks in their order. Assumes nothing.
use Rattle.quantize.proofs.AnswerLaws.{check-precision, check-shift, check-valid}
use Rattle.quantize.proofs.check.Goals as goal

pub returns-then-precision-ge2 : goal.returns-then-precision-ge2
returns-then-precision-ge2 c = let a = c.args in check-precision a.precision a.shift c.if-precision-ge2.true

pub returns-then-shift-gt31 : goal.returns-then-shift-gt31
returns-then-shift-gt31 c = let a = c.args in
    check-shift a.precision a.shift c.if-precision-ge2.false c.if-shift-gt31.true

pub returns : goal.returns
returns c = let a = c.args in
    check-valid a.precision a.shift c.if-precision-ge2.false c.if-shift-gt31.false
