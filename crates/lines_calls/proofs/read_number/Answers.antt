-- `lines_calls::read_number` meets its contract, byte by byte: a byte that is no digit, or too large a value, makes the text no number. Assumes nothing.
use Rattle.std.proofs.Common.{◌+◌, sym, ◌∙◌, arith}
use Rattle.lines.specs.Numbers.{is_digit}
use Rattle.lines.proofs.NumberLaws.{passed-next, number-begun, number-other, number-over, number-end}
use Rattle.lines_calls.proofs.read_number.Goals as goal

pub returns-then-not-well_begun : goal.returns-then-not-well_begun
returns-then-not-well_begun c = sym (number-begun c.args.text.now (sym c.well_begun.ensures ∙ c.if-not-well_begun.true))

pub returns-then-not-is_ascii_digit : goal.returns-then-not-is_ascii_digit
unfolding is_digit
returns-then-not-is_ascii_digit c =
    let l = c.loop-b in
    let begun = sym c.well_begun.ensures ∙ c.if-not-well_begun.false in
    sym (number-other c.args.text.now l.high l.b-index l.invariant.1 begun c.loop-b-test.true (sym c.is_ascii_digit.ensures.value ∙ c.if-not-is_ascii_digit.true))

pub returns-then-high-gt-LARGEST : goal.returns-then-high-gt-LARGEST
unfolding is_digit
returns-then-high-gt-LARGEST c =
    let l = c.loop-b in
    let text = c.args.text.now in
    let next = passed-next text l.high l.b-index l.invariant.1 c.loop-b-test.true (sym c.is_ascii_digit.ensures.value ∙ c.if-not-is_ascii_digit.false) in
    let begun = sym c.well_begun.ensures ∙ c.if-not-well_begun.false in
    sym (number-over text _ (l.b-index + 1) next begun (omega arith))

pub loop-b-preserved : goal.loop-b-preserved
unfolding is_digit
loop-b-preserved c =
    let l = c.loop-b in
    let next = passed-next c.args.text.now l.high l.b-index l.invariant.1 c.loop-b-test.true (sym c.is_ascii_digit.ensures.value ∙ c.if-not-is_ascii_digit.false) in
    (c.if-high-gt-LARGEST.false, rw c.from.ensures next)

pub returns : goal.returns
returns c =
    let l = c.loop-b in
    let begun = sym c.well_begun.ensures ∙ c.if-not-well_begun.false in
    sym (number-end c.args.text.now l.high l.b-index l.invariant.1 begun c.loop-b-test.false l.invariant.0)
