-- `lines_calls::read_numbers` meets its contract. The loop's invariant: the first `count` values are the numbers of the fields up to `at`. The measure is
-- what is left of the text. Assumes nothing.
use Prim.Native.Nat.{◌+◌}
use mathlib.Core.Path.{refl, sym, ◌∙◌}
use native.Mathlib.Omega.{arith}
use borrow.Author.Rules.{rules}
use lib.ListN.{drop}
use Rattle.lines.specs.Texts.{part_length, parts_behind}
use Rattle.lines.proofs.SplitLaws.{parts_behind-end, NextPart, next-at, next-part}
use Rattle.lines.proofs.TableLaws.{table_none, table-end, table-next, table-no-number, table-eighth}
use Rattle.lines_calls.proofs.read_numbers.Goals as goal

-- the field that the loop comes to
next : (c : goal.After-part_length) → NextPart 9 c.args.rest.now c.loop-at.at c.part_length.result
next c = next-part 9 c.args.rest.now c.loop-at.at c.part_length.result (omega arith) c.part_length.ensures

pub loop-at-init : goal.loop-at-init
loop-at-init c = (omega arith, omega arith, table_none (parts_behind 9 c.args.rest.now))

pub returns-then-count-eq7 : goal.returns-then-count-eq7
returns-then-count-eq7 c =
    let l = c.loop-at in
    let rest = c.args.rest.now in
    let eighth = next-at 9 rest l.at (part_length 9 (drop (l.at + 1) rest)) (omega arith) refl in
    table-eighth _ l.count l.values _ l.invariant.2 _ _ eighth.parts c.if-count-eq7.true

pub overflow_add-end : goal.overflow_add-end
overflow_add-end c = let e = (next c).ends in search rules

pub slice_bounds-read_number-end : goal.slice_bounds-read_number-end
slice_bounds-read_number-end c = let e = (next c).ends in search rules

pub returns-in_err-n : goal.returns-in_err-n
returns-in_err-n c =
    let l = c.loop-at in
    let n = next-part 9 c.args.rest.now l.at c.part_length.result (omega arith) c.part_length.ensures in
    c.from_residual.ensures ∙ table-no-number _ l.count l.values _ l.invariant.2 _ _ n.parts (sym c.read_number.ensures ∙ c.in_err-n.was)

pub loop-at-preserved : goal.loop-at-preserved
loop-at-preserved c =
    let l = c.loop-at in
    let n = next-part 9 c.args.rest.now l.at c.part_length.result (omega arith) c.part_length.ensures in
    (n.ends, omega arith, table-next _ l.count l.values _ l.invariant.2 _ _ n.parts c.in_ok-n.n (sym c.read_number.ensures ∙ c.in_ok-n.was) (omega arith))

pub returns : goal.returns
returns c =
    let l = c.loop-at in
    let rest = c.args.rest.now in
    table-end _ l.count l.values _ l.invariant.2 (parts_behind-end 9 rest l.at (omega arith)) l.invariant.1
