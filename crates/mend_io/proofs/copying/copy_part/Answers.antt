-- `mend_io::copying::copy_part` meets its contract. Assumes nothing.
use native.Mathlib.Omega.{arith}
use mathlib.Core.Path.{◌≡◌}
use lib.ListN.{length, take}
use lib.Seq.{length-take-le}
use borrow.Author.Tests.{not-false}
use Rattle.mend_io.proofs.CopyLaws.{step-none, step_end, step-failed, step-more}
use Rattle.mend_io.proofs.copying.copy_part.Goals as goal

pub returns-in_default : goal.returns-in_default
returns-in_default c = step-none _ _ _ _

pub returns-then-n-eq0 : goal.returns-then-n-eq0
returns-then-n-eq0 c = step_end _ _ _ _

pub returns-then-not-given : goal.returns-then-not-given
returns-then-not-given c = step-failed _ _ _ _ _ c.give_part-given.ensures.shown

pub overflow_add-result : goal.overflow_add-result
overflow_add-result c =
    let whole : length (take c.in-Some.n c.read_part.new.part) ≡ c.in-Some.n = length-take-le _ _ c.in-Some.ensures in
    omega (arith, whole, c.give_part-given.ensures.part_bound (not-false _ c.if-not-given.false))

pub returns : goal.returns
returns c =
    let whole : length (take c.in-Some.n c.read_part.new.part) ≡ c.in-Some.n = length-take-le _ _ c.in-Some.ensures in
    step-more _ _ _ _ _ c.give_part-given.ensures.shown c.in-Some.n (not-false _ c.if-not-given.false) whole (omega arith) (omega (arith, whole, c.give_part-given.ensures.part_bound (not-false _ c.if-not-given.false)))
