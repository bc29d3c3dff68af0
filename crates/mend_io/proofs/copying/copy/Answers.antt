-- `mend_io::copying::copy` meets its contract. The loop's invariant: the header and the reports of the parts so far are printed, and the buffers keep their lengths. The measure is what is left
-- of the length read: a part has at least one byte, and ends within it. Assumes nothing.
use native.Mathlib.Omega.{arith}
use mathlib.Core.Path.{refl}
use borrow.Author.Rules.{rules}
use borrow.Author.Tests.{not-true}
use Rattle.mend_io.specs.Steps.{PartCopied}
use Rattle.mend_io.proofs.CopyLaws.{copying-none, copying-more, copied-begun, copied-end, copied-failed, stepped-more, stepped-failed}
use Rattle.mend_io.proofs.copying.copy.Goals as goal

-- one part more
part : (c : goal.In-More)
    → PartCopied c.args.layout c.args.size c.loop-next.at c.loop-next.sum
    c.in-More.next c.in-More.after
part c = stepped-more _ _ _ _ c.copy_part-step.ensures c.in-More.is

pub returns-then-not-begun : goal.returns-then-not-begun
returns-then-not-begun c = let h = c in
    copied-begun _ _ _ h.print_header-begun.ensures (not-true _ c.if-not-begun.true)

pub loop-next-init : goal.loop-next-init
loop-next-init c = (copying-none _ c.print_header-begun.ensures, refl, refl, refl, refl)

pub loop-next-smaller : goal.loop-next-smaller
loop-next-smaller c = let p = part c in omega (arith, p.some, p.next, p.within)

pub loop-next-preserved : goal.loop-next-preserved
loop-next-preserved c = (copying-more _ _ _ c.loop-next.invariant.0 (part c), search rules, search rules, search rules, search rules)

pub returns-in-End : goal.returns-in-End
returns-in-End c = let l = c in
    copied-end _ _ _ l.loop-next.invariant.0 _

pub returns-in-Failed : goal.returns-in-Failed
returns-in-Failed c =
    let p = c in
    copied-failed _ _ _ p.loop-next.invariant.0 _ (stepped-failed _ _ _ _ p.copy_part-step.ensures c.in-Failed.is)
