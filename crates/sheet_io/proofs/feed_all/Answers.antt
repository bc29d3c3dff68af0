-- `sheet_io::feed_all` meets its contract: each call reads a byte at least, and its text is written. The loop's invariant: the calls for what is left of the
-- part come to the state and the checksum of those for all of it. The measure is what is left. Assumes nothing.
use Prim.Native.Nat.{ℕ, ◌+◌, ◌-◌, ◌≤◌, ◌<◌}
use native.Mathlib.Omega.{arith}
use mathlib.Core.Path.{◌≡◌, sym, ap, ◌∙◌}
use mathlib.Core.List.{List, flatten}
use lib.ListN.{length, take, drop, length-drop}
use lib.Seq.{length-take-le}
use Rattle.lines.specs.Sums.{checksum}
use Rattle.script.specs.declared.Fed.{Fed}
use Rattle.script.specs.declared.Sheet.{Sheet}
use Rattle.script.specs.Feed.{fed, part_fed}
use Rattle.script.proofs.Claims as script
use Rattle.sheet_io.specs.Printing.{calls_printed, part_printed}
use Rattle.sheet_io.proofs.PrintLaws.{call-printed}
use Rattle.sheet_io.proofs.feed_all.Goals as goal

-- the bytes that a call read
reads : (state : Sheet) (bytes : List ℕ) (from : ℕ) {f : Fed} → from < length bytes → f ≡ fed state (take (length bytes - from) (drop from bytes))
    → (0 < f.read) × (from + f.read ≤ length bytes)
reads state bytes from {f} h e =
    let rest = take (length bytes - from) (drop from bytes) in
    let n : length rest ≡ length bytes - from = length-take-le (length bytes - from) (drop from bytes) (omega (arith, length-drop from bytes)) in
    let same = ap (λ (f : Fed). f.read) e in
    (omega (arith, same, (script.reads state rest).1 (omega (arith, n, h))), omega (arith, same, (script.reads state rest).0, n, h))

pub overflow_add-from : goal.overflow_add-from
overflow_add-from c = record { fits = omega (arith, (reads c.loop-from.sheet c.args.part.now c.loop-from.from c.loop-from-test.true c.feed-fed.ensures).1, c.type_inv.part) }

pub loop-from-smaller : goal.loop-from-smaller
loop-from-smaller c = let r = reads c.loop-from.sheet c.args.part.now c.loop-from.from c.loop-from-test.true c.feed-fed.ensures in omega (arith, r.0, r.1)

pub loop-from-preserved : goal.loop-from-preserved
loop-from-preserved c =
    let l = c.loop-from in (
      omega (arith, (reads c.loop-from.sheet c.args.part.now c.loop-from.from c.loop-from-test.true c.feed-fed.ensures).1),
      call-printed l.sum l.sheet c.args.part.now l.from c.loop-from-test.true c.feed-fed.ensures c.given_text.ensures c.write-sum.ensures ∙ l.invariant.1,
    )

pub returns : goal.returns
unfolding part_fed part_printed checksum flatten
returns c =
    let l = c.loop-from in
    let none : length c.args.part.now - l.from ≡ 0 = omega (arith, c.loop-from-test.false) in
    ap (λ (k : ℕ). calls_printed l.sum (part_fed k l.sheet (drop l.from c.args.part.now))) (sym none) ∙ l.invariant.1
