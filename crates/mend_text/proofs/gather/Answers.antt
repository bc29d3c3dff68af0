-- `mend_text::gather` meets its contract. The loop's invariant: the first i lines, of `at` bytes, are gathered, and those of what is left that fit decide (`Gathering`). Assumes
-- nothing.
use Prim.Native.Nat.{ℕ, ◌+◌, ◌<◌}
use native.Mathlib.Omega.{arith}
use mathlib.Core.Path.{◌≡◌, sym, ap, subst}
use mathlib.Core.List.{List}
use lib.ListN.{length}
use Rattle.lines.specs.declared.Line.{Line}
use Rattle.mend_text.specs.Reports.{dirt_text}
use Rattle.mend_text.proofs.FitLaws.{line_at}
use Rattle.mend_text.proofs.StepLaws.{Gathering, gathering-none, gathering-next, gathering-full, gathering-end, gathering-length, gathering-count, gathering-text}
use Rattle.mend_text.proofs.gather.Goals as goal

pub loop-i-init : goal.loop-i-init
loop-i-init c = let a = c.args in gathering-none a.positions.now a.olds.now a.out.now

pub returns-then-out-at : goal.returns-then-out-at
returns-then-out-at c =
    let P : List ℕ = c.args.positions.now in
    let O : List ℕ = c.args.olds.now in
    let B : List ℕ = c.args.out.now in
    let l = c.loop-i in
    let g = l.invariant in
    -- a line is left
    let position : l.i < length P = omega (arith, c.loop-i-test.true, c.min-count.ensures) in
    let old : l.i < length O = omega (arith, c.loop-i-test.true, c.min-count.ensures) in
    let kept : length l.out ≡ length B = gathering-length P O B l.i l.at l.out g in
    let counted : c.dirt_text-line.result.length ≡ length (dirt_text (line_at P O l.i)) = ap (λ (m : Line). m.length) c.dirt_text-line.ensures in
    let full = gathering-full P O B l.i l.at l.out g position old (omega (arith, c.if-out-at.true, counted, kept)) in
    record { counted = gathering-count P O B l.i l.at l.out g full; left = gathering-text P O B l.i l.at l.out g full }

pub loop-i-preserved : goal.loop-i-preserved
loop-i-preserved c =
    let P : List ℕ = c.args.positions.now in
    let O : List ℕ = c.args.olds.now in
    let B : List ℕ = c.args.out.now in
    let l = c.loop-i in
    let g = l.invariant in
    let position : l.i < length P = omega (arith, c.min-count.ensures, c.loop-i-test.true) in
    let old : l.i < length O = omega (arith, c.min-count.ensures, c.loop-i-test.true) in
    let kept : length l.out ≡ length B = gathering-length P O B l.i l.at l.out g in
    let line = c.dirt_text-line.result in
    let next = gathering-next P O B l.i l.at l.out g line position old c.dirt_text-line.ensures (omega (arith, c.if-out-at.false, g.room, kept)) in
    subst (Gathering P O B (l.i + 1) (l.at + line.length)) (sym c.put.ensures) next

pub returns : goal.returns
returns c =
    let P : List ℕ = c.args.positions.now in
    let O : List ℕ = c.args.olds.now in
    let B : List ℕ = c.args.out.now in
    let l = c.loop-i in
    let n = c.min-count.result in
    let at : l.i ≡ n = omega (arith, c.loop-i-test.false, l.auto.i-end) in
    let g : Gathering P O B n l.at l.out = subst (λ (i : ℕ). Gathering P O B i l.at l.out) at l.invariant in
    let end = gathering-end P O B n l.at l.out g (omega (arith, c.min-count.ensures)) in
    record { counted = gathering-count P O B n l.at l.out g end; left = gathering-text P O B n l.at l.out g end }
