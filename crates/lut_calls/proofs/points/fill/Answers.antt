-- `lut_calls::points::fill` meets its contract. The loop's invariant: the points of the first i entries are written. Assumes nothing.
use Prim.Native.Nat.{ℕ, ◌+◌}
use native.Mathlib.Omega.{arith}
use mathlib.Core.Path.{◌≡◌, subst, ◌∙◌}
use lib.ListN.{get_or}
use lib.IntN.{pos}
use mir.Syntax.{w16}
use mir.Val.{SFits}
use Rattle.general.proofs.NumberLaws.{back16, back32}
use Rattle.lut.specs.Tables.{entry}
use Rattle.lut_calls.proofs.PointLaws.{step_value, Begun, begun-next, filled}
use Rattle.lut_calls.proofs.points.fill.Goals as goal

pub loop-i-preserved : goal.loop-i-preserved
unfolding entry
loop-i-preserved c =
    let l = c.loop-i in
    let table = c.args.table.now in
    let a-fits : SFits w16 (get_or table l.i (pos 0)) = record { sfits = c.a-1.given } in
    let b-fits : SFits w16 (get_or table (l.i + 1) (pos 0)) = record { sfits = c.b-1.given } in
    let first = back16 (get_or table l.i (pos 0)) c.a-1.given in
    rw (c.write.ensures.0, c.write.ensures.1) (begun-next l.invariant _ _ (omega (arith, c.requires.firsts_len.2, c.loop-i-test.true)) first (step_value a-fits b-fits) c.a-1.given)

pub returns : goal.returns
unfolding entry
returns c =
    let w = c in
    let e = w in
    let l = e in
    let a = l.args in
    let table = a.table.now in
    let all : l.loop-i.i ≡ a.last = omega (arith, l.loop-i.auto.i-end, l.loop-i-test.false) in
    let h = subst (λ (n : ℕ). Begun a.firsts.now a.rises.now l.loop-i.firsts l.loop-i.rises table a.base n) all l.loop-i.invariant in
    let above = w.rise in
    let below = c.rise-2 in
    rw (
      c.write-3.ensures.0,
      c.write-3.ensures.1,
      w.write-2.ensures.0,
      w.write-2.ensures.1,
      back32 above.result above.type_inv ∙ above.ensures,
      back32 below.result below.type_inv ∙ below.ensures,
    )
    (filled h _ _ a.below a.above l.requires.firsts_len.2 (back16 (get_or table 0 (pos 0)) e.start-1.given) (back16 (get_or table a.last (pos 0)) e.end-1.given) e.end-1.given)
