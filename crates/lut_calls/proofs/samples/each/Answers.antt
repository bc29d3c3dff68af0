-- `lut_calls::samples::each` meets its contract. The loop's invariant: the first i outputs are the rows' answers, the pairs of the first i samples are counted, and
-- those samples are numbers of 32 bits. Assumes nothing.
use Prim.Native.Nat.{ℕ, ◌<◌, ◌≤◌}
use native.Mathlib.Decide.{ℕ_discrete}
use native.Mathlib.Omega.{arith}
use mathlib.Core.Path.{◌≡◌, ap, ap₂, ◌∙◌}
use mathlib.Core.Bool.{Bool}
use mathlib.Core.List.{List}
use lib.ListN.{length, get_or, length-set}
use lib.IntN.{ℤ, pos}
use lib.Signed.{mag}
use mir.Syntax.{w32}
use mir.Val.{to_z, of_z}
use Rattle.general.proofs.NumberLaws.{back32}
use Rattle.lut_calls.specs.declared.Row.{Row}
use Rattle.lut_calls.specs.declared.Bounds.{Bounds}
use Rattle.lut_calls.specs.StepsRows.{row_answer, row_power, Powered, Inside}
use Rattle.lut_calls.specs.StepsLoop.{pair_of, row_for, pair_answer, All_ready}
use Rattle.lut_calls.proofs.PlanLaws.{pair_lt}
use Rattle.lut_calls.proofs.LoopLaws.{answered-next, tally-le, tally-next}
use Rattle.lut_calls.proofs.samples.each.Goals as goal

abbrev none : Row
none = record { origin = pos 0; size = pos 0; shift = 0; on = pos 0; base = 0; wide = pos 0 }

-- the sample's pair, row and answer
module _ (rows : List Row) (b : Bounds) (x : ℤ) (h : mag x < 2147483648) (k : ℕ) (e : k ≡ pair_of b (to_z w32 (of_z w32 x))) where
  pair_is : k ≡ pair_of b x
  pair_is = e ∙ ap (pair_of b) (back32 x h)

  pair_small : k < 9
  pair_small = rw pair_is (pair_lt b x)

  row_is : get_or rows k none ≡ row_for rows b x
  unfolding row_for
  row_is = ap (λ (n : ℕ). get_or rows n none) pair_is

  powered : (wide : Bool) → All_ready rows b wide → Powered (get_or rows k none) (to_z w32 (of_z w32 x))
  powered wide ready = rw (row_is, back32 x h) (ready x h).0

  module _ (wide : Bool) (p : ℕ) (power : p ≡ row_power wide (get_or rows k none) (to_z w32 (of_z w32 x))) where
    power-is : p ≡ row_power wide (row_for rows b x) x
    power-is = power ∙ ap₂ (λ (r : Row) (z : ℤ). row_power wide r z) row_is (back32 x h)

    inside : All_ready rows b wide → Inside (get_or rows k none) p (to_z w32 (of_z w32 x))
    inside ready = rw (power-is, row_is, back32 x h) (ready x h).1

    value-is : (firsts rises : List ℤ) (v : ℤ) → mag v < 2147483648 → v ≡ row_answer (get_or rows k none) firsts rises p (to_z w32 (of_z w32 x))
        → to_z w32 (of_z w32 v) ≡ pair_answer rows b firsts rises wide x
    unfolding pair_answer
    value-is firsts rises v g f =
        back32 v g ∙ f
        ∙ ap₂ (λ (r : Row) (z : ℤ). row_answer r firsts rises p z) row_is (back32 x h)
        ∙ ap (λ (n : ℕ). row_answer (row_for rows b x) firsts rises n x) power-is

pub offset_bounds-rows-k : goal.offset_bounds-rows-k
offset_bounds-rows-k c = record { fits = omega (arith, pair_small c.args.rows c.args.b (get_or c.args.samples.now c.loop-i.i (pos 0)) c.x-1.given c.pair-k.result c.pair-k.ensures) }

pub bounds-rows-k : goal.bounds-rows-k
bounds-rows-k c = pair_small c.args.rows c.args.b (get_or c.args.samples.now c.loop-i.i (pos 0)) c.x-1.given c.pair-k.result c.pair-k.ensures

pub power_of-requires : goal.power_of-requires
power_of-requires c =
    let a = c.args in
    powered a.rows a.b (get_or a.samples.now c.loop-i.i (pos 0)) c.x-1.given c.pair-k.result c.pair-k.ensures a.wide c.requires.all_ready

pub value-requires : goal.value-requires
value-requires c =
    let a = c.args in
    inside a.rows a.b (get_or a.samples.now c.loop-i.i (pos 0)) c.x-1.given c.pair-k.result c.pair-k.ensures a.wide c.power_of.result c.power_of.ensures c.requires.all_ready

pub offset_bounds-seen-k : goal.offset_bounds-seen-k
offset_bounds-seen-k c = record { fits = omega (arith, pair_small c.args.rows c.args.b (get_or c.args.samples.now c.loop-i.i (pos 0)) c.x-1.given c.pair-k.result c.pair-k.ensures) }

pub bounds-seen-k : goal.bounds-seen-k
bounds-seen-k c = pair_small c.args.rows c.args.b (get_or c.args.samples.now c.loop-i.i (pos 0)) c.x-1.given c.pair-k.result c.pair-k.ensures

pub overflow_add-seen : goal.overflow_add-seen
overflow_add-seen c =
    let a = c.args in
    let o = c.loop-i in
    let few : length a.samples.now ≤ 4294967295 = c.requires.outputs_len.1 in
    record { fits = omega (arith, tally-le (pair_of a.b) a.samples.now o.seen o.i o.invariant.tallied c.pair-k.result (omega (arith, c.loop-i-test.true)), few, c.loop-i-test.true) }

pub offset_bounds-seen-k-in-loop-i : goal.offset_bounds-seen-k-in-loop-i
offset_bounds-seen-k-in-loop-i c = record { fits = omega (arith, pair_small c.args.rows c.args.b (get_or c.args.samples.now c.loop-i.i (pos 0)) c.x-1.given c.pair-k.result c.pair-k.ensures) }

pub bounds-seen-k-in-loop-i : goal.bounds-seen-k-in-loop-i
bounds-seen-k-in-loop-i c = pair_small c.args.rows c.args.b (get_or c.args.samples.now c.loop-i.i (pos 0)) c.x-1.given c.pair-k.result c.pair-k.ensures

pub loop-i-preserved : goal.loop-i-preserved
loop-i-preserved c =
    let o = c.loop-i in
    let i = o.i in
    let a = c.args in
    let samples = a.samples.now in
    let k = c.pair-k.result in
    let x : ℤ = get_or samples i (pos 0) in
    let range = c.x-1.given in
    let h = c.loop-i-test.true in
    let pair = pair_is a.rows a.b x range k c.pair-k.ensures in
    let small = pair_small a.rows a.b x range k c.pair-k.ensures in
    let value = value-is a.rows a.b x range k c.pair-k.ensures a.wide c.power_of.result c.power_of.ensures a.firsts.now a.rises.now c.value.result c.value.type_inv c.value.ensures in
    record {
      outputs_long = length-set o.outputs i _ ∙ o.invariant.outputs_long;
      seen_long = length-set o.seen k _ ∙ o.invariant.seen_long;
      answered = answered-next (pair_answer a.rows a.b a.firsts.now a.rises.now a.wide) samples o.outputs i h o.invariant.outputs_long o.invariant.answered value;
      tallied = tally-next (pair_of a.b) samples o.seen i o.invariant.tallied h pair (omega (arith, small, o.invariant.seen_long));
      ranged = λ j l. elim (ℕ_discrete j i) [ yes e ↦ rw e range | no f ↦ o.invariant.ranged j (omega (arith, l, f)) ];
    }
