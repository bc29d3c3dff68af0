-- `lut_calls::rules::linear_end` meets its contract: the sum stays within 64 bits. Assumes nothing.
use Prim.Native.Nat.{◌≤◌}
use mathlib.Core.Path.{◌≡◌, sym, ap, ap₂, subst, ◌∙◌}
use Prim.Native.Nat.{ℕ}
use lib.IntN.{ℤ, pos, ◌+ℤ◌}
use mir.Syntax.{w64}
use mir.Val.{SFits}
use Rattle.lut.specs.Rules.{same_z}
use mir.Facts.{sfits_widen, to_z-of_z}
use Rattle.general.proofs.Casts.{cast-value}
use Rattle.lut.specs.Numbers.{scaled}
use Rattle.lut.proofs.RuleLaws.{scaled-le, sum_fits, count_fits, sum_is, same_bits}
use Rattle.lut_calls.proofs.rules.linear_end.Goals as goal

count_is : (c : goal.After-scaled-n) → c.scaled-n.result ≡ scaled c.args.last c.args.select
count_is c = simp (to_z-of_z c.ranges.select) at c.scaled-n.ensures

count_le : (c : goal.After-scaled-n) → c.scaled-n.result ≤ 8589934592
count_le c = let s = c in
    subst (λ (n : ℕ). n ≤ 8589934592) (sym (count_is c)) (scaled-le s.args.last s.args.select s.requires.0 s.requires.1)

pub overflow_cast-at-2 : goal.overflow_cast-at-2
overflow_cast-at-2 c = count_fits c.scaled-n.result (count_le c)

pub overflow_add-at : goal.overflow_add-at
overflow_add-at c = sum_fits c.ranges.start (count_le c)

pub returns : goal.returns
returns c = let f = c.ranges in
    let sum = sum_is f.start (count_le c) in
    let end = cast-value {w' = w64} f.end (sfits_widen tt f.end) in
    same_bits (subst (λ (z : ℤ). SFits w64 z) (sym (to_z-of_z f.end)) (sfits_widen tt f.end)) (sum_fits f.start (count_le c))
    ∙ ap₂ same_z (to_z-of_z f.end) (sum ∙ ap (λ (n : ℕ). c.args.start +ℤ pos n) (count_is c))
