-- `elements::check_values` meets its contract: an unknown code is refused; int16 takes every element; else all elements are valid, or the first at fault is
-- found. Assumes nothing.
use Prim.Native.Nat.{◌<◌}
use native.Mathlib.Omega.{arith}
use mathlib.Core.Path.{◌≡◌, sym, ◌∙◌}
use mathlib.Core.Bool.{true}
use lib.IntN.{pos}
use lib.ListN.{length, get_or}
use Rattle.elements.specs.Steps.{all_valid}
use Rattle.elements.proofs.ElementLaws.{value_check-int8, value_check-other}
use Rattle.elements.proofs.ValueLaws.{value_checks-all, value_checks-int16, precision_checks-unknown, precision_checks-known}
use Rattle.elements.proofs.StepLaws.{all_valid-at}
use Rattle.elements.proofs.check_values.Goals as goal

pub returns-then-precision-gt2 : goal.returns-then-precision-gt2
returns-then-precision-gt2 c = sym (precision_checks-unknown c.args.precision c.args.elements.now c.if-precision-gt2.true)

pub returns-then-precision-eq1 : goal.returns-then-precision-eq1
returns-then-precision-eq1 c =
    let int16 : c.args.precision < 3 = omega (arith, c.if-precision-gt2.false) in
    let d = c in
    let a = d.args in
    sym (precision_checks-known a.precision a.elements.now int16 ∙ rw c.if-precision-eq1.true (value_checks-int16 a.elements.now))

pub returns-then-all_valid : goal.returns-then-all_valid
returns-then-all_valid c =
    let others : c.args.precision < 3 = omega (arith, c.if-precision-gt2.false) in
    let d = c in
    let a = d.args in
    let zs = a.elements.now in
    let all : all_valid a.precision zs (length zs) ≡ true = sym c.all_valid.ensures ∙ c.if-all_valid.true in
    sym (precision_checks-known a.precision zs others ∙ value_checks-all a.precision zs (all_valid-at a.precision zs (length zs) all))

pub returns-then-precision-eq0 : goal.returns-then-precision-eq0
returns-then-precision-eq0 c =
    let a = c.args in
    let int8 : a.precision < 3 = omega (arith, c.if-precision-gt2.false) in
    sym (precision_checks-known a.precision a.elements.now int8 ∙ c.first_refused-at.ensures.first
    ∙ value_check-int8 a.precision c.first_refused-at.result (get_or a.elements.now c.first_refused-at.result (pos 0)) c.first_refused-at.ensures.fault c.if-precision-eq0.true)

pub returns : goal.returns
returns c =
    let a = c.args in
    let fp16 : a.precision < 3 = omega (arith, c.if-precision-gt2.false) in
    sym (precision_checks-known a.precision a.elements.now fp16 ∙ c.first_refused-at.ensures.first
    ∙ value_check-other a.precision c.first_refused-at.result (get_or a.elements.now c.first_refused-at.result (pos 0)) c.first_refused-at.ensures.fault c.if-precision-eq0.false)
