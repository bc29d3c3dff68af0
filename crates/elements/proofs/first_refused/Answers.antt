-- `elements::first_refused` meets its contract. The loop's invariant: each element before `at` is valid. So an element that is not is the
-- first at fault, and the loop does not pass them all. The measure is what is left of the length. Assumes nothing.
use Prim.Native.Nat.{ℕ}
use mathlib.Core.Path.{◌≡◌, sym, ap, ◌∙◌}
use mathlib.Core.Bool.{true}
use native.Mathlib.Omega.{arith}
use borrow.Author.Tests.{le-ltb}
use mir.Syntax.{w16}
use mir.Val.{to_z, of_z}
use lib.Dec.{ltb}
use lib.IntN.{ℤ, pos}
use lib.ListN.{length, get_or}
use Rattle.elements.specs.Values.{value_valid}
use Rattle.elements.specs.Steps.{all_valid}
use Rattle.elements.proofs.ValueLaws.{value_checks-first}
use Rattle.elements.proofs.StepLaws.{read_back, all_valid-all}
use Rattle.elements.proofs.first_refused.Goals as goal

pub returns-then-limit-raised : goal.returns-then-limit-raised
returns-then-limit-raised c =
    let taken : (let l = c.loop-at in let a = c.args in ltb c.raised.result c.limit.result ≡ value_valid a.precision (get_or a.elements.now l.at (pos 0))) =
    let l = c.loop-at in
    let a = c.args in
    let x = read_back (get_or a.elements.now l.at (pos 0)) c.x-1.given in
    ap (λ (n : ℕ). ltb c.raised.result n) c.limit.ensures ∙ c.raised.ensures
    ∙ ap (λ (n : ℕ). value_valid a.precision (to_z w16 (of_z w16 (get_or a.elements.now n (pos 0))))) (omega arith)
    ∙ ap (λ (z : ℤ). value_valid a.precision z) x in
    let r = c in
    let l = r.loop-at in
    let a = r.args in
    let fault = sym taken ∙ le-ltb _ _ c.if-limit-raised.true in
    record { first = value_checks-first a.precision a.elements.now l.at r.loop-at-test.true l.invariant fault; fault = fault }

pub returns : goal.returns
returns c =
    let a = c.args in
    let zs = a.elements.now in
    let whole : c.loop-at.at ≡ length zs = omega arith in
    let none = all_valid-all a.precision zs c.loop-at.at c.loop-at.invariant in
    let all : all_valid a.precision zs (length zs) ≡ true = rw whole at none in
    let never : ◌≡◌ {A = ℕ} 0 1 = cc c.requires.1 in
    absurd (omega arith)
