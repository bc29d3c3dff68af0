-- `lines_calls::add_number` meets its contract. The loop's invariant: the digits of what is left of the number, and those written, are the number's; what
-- is left has at most `at` digits. The measure is what is left. Assumes nothing.
use Prim.Native.Nat.{◌-◌}
use mathlib.Core.Path.{◌≡◌, refl, ◌∙◌}
use native.Mathlib.Omega.{arith}
use lib.ListN.{drop, length-drop, length-set}
use lib.Seq.{take_all}
use Rattle.lines.specs.Digits.{digits}
use Rattle.lines.proofs.DigitLaws.{rest-room, rest-less, rest-next, leading-none}
use Rattle.lines_calls.proofs.add_number.Goals as goal

pub loop-rest-init : goal.loop-rest-init
unfolding digits
loop-rest-init c = (omega arith, omega arith, refl, refl)

pub loop-rest-preserved : goal.loop-rest-preserved
loop-rest-preserved c =
    let l = c.loop-rest in
    let room = rest-room l.text l.at l.rest l.invariant.1 (omega arith) in (
      omega arith,
      rest-less l.text l.at l.rest l.invariant.1 room,
      length-set l.text _ _ ∙ l.invariant.2,
      rest-next l.text l.at l.rest (omega arith) room (omega (arith, l.invariant.2)) ∙ l.invariant.3,
    )

pub returns : goal.returns
returns c =
    let l = c.loop-rest in
    let none : l.rest ≡ 0 = omega (arith, c.loop-rest-test.false) in
    c.add.ensures ∙ rw (take_all (20 - l.at) (drop l.at l.text) (omega (arith, length-drop l.at l.text, l.invariant.2)), rw (none, leading-none) at l.invariant.3)
