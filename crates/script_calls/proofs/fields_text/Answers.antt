-- `script_calls::fields_text` meets its contract: the fields are added one after another to an empty line, in which they have room. Assumes nothing.
use Prim.Native.Nat.{◌<◌, ◌^◌}
use native.Mathlib.Omega.{arith}
use mathlib.Core.Path.{◌∙◌}
use Rattle.script.proofs.OutputLaws.{fields-is}
use Rattle.script_calls.proofs.fields_text.Goals as goal

pub returns : goal.returns
returns c =
    let a = c.args in
    let line : a.line < 2 ^ 64 = omega (arith, c.ranges.line) in
    let answer : a.answer < 2 ^ 64 = omega (arith, c.ranges.answer) in
    let value : a.value < 2 ^ 64 = omega (arith, c.ranges.value) in
    c.add.ensures
    ∙ rw (c.add_signed-fifth.ensures, c.add-fourth.ensures, c.add_number-third.ensures, c.add-second.ensures, c.add_number-first.ensures, c.empty.ensures)
    (fields-is a.line a.answer a.value a.minus line answer value)
