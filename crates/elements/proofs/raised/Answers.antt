-- `elements::raised` meets its contract, by what `word` and `magnitude` ensure. Assumes nothing.
use Prim.Native.Nat.{◌%◌}
use mathlib.Core.Path.{◌≡◌}
use mir.Facts.{to_z-of_z}
use Rattle.elements.specs.Bytes.{bit_pattern}
use Rattle.elements.proofs.StepLaws.{raised-int8, raised-fp16}
use Rattle.elements.proofs.raised.Goals as goal

pub returns-then-precision-eq0 : goal.returns-then-precision-eq0
returns-then-precision-eq0 c =
    let s = c in
    let w : c.word.result ≡ bit_pattern s.args.x = rw (to_z-of_z s.ranges.x) at c.word.ensures in
    raised-int8 s.args.precision s.args.x c.word.result w c.if-precision-eq0.true s.ranges.x.sfits

pub returns : goal.returns
returns c =
    let s = c in
    let n : c.magnitude.result ≡ bit_pattern s.args.x % 32768 = rw (to_z-of_z s.ranges.x) at c.magnitude.ensures in
    raised-fp16 s.args.precision s.args.x c.magnitude.result n c.if-precision-eq0.false s.requires
