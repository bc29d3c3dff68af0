-- `parlour_calls::strips::Painter::converted_at` meets its contract: a byte is looked up, two bytes are converted. Assumes nothing.
use Prim.Native.Nat.{◌<◌}
use native.Mathlib.Omega.{arith}
use mathlib.Core.Path.{sym, ◌∙◌}
use lib.ListN.{get_or}
use Rattle.parlour_calls.proofs.ComponentLaws.{level-is}
use Rattle.parlour_calls.proofs.strips.Painter.converted_at.Goals as goal

pub returns-then-size-eq1 : goal.returns-then-size-eq1
returns-then-size-eq1 c =
    let s = c.args.self.now in
    let a = c.args in
    let byte : get_or a.pixels.now a.p 0 < 256 = omega (arith, c.type_inv.pixels a.p) in
    level-is s.image.format s.conversion s.layout.precision s.levels a.pixels.now a.p s.told (sym s.sized.0 ∙ sym c.requires.0 ∙ c.if-size-eq1.true) byte
