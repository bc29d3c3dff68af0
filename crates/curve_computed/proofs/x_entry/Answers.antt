-- `curve_computed::x_entry` meets its contract: it is an entry of that curve. Assumes nothing.
use borrow.Author.Rules.{rules}
use Rattle.camera.specs.Curve.{curve_x}
use Rattle.curve_computed.proofs.x_entry.Goals as goal

pub returns : goal.returns
unfolding curve_x
returns c = search rules
