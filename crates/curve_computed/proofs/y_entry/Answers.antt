-- `curve_computed::y_entry` meets its contract: it is an entry of that curve. Assumes nothing.
use borrow.Author.Rules.{rules}
use Rattle.camera.specs.Curve.{curve_y}
use Rattle.curve_computed.proofs.y_entry.Goals as goal

pub returns : goal.returns
unfolding curve_y
returns c = search rules
