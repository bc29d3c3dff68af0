-- `curve_stored::y_entry` meets its contract: it reads the table, at the last index where the index is past it. Assumes nothing.
use borrow.Author.Rules.{sfits_of}
use mathlib.Core.Path.{◌∙◌}
use mir.Syntax.{w16}
use mir.Facts.{to_z-of_z}
use Rattle.camera.specs.Curve.{curve_y, y_table}
use Rattle.camera.proofs.CurveLaws.{entry-read}
use Rattle.curve_stored.proofs.y_entry.Goals as goal

pub returns : goal.returns
unfolding curve_y y_table
returns c = to_z-of_z {w = w16} (sfits_of c.result-1.given) ∙ entry-read 256 1048576 c.args.i c.y_table.ensures c.least.ensures
