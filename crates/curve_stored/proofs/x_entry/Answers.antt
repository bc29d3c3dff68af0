-- `curve_stored::x_entry` meets its contract: it reads the table, at the last index where the index is past it. Assumes nothing.
use borrow.Author.Rules.{sfits_of}
use mathlib.Core.Path.{◌∙◌}
use mir.Syntax.{w16}
use mir.Facts.{to_z-of_z}
use Rattle.camera.specs.Curve.{curve_x, x_table}
use Rattle.camera.proofs.CurveLaws.{entry-read}
use Rattle.curve_stored.proofs.x_entry.Goals as goal

pub returns : goal.returns
unfolding curve_x x_table
returns c = to_z-of_z {w = w16} (sfits_of c.result-1.given) ∙ entry-read 64 262144 c.args.j c.x_table.ensures c.least.ensures
