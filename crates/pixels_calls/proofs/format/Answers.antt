-- `pixels_calls::format` meets its contract: the table has the codes up to 16, and past it there is no row. Assumes nothing.
use Rattle.pixels.proofs.FormatLaws.{format-none}
use Rattle.std.proofs.lemmas.Grind.{common_steps}
use native.Mathlib.Omega.{arith}
use Rattle.pixels_calls.proofs.format.Goals as goal

pub returns : goal.returns
returns c = grind (arith, common_steps, format-none c.args.code)
