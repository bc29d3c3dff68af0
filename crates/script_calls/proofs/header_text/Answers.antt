-- `script_calls::header_text` meets its contract. Assumes nothing.
use native.Mathlib.Omega.{arith}
use mathlib.Core.Path.{◌∙◌}
use Rattle.script.specs.Output.{header}
use Rattle.script.proofs.OutputLaws.{written_all}
use Rattle.script_calls.proofs.header_text.Goals as goal

pub returns : goal.returns
returns c = c.add.ensures ∙ rw c.empty.ensures (written_all header (omega arith))
