-- `script_calls::row_text` meets its contract: the fields of the row. Assumes nothing.
use mathlib.Core.Path.{◌∙◌}
use Rattle.script.specs.Output.{row_text}
use Rattle.script.proofs.OutputLaws.{plain_value}
use Rattle.script_calls.proofs.row_text.Goals as goal

pub returns : goal.returns
unfolding row_text
returns c = c.fields_text.ensures ∙ rw (c.answer_code-code.ensures, plain_value c.args.row.value)
