-- `olsketina::sheet_calls::olsketina_script_row_text` meets its contract: it hands on what `script::fields_text` gives, and a value without a minus is
-- itself. Assumes nothing.
use mathlib.Core.Path.{ap, ◌∙◌}
use lib.IntN.{ℤ}
use Rattle.lines.specs.declared.Line.{Line}
use Rattle.lines.specs.Collecting.{written}
use Rattle.script.specs.Output.{fields_text}
use Rattle.script.proofs.OutputLaws.{plain_value}
use Rattle.olsketina.proofs.sheet_calls.olsketina_script_row_text.Goals as goal

pub returns : goal.returns
returns c =
    let e = c.fields_text-fields.ensures ∙ ap (λ (z : ℤ). written (fields_text c.args.line c.args.answer z)) (plain_value c.args.value) in
    record { length = c.write_text.ensures.length ∙ ap (λ (l : Line). l.length) e; bytes = c.write_text.ensures.bytes ∙ ap (λ (l : Line). l.bytes) e }
