-- `olsketina::sheet_words::write_sheet` meets its contract: the four words, then the table's. Assumes nothing.
use mathlib.Core.Path.{◌∙◌}
use Rattle.olsketina.specs.Sheets.{with_sheet}
use Rattle.olsketina.proofs.SheetLaws.{progress-sets}
use Rattle.olsketina.proofs.sheet_words.write_sheet.Goals as goal

pub returns : goal.returns
unfolding with_sheet
returns c = c.write_table.ensures ∙ rw (c.flag_word.ensures, progress-sets c.args.sheet c.args.words.now)
