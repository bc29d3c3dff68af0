-- `olsketina::tables::write_table` meets its contract. The loop's invariant: the first i words are written. Assumes nothing.
use mathlib.Core.Path.{◌≡◌}
use Rattle.olsketina.specs.Words.{overwritten}
use Rattle.olsketina.specs.Tables.{table_word}
use Rattle.olsketina.proofs.tables.write_table.Given as goal

abbrev pub invariant-loop-i : goal.invariant-loop-i
invariant-loop-i l = l.words ≡ overwritten 0 (table_word l.table) l.at l.i l.initial.words
