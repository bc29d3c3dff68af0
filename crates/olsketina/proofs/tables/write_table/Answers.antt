-- `olsketina::tables::write_table` meets its contract: one more word is written. Assumes nothing.
use mathlib.Core.Path.{refl}
use Rattle.olsketina.specs.Words.{overwritten}
use Rattle.olsketina.specs.Tables.{table_word}
use Rattle.olsketina.proofs.OverLaws.{overwritten-next}
use Rattle.olsketina.proofs.tables.write_table.Goals as goal

pub loop-i-init : goal.loop-i-init
loop-i-init c = unfold overwritten in refl

pub loop-i-preserved : goal.loop-i-preserved
loop-i-preserved c = rw c.table_word.ensures (overwritten-next 0 (table_word c.args.table) c.args.at c.args.words.now c.loop-i.i c.loop-i.invariant)
