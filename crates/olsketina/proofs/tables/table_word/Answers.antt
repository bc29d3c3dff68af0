-- `olsketina::tables::table_word` meets its contract: its test is the definition's. Assumes nothing.
use Prim.Native.Nat.{ℕ, ◌-◌, ◌%◌}
use mathlib.Core.Path.{sym, ap, ◌∙◌}
use mathlib.Core.List.{List}
use Rattle.olsketina.specs.Sizes.{layout_size, slot_size}
use Rattle.olsketina.specs.Words.{word}
use Rattle.olsketina.proofs.TableLaws.{table_word-layout, table_word-slot}
use Rattle.olsketina.proofs.tables.table_word.Goals as goal

pub returns-then-i-lt-LAYOUT_WORDS : goal.returns-then-i-lt-LAYOUT_WORDS
returns-then-i-lt-LAYOUT_WORDS c =
    ap (λ (l : List ℕ). word l c.args.i) c.layout_words-first.ensures ∙ sym (table_word-layout c.args.table c.args.i c.args.old c.if-i-lt-LAYOUT_WORDS.true)

pub returns : goal.returns
returns c =
    ap (λ (l : List ℕ). word l ((c.args.i - layout_size) % slot_size)) c.region_words-later.ensures ∙
    sym (table_word-slot c.args.table c.args.i c.args.old c.if-i-lt-LAYOUT_WORDS.false)
