-- `records::by_fields` meets its contract: the first field is the word, and the numbers stand behind it. Assumes nothing.
use Rattle.std.proofs.Common.{sym, ap, ◌∙◌, take}
use Rattle.std.specs.Option.{option_and_then}
use Rattle.lines.specs.Numbers.{numbers_behind}
use Rattle.lines.proofs.SplitLaws.{part_length-le}
use Rattle.records.specs.Records.{by_word}
use Rattle.records.proofs.LineLaws.{fields-is}
use Rattle.records.proofs.by_fields.Goals as goal

pub split_at-requires : goal.split_at-requires
split_at-requires c = rw c.part_length.ensures (part_length-le 9 c.args.text.now)

pub returns-in_err-read_numbers : goal.returns-in_err-read_numbers
returns-in_err-read_numbers c =
    let text = c.args.text.now in
    let end = c.part_length.result in
    let ns = c.read_numbers.ensures ∙ ap numbers_behind c.split_at.ensures.back in
    c.from_residual.ensures
    ∙ sym (ap (option_and_then (by_word (take end text))) c.in_err-read_numbers.was)
    ∙ fields-is text end c.read_numbers.result c.part_length.ensures ns

pub returns : goal.returns
returns c =
    let text = c.args.text.now in
    let end = c.part_length.result in
    let ns = c.read_numbers.ensures ∙ ap numbers_behind c.split_at.ensures.back in
    c.by_word.ensures ∙ rw c.split_at.ensures.front (sym (ap (option_and_then (by_word (take end text))) c.in_ok-read_numbers.was)
    ∙ fields-is text end c.read_numbers.result c.part_length.ensures ns)
