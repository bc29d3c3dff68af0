-- `sheet_io::write` meets its contract: all bytes of the text are kept. Assumes nothing.
use mathlib.Core.Path.{◌≡◌, ap, ◌∙◌}
use lib.ListN.{length}
use Rattle.general.proofs.ListLaws.{length-mapped}
use Rattle.lines.specs.Sums.{checksum}
use Rattle.lines.proofs.HoldLaws.{kept-bytes}
use Rattle.sheet_io.proofs.write.Goals as goal

pub returns : goal.returns
returns c =
    let room : length c.args.text.bytes ≡ 120 = search length-mapped in
    let k = c in
    let a = k.args in
    c.summed.ensures ∙ ap (checksum a.sum) (kept-bytes a.text k.kept-n.result room k.kept-n.ensures)
