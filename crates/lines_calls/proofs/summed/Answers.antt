-- `lines_calls::summed` meets its contract: the checksum is the fold of the bytes. Assumes nothing.
use mathlib.Core.Path.{◌≡◌, ◌∙◌}
use borrow.Author.Rules.{rules}
use Rattle.std.specs.List.{fold}
use Rattle.lines.specs.Sums.{mixed}
use Rattle.lines.proofs.SumLaws.{checksum-fold}
use Rattle.lines_calls.proofs.summed.Goals as goal

pub returns : goal.returns
returns c =
    let folded : c.fold.result ≡ fold mixed c.args.before c.args.text.now = search rules in
    folded ∙ checksum-fold c.args.text.now c.args.before
