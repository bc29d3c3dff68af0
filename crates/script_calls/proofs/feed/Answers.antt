-- `script_calls::feed` meets its contract: the line collected, and ended if a newline came. Assumes nothing.
use mathlib.Core.Path.{◌∙◌}
use Rattle.script.proofs.CallLaws.{feed-ended, feed-open}
use Rattle.script_calls.proofs.feed.Goals as goal

pub returns-then-c : goal.returns-then-c
returns-then-c c =
    let a = c.args in
    c.end_line.ensures ∙ feed-ended a.sheet a.part.now c.collect-c.ensures c.if-c.true

pub returns : goal.returns
returns c =
    let a = c.args in
    feed-open a.sheet a.part.now c.collect-c.ensures c.if-c.false
