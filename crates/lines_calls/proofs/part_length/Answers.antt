-- `lines_calls::part_length` meets its contract: the part ends where `position` finds the separator, or at the end. Assumes nothing.
use Rattle.std.proofs.Common.{◌≡◌, ℕ, eqb, length, Option, ap, ◌∙◌, rules, tests}
use Rattle.std.proofs.lemmas.Iterator.{YieldsList-from_slice}
use Rattle.std.proofs.lemmas.Iterator.Search.{position_from_yields_List}
use Rattle.std.specs.List.{position}
use Rattle.std.specs.Option.{unwrap_or}
use Rattle.lines.proofs.SplitLaws.{part_length-position}
use Rattle.lines_calls.proofs.part_length.Goals as goal

pub returns : goal.returns
returns c =
    let a = c.args in
    let text = a.text.now in
    let found : c.position.result ≡ position (λ (b : ℕ). eqb b a.separator) text =
    position_from_yields_List (λ (b : ℕ). eqb b a.separator) _ _ c.position.result c.position.ensures.ran (YieldsList-from_slice text cc) (λ x b q k. search (rules, tests)) in
    c.unwrap_or.ensures ∙ ap (λ (o : Option ℕ). unwrap_or o (length text)) found ∙ part_length-position a.separator text
