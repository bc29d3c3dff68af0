-- `cube::check_pack` meets its contract: packing is judged as writing the box of the whole cube. Assumes nothing.
use mathlib.Core.Path.{sym, ap, ◌∙◌}
use Rattle.layout.specs.declared.ElementBox.{ElementBox}
use Rattle.layout.specs.Calls.{write_box_answer}
use Rattle.layout.proofs.CallLaws.{pack-whole}
use Rattle.cube.proofs.check_pack.Goals as goal

pub returns : goal.returns
returns c = let a = c.args in
    c.judge.ensures
    ∙ ap (λ (b : ElementBox). write_box_answer a.layout b a.elements.now a.len) c.whole.ensures
    ∙ sym (pack-whole a.layout a.elements.now a.len)
