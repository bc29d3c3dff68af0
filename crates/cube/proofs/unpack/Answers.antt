-- `cube::unpack` meets its contract: it reads the box of the whole cube. Assumes nothing.
use mathlib.Core.Path.{◌≡◌, sym, ap, ◌∙◌}
use lib.ListN.{length}
use Rattle.refusal.specs.Checks.{in_order}
use Rattle.refusal.proofs.CheckLaws.{handed-on}
use Rattle.layout.specs.declared.ElementBox.{ElementBox}
use Rattle.layout.specs.Boxes.{whole_box}
use Rattle.layout.specs.Rules.{admit_checks}
use Rattle.layout.specs.Calls.{read_box_answer}
use Rattle.layout.proofs.CallLaws.{unpack-whole}
use Rattle.layout.specs.Contents.{box_elements}
use Rattle.cube.proofs.FinalLaws.{unpacked-whole, unpack-kept}
use Rattle.cube.proofs.unpack.Goals as goal

pub returns-in_err-admit : goal.returns-in_err-admit
unfolding read_box_answer
returns-in_err-admit c =
    let a = c.args in
    let answer : c.admit.result ≡ read_box_answer a.layout (whole_box a.layout) (length a.elements.now) (length a.buffer.now) =
    c.admit.ensures ∙ ap (λ (b : ElementBox). in_order (admit_checks a.layout b (length a.elements.now) (length a.buffer.now))) c.whole-cube.ensures in
    record {
      answered = handed-on c.from_residual.result c.from_residual.ensures.1 ∙ sym c.in_err-admit.was ∙ answer ∙ sym (unpack-whole a.layout (length a.elements.now) (length a.buffer.now));
      left = unpack-kept a.layout a.buffer.now a.elements.now (sym answer ∙ c.in_err-admit.was);
    }

pub returns : goal.returns
unfolding read_box_answer
returns c =
    let a = c.args in
    let answer : c.admit.result ≡ read_box_answer a.layout (whole_box a.layout) (length a.elements.now) (length a.buffer.now) =
    c.admit.ensures ∙ ap (λ (b : ElementBox). in_order (admit_checks a.layout b (length a.elements.now) (length a.buffer.now))) c.whole-cube.ensures in
    let ok = sym answer ∙ c.in_ok-admit.was in
    record {
      answered = sym ok ∙ sym (unpack-whole a.layout (length a.elements.now) (length a.buffer.now));
      left = unpacked-whole a.layout a.buffer.now a.elements.now ok (c.all.ensures ∙ ap (λ (b : ElementBox). box_elements a.layout b a.buffer.now) c.whole-cube.ensures);
    }
