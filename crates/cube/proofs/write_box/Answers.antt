-- `cube::write_box` meets its contract: a refused call writes nothing, an accepted one writes the box. Assumes nothing.
use Prim.Native.Nat.{◌+◌, ◌-◌, ◌≤◌}
use native.Mathlib.Omega.{arith}
use mathlib.Core.Path.{◌≡◌, sym, ap, subst⁻¹, ◌∙◌}
use mathlib.Core.Bool.{false}
use lib.ListN.{length}
use Rattle.refusal.specs.Checks.{Accepted}
use Rattle.layout.specs.Calls.{write_box_answer}
use Rattle.cube.specs.declared.runs.Spacing.{Spacing}
use Rattle.cube.specs.Steps.{run_from, gathered, box_written}
use Rattle.cube.proofs.RunLaws.{plane-le}
use Rattle.cube.proofs.FinalLaws.{write-valid, write-ready, raw-written, written, write_kept}
use Rattle.cube.proofs.write_box.Goals as goal

pub returns-in_err-judge-clause-left : goal.returns-in_err-judge-clause-left
returns-in_err-judge-clause-left c =
    let a = c.args in
    write_kept a.layout a.b a.elements.now a.buffer.now (sym c.judge.ensures ∙ c.in_err-judge.was)

pub raw-spacing-requires : goal.raw-spacing-requires
raw-spacing-requires c =
    let a = c.args in
    let d = write-valid a.layout a.b a.elements.now a.buffer.now (sym c.judge.ensures ∙ c.in_ok-judge.was) in
    omega (arith, plane-le a.layout a.b d.layout d.inside)

pub all-requires-clause-buffer_value : goal.all-requires-clause-buffer_value
all-requires-clause-buffer_value c = let a = c.args in (write-ready a.layout a.b a.elements.now a.buffer.now (sym c.judge.ensures ∙ c.in_ok-judge.was)).0

pub all-requires-clause-columns_in_bounds : goal.all-requires-clause-columns_in_bounds
all-requires-clause-columns_in_bounds c =
    let a = c.args in
    subst⁻¹ (λ (s : Spacing). run_from s.plane s.line (a.b.channels - 1) (a.b.rows - 1) + a.b.columns ≤ length a.elements.now) c.raw-spacing.ensures
    (write-ready a.layout a.b a.elements.now a.buffer.now (sym c.judge.ensures ∙ c.in_ok-judge.was)).1

pub returns-clause-left : goal.returns-clause-left
returns-clause-left c =
    let a = c.args in
    let accepted : write_box_answer a.layout a.b a.elements.now (length a.buffer.now) ≡ Accepted = sym c.judge.ensures ∙ c.in_ok-judge.was in
    written a.layout a.b a.elements.now a.buffer.now accepted
    (c.all.ensures
    ∙ ap (λ (s : Spacing). box_written a.layout a.b false (gathered a.b s.plane s.line a.elements.now) a.buffer.now) c.raw-spacing.ensures
    ∙ raw-written a.layout a.b a.elements.now a.buffer.now accepted false)
