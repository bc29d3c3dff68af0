-- `cube::pack` meets its contract: it writes the box of the whole cube, and clears the padding where there is any. Assumes nothing.
use Prim.Native.Nat.{◌+◌, ◌-◌, ◌*◌, ◌^◌, ◌≤◌, ◌<◌}
use native.Mathlib.Omega.{arith}
use mathlib.Core.Path.{◌≡◌, sym, ap, subst⁻¹, ◌∙◌}
use mathlib.Core.Bool.{true}
use lib.ListN.{length}
use Rattle.refusal.specs.Checks.{Accepted}
use Rattle.layout.specs.declared.ElementBox.{ElementBox}
use Rattle.layout.specs.Boxes.{whole_box}
use Rattle.layout.specs.Calls.{pack_answer, write_box_answer, clear_box_answer}
use Rattle.layout.proofs.CallLaws.{pack-admitted, pack-whole}
use Rattle.cube.specs.declared.runs.Spacing.{Spacing}
use Rattle.cube.specs.Steps.{raw_spacing, run_from, gathered, box_written}
use Rattle.cube.proofs.RunLaws.{plane-le}
use Rattle.cube.proofs.FinalLaws.{write-ready, raw-written, packed-whole, pack-kept}
use Rattle.cube.proofs.pack.Goals as goal

pub returns-in_err-check_pack-clause-left : goal.returns-in_err-check_pack-clause-left
returns-in_err-check_pack-clause-left c =
    let a = c.args in
    pack-kept a.layout a.elements.now a.buffer.now (sym c.check_pack.ensures ∙ c.in_err-check_pack.was)

pub raw-spacing-requires : goal.raw-spacing-requires
raw-spacing-requires c =
    let a = c.args in
    let q = a.layout in
    let v = pack-admitted q a.elements.now (length a.buffer.now) (sym c.check_pack.ensures ∙ c.in_ok-check_pack.was) in
    subst⁻¹ (λ (b : ElementBox). b.rows * b.columns < 2 ^ 32) c.whole-cube.ensures (omega (arith, plane-le q (whole_box q) v.layout v.inside))

-- packing is writing the whole box
pub all-requires : goal.all-requires
all-requires c =
    let a = c.args in
    let q = a.layout in
    let box : write_box_answer q (whole_box q) a.elements.now (length a.buffer.now) ≡ Accepted =
    sym (pack-whole q a.elements.now (length a.buffer.now)) ∙ sym c.check_pack.ensures ∙ c.in_ok-check_pack.was in
    let w = write-ready q (whole_box q) a.elements.now a.buffer.now box in
    let is = c.whole-cube.ensures in
    let spaced : c.raw-spacing.result ≡ raw_spacing (whole_box q) = c.raw-spacing.ensures ∙ ap raw_spacing is in
    record {
      buffer_value = subst⁻¹ (λ (b : ElementBox). clear_box_answer q b (length a.buffer.now) ≡ Accepted) is w.0;
      b_value = λ t. is;
      columns_in_bounds =
          subst⁻¹ (λ (s : Spacing). run_from s.plane s.line (c.whole-cube.result.channels - 1) (c.whole-cube.result.rows - 1) + c.whole-cube.result.columns ≤ length a.elements.now) spaced
          (subst⁻¹ (λ (b : ElementBox). run_from (q.height * q.width) q.width (b.channels - 1) (b.rows - 1) + b.columns ≤ length a.elements.now) is w.1);
    }

pub returns-clause-left : goal.returns-clause-left
returns-clause-left c =
    let a = c.args in
    let q = a.layout in
    let xs = a.elements.now in
    let accepted : pack_answer q xs (length a.buffer.now) ≡ Accepted = sym c.check_pack.ensures ∙ c.in_ok-check_pack.was in
    let box : write_box_answer q (whole_box q) xs (length a.buffer.now) ≡ Accepted = sym (pack-whole q xs (length a.buffer.now)) ∙ accepted in
    packed-whole q xs a.buffer.now accepted
    (c.all.ensures
    ∙ ap (λ (s : Spacing). box_written q c.whole-cube.result true (gathered c.whole-cube.result s.plane s.line xs) a.buffer.now) c.raw-spacing.ensures
    ∙ ap (λ (b : ElementBox). box_written q b true (gathered b (b.rows * b.columns) b.columns xs) a.buffer.now) c.whole-cube.ensures
    ∙ raw-written q (whole_box q) xs a.buffer.now box true)
