-- `padding_calls::mend` meets its contract: all checks, and then all bytes of the part. Assumes nothing.
use native.Mathlib.Omega.{arith}
use mathlib.Core.Path.{sym, ap, ◌∙◌}
use lib.ListN.{length}
use Rattle.std.specs.Prelude.{Ok}
use Rattle.refusal.proofs.CheckLaws.{handed-on}
use Rattle.padding.specs.Calls.{Lent, lent, mend_answer, mended_lists}
use Rattle.padding.proofs.CheckLaws.{mendable}
use Rattle.padding.proofs.CallLaws.{count-refused, left-refused, count-accepted, left-accepted}
use Rattle.padding_calls.proofs.DoneLaws.{done_all}
use Rattle.padding_calls.proofs.mend.Goals as goal

pub all-requires : goal.all-requires
unfolding mend_answer
all-requires c =
    let a = c.args in
    let m = mendable a.layout a.first a.length (length a.part.now) (length a.positions.now) (length a.olds.now) (sym c.check.ensures ∙ c.in_ok-check.was) in (
      m.layout_ok,
      record {
        from_le = omega arith;
        to_le = omega arith;
        count_le = omega arith;
        positions_ge = m.positions_ge;
        olds_ge = m.olds_ge;
        last_lt = omega (arith, m.part_le, c.ranges.length.fits);
      },
    )

pub returns-in_err-check : goal.returns-in_err-check
unfolding mend_answer
returns-in_err-check c =
    let a = c.args in
    let l : Lent = lent a.part.now a.positions.now a.olds.now in
    let no = sym c.check.ensures ∙ c.in_err-check.was in
    let left = left-refused a.layout a.first a.length l _ no in
    record {
      counted = handed-on c.from_residual.result c.from_residual.ensures.1 ∙ sym (count-refused a.layout a.first a.length l _ no);
      part_left = sym (ap (λ (x : Lent). x.part) left);
      positions_left = sym (ap (λ (x : Lent). x.positions) left);
      olds_left = sym (ap (λ (x : Lent). x.olds) left);
    }

pub returns : goal.returns
unfolding mend_answer mended_lists
returns c =
    let a = c.args in
    let l : Lent = lent a.part.now a.positions.now a.olds.now in
    let ok = sym c.check.ensures ∙ c.in_ok-check.was in
    let left = left-accepted a.layout a.first a.length l ok in
    let done = done_all a.layout a.first l c.all.result _ _ _ c.all.ensures in
    record {
      counted = ap Ok done.0 ∙ sym (count-accepted a.layout a.first a.length l ok);
      part_left = done.1 ∙ sym (ap (λ (x : Lent). x.part) left);
      positions_left = done.2 ∙ sym (ap (λ (x : Lent). x.positions) left);
      olds_left = done.3 ∙ sym (ap (λ (x : Lent). x.olds) left);
    }
