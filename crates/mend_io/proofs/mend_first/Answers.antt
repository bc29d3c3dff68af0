-- `mend_io::mend_first` meets its contract: the frame is checked over the length read. Assumes nothing.
use Prim.Native.Nat.{ℕ}
use mathlib.Core.Path.{sym, ap, ◌∙◌}
use Rattle.mend_io.specs.Steps.{number_end}
use Rattle.mend_io.proofs.EndLaws.{mends-refused, mends-written}
use Rattle.mend_io.proofs.mend_first.Goals as goal

pub returns-in-Err : goal.returns-in-Err
returns-in-Err c =
    let r = c in
    let size = r.in-Some.size in
    mends-refused _ _ (sym r.check.ensures ∙ r.in-Err.is) (c.last-in-Err.ensures ∙ ap (λ (n : ℕ). number_end 0 n size) c.code.ensures)

pub returns-in-Ok : goal.returns-in-Ok
returns-in-Ok c = let t = c in
    mends-written _ _ (sym t.check.ensures ∙ t.in-Ok.is) c.write_second.ensures
