-- `lut_calls::rows::rows_of` meets its contract: each row is the definition's. Assumes nothing.
use mathlib.Core.Path.{refl}
use Rattle.lut_calls.specs.StepsRows.{rows_of}
use Rattle.lut_calls.proofs.rows.rows_of.Goals as goal

pub returns : goal.returns
unfolding rows_of
returns c =
    let d = c in
    let e = d in
    let f = e in
    rw (f.picked.ensures, f.picked-2.ensures, e.picked-3.ensures, d.picked-4.ensures, c.picked-5.ensures) refl
