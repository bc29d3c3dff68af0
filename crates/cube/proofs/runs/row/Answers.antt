-- `cube::runs::row` meets its contract: its numbers are the definition's. Assumes nothing.
use native.Mathlib.Omega.{arith}
use Rattle.layout.proofs.CallLaws.{box-counts, box-layout-valid, box_checks-valid}
use Rattle.cube.proofs.runs.row.Goals as goal

pub run_from-requires : goal.run_from-requires
run_from-requires c =
    let a = c.args in
    let b = box-counts a.layout a.b (box-layout-valid a.layout a.b c.requires.b_value) (box_checks-valid a.layout a.b c.requires.b_value) in
    (omega (arith, b.0, c.requires.n_lt_m.0, c.requires.n_lt_m.1), omega (arith, b.1, c.requires.n_lt_m.2))
