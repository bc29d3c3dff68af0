-- `padding_calls::stretches::in_rows` meets its contract: the position is past all rows, in a row's atoms, or in the gap behind them. Assumes nothing.
use Prim.Native.Nat.{◌<◌, ◌^◌}
use native.Mathlib.Omega.{arith}
use Rattle.layout.specs.declared.CubeLayout.{CubeLayout}
use Rattle.layout.proofs.Valid.{Valid, valid}
use Rattle.padding_calls.proofs.StretchLaws.{line-pos, row_fits, past-rows, in-atoms, in-gap}
use Rattle.padding_calls.proofs.stretches.in_rows.Goals as goal

pub nonzero_div-row : goal.nonzero_div-row
nonzero_div-row c =
    let q : CubeLayout = c.args.layout in
    let ok : Valid q = valid q c.requires.0 in
    line-pos q ok c.args.position c.args.base c.requires.1 c.requires.2

pub returns-then-layout-row : goal.returns-then-layout-row
returns-then-layout-row c =
    let q : CubeLayout = c.args.layout in
    let ok : Valid q = valid q c.requires.0 in
    past-rows q ok c.args.position c.args.base c.requires.1 c.requires.2 18446744073709551615 c.requires.3 c.if-layout-row.true

pub nonzero_rem-start : goal.nonzero_rem-start
nonzero_rem-start c =
    let q : CubeLayout = c.args.layout in
    let ok : Valid q = valid q c.requires.0 in
    line-pos q ok c.args.position c.args.base c.requires.1 c.requires.2

pub overflow_add-end : goal.overflow_add-end
overflow_add-end c =
    let q : CubeLayout = c.args.layout in
    let ok : Valid q = valid q c.requires.0 in
    let start : q.start < 2 ^ 32 = omega arith in
    let surface : q.surface < 2 ^ 32 = omega arith in
    let line : q.line < 2 ^ 32 = omega arith in
    let fit = row_fits q ok c.args.position c.args.base c.requires.1 c.requires.2 start surface line c.if-layout-row.false in
    record { fits = omega (arith, fit, ok.line_ge) }

pub returns-then-position-end : goal.returns-then-position-end
returns-then-position-end c =
    let q : CubeLayout = c.args.layout in
    let ok : Valid q = valid q c.requires.0 in
    in-atoms q ok c.args.position c.args.base c.requires.1 c.requires.2 c.if-layout-row.false c.if-position-end.true

pub overflow_add-result : goal.overflow_add-result
overflow_add-result c =
    let q : CubeLayout = c.args.layout in
    let ok : Valid q = valid q c.requires.0 in
    let start : q.start < 2 ^ 32 = omega arith in
    let surface : q.surface < 2 ^ 32 = omega arith in
    let line : q.line < 2 ^ 32 = omega arith in
    let fit = row_fits q ok c.args.position c.args.base c.requires.1 c.requires.2 start surface line c.if-layout-row.false in
    record { fits = fit }

pub returns : goal.returns
returns c =
    let q : CubeLayout = c.args.layout in
    let ok : Valid q = valid q c.requires.0 in
    in-gap q ok c.args.position c.args.base c.requires.1 c.requires.2 c.if-position-end.false
