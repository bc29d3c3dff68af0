-- `columns_calls::tiles::split_tile` meets its contract: the rows of unit after unit. Assumes nothing.
use Prim.Native.Nat.{ℕ, ◌+◌, ◌-◌, ◌*◌}
use native.Mathlib.Omega.{arith}
use native.Mathlib.Nat.{mul-le-mul_right}
use mathlib.Core.Path.{◌≡◌, refl, ap, ◌∙◌}
use Rattle.columns.specs.Columns.{columns, tile_element, unit_row}
use Rattle.columns.proofs.ReadLaws.{split-start, split-more}
use Rattle.columns_calls.proofs.tiles.split_tile.Goals as goal

pub loop-j-init : goal.loop-j-init
loop-j-init c =
    let a = c.args in
    split-start a.size.bytes a.size.one_or_two.0 a.size.one_or_two.1 a.tile.now a.count a.from a.plane c.requires.sizes.1 a.elements.now

-- the rows of unit j are among the rows
pub split_unit-requires-clause-rows_in : goal.split_unit-requires-clause-rows_in
split_unit-requires-clause-rows_in c =
    let a = c.args in
    omega (arith, mul-le-mul_right {m = c.loop-j.j + 1} {n = 4} ((3 - a.size.bytes) * a.plane) (omega arith), c.requires.rows_in)

pub loop-j-preserved : goal.loop-j-preserved
loop-j-preserved c =
    let a = c.args in
    let j = c.loop-j.j in
    split-more a.size.bytes a.size.one_or_two.0 a.size.one_or_two.1 a.tile.now a.count a.from a.plane c.requires.sizes.1 j ((j + 1) * (3 - a.size.bytes)) (a.from + j * ((3 - a.size.bytes) * a.plane))
    a.elements.now refl refl c.loop-j.invariant
    (c.split_unit.ensures ∙ ap (λ (n : ℕ). columns (unit_row a.size.bytes a.tile.now n) a.count (3 - a.size.bytes) (a.from + j * ((3 - a.size.bytes) * a.plane)) a.plane c.loop-j.elements) (omega arith))

pub returns : goal.returns
returns c =
    let a = c.args in
    let stop : c.loop-j.j ≡ 4 = omega arith in
    c.loop-j.invariant ∙ ap (λ (n : ℕ). columns (tile_element a.size.bytes a.tile.now) a.count (n * (3 - a.size.bytes)) a.from a.plane a.elements.now) stop
