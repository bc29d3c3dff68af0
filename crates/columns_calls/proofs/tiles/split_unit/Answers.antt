-- `columns_calls::tiles::split_unit` meets its contract. The loop's invariant: the unit of the first i columns is split. Assumes nothing.
use Prim.Native.Nat.{ℕ, ◌+◌, ◌-◌, ◌*◌}
use native.Mathlib.Omega.{arith}
use mathlib.Core.Path.{refl}
use lib.ListN.{get_or}
use lib.IntN.{pos}
use Rattle.columns.specs.Columns.{unit_element, unit_row}
use Rattle.columns.proofs.ColumnLaws.{columns-empty}
use Rattle.columns.proofs.UnitLaws.{under-step}
use Rattle.columns.proofs.ReadLaws.{unit-row-at}
use Rattle.columns_calls.proofs.tiles.split_unit.Goals as goal

pub loop-i-init : goal.loop-i-init
loop-i-init c = let a = c.args in columns-empty (pos 0) (unit_row a.size.bytes a.tile.now a.j) (3 - a.size.bytes) a.from a.plane a.elements.now

pub loop-i-preserved : goal.loop-i-preserved
loop-i-preserved c =
    let a = c.args in
    let i = c.loop-i.i in
    under-step (pos 0) (unit_row a.size.bytes a.tile.now a.j) (λ (r : ℕ) (b : ℕ). unit_element a.size.bytes (get_or a.tile.now (4 * i + a.j) 0) r) i 1 (3 - a.size.bytes) a.from a.plane (a.from + i) a.elements.now
    (omega (arith, c.requires.sizes.2))
    (λ r b hr hb. unit-row-at a.size.bytes a.tile.now a.j r i b hb)
    refl c.loop-i.invariant c.split_one.ensures
