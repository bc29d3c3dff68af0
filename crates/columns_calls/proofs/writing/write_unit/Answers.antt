-- `columns_calls::writing::write_unit` meets its contract. The loop's invariant: the unit of the first i columns is written. Assumes nothing.
use Prim.Native.Nat.{ℕ, ◌+◌, ◌*◌}
use mathlib.Core.Path.{◌∙◌}
use Rattle.columns.specs.Columns.{column_byte, listed}
use Rattle.columns.proofs.ColumnLaws.{columns-none}
use Rattle.columns.proofs.UnitLaws.{columns-step, unit-bytes, column_byte-lt, unit-first}
use Rattle.columns_calls.proofs.writing.write_unit.Goals as goal

pub loop-i-init : goal.loop-i-init
loop-i-init c = let a = c.args in columns-none 0 (column_byte a.place.size.bytes (listed a.elements.now) a.place.from a.place.plane) 2 a.place.at a.place.stride a.buffer.now c.requires.columns_in.0

pub loop-i-preserved : goal.loop-i-preserved
loop-i-preserved c =
    let a = c.args in
    let byte : ℕ → ℕ → ℕ = column_byte a.place.size.bytes (listed a.elements.now) a.place.from a.place.plane in
    let i = c.loop-i.i in
    columns-step 0 byte 2 i a.place.at a.place.stride a.buffer.now c.requires.columns_in.0 c.loop-i.invariant
    (c.put_unit.ensures
    ∙ unit-bytes (byte i) (a.place.at + a.place.stride * i) c.loop-i.buffer c.unit-u.result
    (c.unit-u.ensures ∙ unit-first a.place.size.bytes (listed a.elements.now) a.place.from a.place.plane i)
    (column_byte-lt a.place.size.bytes (listed a.elements.now) a.place.from a.place.plane i 0) (column_byte-lt a.place.size.bytes (listed a.elements.now) a.place.from a.place.plane i 1))
