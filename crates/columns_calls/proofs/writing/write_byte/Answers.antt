-- `columns_calls::writing::write_byte` meets its contract. The loop's invariant: the byte of the first i columns is written. Assumes nothing.
use Prim.Native.Nat.{ℕ, ◌+◌, ◌*◌}
use native.Mathlib.Omega.{arith}
use mathlib.Core.Path.{sym, ap, ◌∙◌}
use lib.IntN.{ℤ}
use borrow.Author.Rules.{sfits_of}
use mir.Syntax.{w16}
use mir.Facts.{to_z-of_z}
use Rattle.elements.specs.Bytes.{byte_of}
use Rattle.columns.specs.Columns.{column_byte, listed}
use Rattle.columns.proofs.ColumnLaws.{columns-none}
use Rattle.columns.proofs.UnitLaws.{columns-step, byte-bytes, first_byte}
use Rattle.columns_calls.proofs.writing.write_byte.Goals as goal

pub loop-i-init : goal.loop-i-init
loop-i-init c = let a = c.args in columns-none 0 (column_byte 1 (listed a.elements.now) a.place.from 0) 1 a.place.at a.place.stride a.buffer.now c.requires.columns_in.0

pub loop-i-preserved : goal.loop-i-preserved
unfolding listed
loop-i-preserved c =
    let a = c.args in
    let byte : ℕ → ℕ → ℕ = column_byte 1 (listed a.elements.now) a.place.from 0 in
    columns-step 0 byte 1 c.loop-i.i a.place.at a.place.stride a.buffer.now c.requires.columns_in.0 c.loop-i.invariant
    (byte-bytes (byte c.loop-i.i) (a.place.at + a.place.stride * c.loop-i.i) c.loop-i.buffer _
    (c.low_byte.ensures ∙ ap (λ (z : ℤ). byte_of z 0) (to_z-of_z {w = w16} (sfits_of (omega arith))) ∙ sym (first_byte (listed a.elements.now) a.place.from 0 c.loop-i.i)))
