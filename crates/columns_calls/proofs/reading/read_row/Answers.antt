-- `columns_calls::reading::read_row` meets its contract. The loop's invariant: the first i elements are read. Assumes nothing.
use Prim.Native.Nat.{ℕ, ◌+◌, ◌*◌}
use native.Mathlib.Omega.{arith}
use mathlib.Core.Path.{◌≡◌, sym, ap, ◌∙◌}
use borrow.Author.Rules.{sfits_of}
use mir.Syntax.{w16}
use mir.Val.{to_z}
use mir.Facts.{to_z-of_z}
use Rattle.elements.specs.Bytes.{element_at}
use Rattle.elements.proofs.ByteLaws.{element_at-one, element_at-two}
use Rattle.columns.specs.Columns.{column_element}
use Rattle.columns.proofs.ReadLaws.{first-row, bytes-start, bytes-step}
use Rattle.columns_calls.proofs.reading.read_row.Goals as goal
use Rattle.columns_calls.proofs.reading.read_row.Goals.{then-place-eq1, else-place-eq1}

pub loop-i-init : goal.loop-i-init
loop-i-init c = let a = c.args in bytes-start (column_element a.place.size.bytes a.buffer.now a.place.at a.place.stride 0) a.place.from a.elements.now

pub loop-i-preserved : goal.loop-i-preserved
loop-i-preserved c =
    let a = c.args in
    let p = a.place.at + a.place.stride * c.loop-i.i in
    let is_element : to_z w16 c.if-place-eq1.x-bits ≡ element_at a.place.size.bytes a.buffer.now p =
    elim c.if-place-eq1.branch [
      | then-place-eq1 w ↦
          w.x-is ∙ to_z-of_z {w = w16} (sfits_of w.from_byte-x.type_inv) ∙ w.from_byte-x.ensures ∙ sym (element_at-one a.buffer.now p)
          ∙ ap (λ (k : ℕ). element_at k a.buffer.now p) (sym w.if-place-eq1.true)
      | else-place-eq1 w ↦
          let two : a.place.size.bytes ≡ 2 = omega arith in
          w.x-is ∙ to_z-of_z {w = w16} (sfits_of w.from_bytes-x.type_inv) ∙ w.from_bytes-x.ensures ∙ sym (element_at-two a.buffer.now p)
          ∙ ap (λ (k : ℕ). element_at k a.buffer.now p) (sym two)
    ] in
    bytes-step (column_element a.place.size.bytes a.buffer.now a.place.at a.place.stride 0) c.loop-i.i a.place.from _ a.elements.now c.loop-i.invariant
    (is_element ∙ sym (first-row a.place.size.bytes a.buffer.now a.place.at a.place.stride c.loop-i.i))
