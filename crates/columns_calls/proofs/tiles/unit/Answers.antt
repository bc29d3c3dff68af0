-- `columns_calls::tiles::unit` meets its contract, by what `word` ensures of its elements. Assumes nothing.
use Prim.Native.Nat.{ℕ, ◌+◌, ◌*◌, ◌%◌}
use native.Mathlib.Omega.{arith}
use mathlib.Core.Path.{◌≡◌, sym, ap, ◌∙◌}
use lib.IntN.{ℤ}
use borrow.Author.Rules.{sfits_of}
use mir.Syntax.{w16}
use mir.Facts.{to_z-of_z}
use Rattle.elements.specs.Bytes.{byte_of}
use Rattle.elements.proofs.ByteLaws.{byte_of-lt}
use Rattle.columns.specs.Columns.{listed, column_unit}
use Rattle.columns.proofs.UnitLaws.{unit-one, unit-two}
use Rattle.columns_calls.proofs.tiles.unit.Goals as goal

-- the low byte of an element's two
low_byte : (z : ℤ) (w : ℕ) → w ≡ byte_of z 0 + 256 * byte_of z 1 → w % 256 ≡ byte_of z 0
low_byte z w h = omega (arith, byte_of-lt z 0)

pub returns-then-size-eq1 : goal.returns-then-size-eq1
unfolding listed
returns-then-size-eq1 c =
    let a = c.args in
    let src : ℕ → ℤ = listed a.elements.now in
    let x = low_byte (src a.at) c.word.result (c.word.ensures ∙ ap (λ (z : ℤ). byte_of z 0 + 256 * byte_of z 1) (to_z-of_z {w = w16} (sfits_of (omega arith)))) in
    let y = low_byte (src (a.at + a.plane)) c.word-then-size-eq1.result (c.word-then-size-eq1.ensures ∙ ap (λ (z : ℤ). byte_of z 0 + 256 * byte_of z 1) (to_z-of_z {w = w16} (sfits_of (omega arith)))) in
    omega (arith, x, y, unit-one src a.at a.plane, ap (λ (k : ℕ). column_unit k src a.at a.plane 0 0) c.if-size-eq1.true)

pub returns : goal.returns
unfolding listed
returns c =
    let a = c.args in
    let src : ℕ → ℤ = listed a.elements.now in
    let two : 2 ≡ a.size.bytes = omega (arith, a.size.one_or_two.0, a.size.one_or_two.1) in
    c.word-2.ensures
    ∙ ap (λ (z : ℤ). byte_of z 0 + 256 * byte_of z 1) (to_z-of_z {w = w16} (sfits_of (omega arith)))
    ∙ sym (unit-two src a.at a.plane)
    ∙ ap (λ (k : ℕ). column_unit k src a.at a.plane 0 0) two
