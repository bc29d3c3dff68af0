-- `columns_calls::tiles::split_one` meets its contract: the elements have one byte or two. Assumes nothing.
use Prim.Native.Nat.{ℕ, ◌-◌}
use native.Mathlib.Omega.{arith}
use mathlib.Core.Path.{◌≡◌, sym, ap, ◌∙◌}
use borrow.Author.Rules.{sfits_of}
use mir.Syntax.{w16}
use mir.Facts.{to_z-of_z}
use Rattle.columns.specs.Columns.{columns, unit_element}
use Rattle.columns.proofs.ReadLaws.{unit-one-low, unit-one-high, unit-two-all, one-row, two-rows}
use Rattle.columns_calls.proofs.tiles.split_one.Goals as goal

pub returns-then-size-eq1 : goal.returns-then-size-eq1
returns-then-size-eq1 c =
    let a = c.args in
    two-rows (unit_element 1 a.u) a.at a.plane c.requires.0 a.elements.now _ _
    (to_z-of_z {w = w16} (sfits_of c.from_byte-x.type_inv) ∙ c.from_byte-x.ensures ∙ unit-one-low a.u)
    (to_z-of_z {w = w16} (sfits_of c.from_byte-y.type_inv) ∙ c.from_byte-y.ensures ∙ unit-one-high a.u (omega (arith, c.ranges.u)))
    ∙ ap (λ (k : ℕ). columns (λ (r : ℕ) (i : ℕ). unit_element k a.u r) 1 (3 - k) a.at a.plane a.elements.now) (sym c.if-size-eq1.true)

pub returns : goal.returns
returns c =
    let a = c.args in
    let two : 2 ≡ a.size.bytes = omega (arith, a.size.one_or_two.0, a.size.one_or_two.1) in
    one-row (unit_element 2 a.u) a.at a.plane c.requires.0 a.elements.now _
    (to_z-of_z {w = w16} (sfits_of c.from_bytes-x.type_inv) ∙ c.from_bytes-x.ensures ∙ unit-two-all a.u (omega (arith, c.ranges.u)))
    ∙ ap (λ (k : ℕ). columns (λ (r : ℕ) (i : ℕ). unit_element k a.u r) 1 (3 - k) a.at a.plane a.elements.now) two
