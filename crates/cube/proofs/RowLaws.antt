-- The channels of one atom in one row of a box as columns (specs/Steps.antt): channel n + k of the box is row k of the block. Assumes nothing.
--     atom-next, atom-channels   the first channel of the next atom; how many fill one
--     row-index, row-position    where channel n + k of the row lies
--     row_fits, row_apart        the block fits, its rows do not meet
use Prim.Native.Nat.{ℕ, zero, suc, ◌+◌, ◌-◌, ◌*◌, ◌/◌, ◌%◌, ◌≤◌, ◌<◌}
use native.Mathlib.Omega.{arith}
use native.Mathlib.Nat.{mul-le-mul_right, suc-mul, not-suc-le-zero, le_of_suc-le-suc}
use mathlib.Core.Path.{◌≡◌, sym, ap, ◌∙◌}
use Rattle.elements.proofs.ByteLaws.{element_bytes-pos, element_bytes-le}
use Rattle.columns.proofs.BlockLaws.{BlockFits}
use Rattle.layout.specs.declared.CubeLayout.{CubeLayout}
use Rattle.layout.specs.declared.ElementBox.{ElementBox}
use Rattle.layout.specs.Geometry.{size_of, cube_extent}
use Rattle.layout.proofs.Valid.{Valid}
use Rattle.layout.proofs.BoxLaws.{BoxValid}
use Rattle.cube.specs.Steps.{run_from, run_position, AtomEnd, row_block}
use Rattle.cube.proofs.RunLaws.{run_room, run-from-more, run-from-le, run-position-more}

-- the channel behind those that fill the atom with channel c: it begins the next atom
pub record Next (e c next : ℕ) : Type 0 where
  pub later : c < next
  pub fill : c * e % 32 + (next - c) * e ≤ 32
  pub begins : next * e % 32 ≡ 0

pub atom-next : (e c : ℕ) → 1 ≤ e → e ≤ 2 → Next e c (c + 32 / e - c % (32 / e))
atom-next zero c low high = absurd (not-suc-le-zero low)
atom-next (suc zero) c low high = record { later = omega arith; fill = omega arith; begins = omega arith }
atom-next (suc (suc zero)) c low high = record { later = omega arith; fill = omega arith; begins = omega arith }
atom-next (suc (suc (suc e))) c low high = absurd (not-suc-le-zero (le_of_suc-le-suc (le_of_suc-le-suc high)))

-- 16 or 32 of them
pub atom-channels : (e : ℕ) → 1 ≤ e → e ≤ 2 → (1 ≤ 32 / e) × (32 / e ≤ 32)
atom-channels zero low high = absurd (not-suc-le-zero low)
atom-channels (suc zero) low high = (omega arith, omega arith)
atom-channels (suc (suc zero)) low high = (omega arith, omega arith)
atom-channels (suc (suc (suc e))) low high = absurd (not-suc-le-zero (le_of_suc-le-suc (le_of_suc-le-suc high)))

-- channel n + k among the elements
pub row-index : (plane line n r k i : ℕ) → run_from plane line n r + i + k * plane ≡ run_from plane line (n + k) r + i
row-index plane line n r k i = omega (arith, run-from-more plane line n r k)

module _ (q : CubeLayout) (box : ElementBox) (n m r : ℕ) (end : AtomEnd (size_of q) box.channel box.channels n m) where
  -- row k of the block
  row-bytes : (k : ℕ) → k < m - n → k * size_of q + size_of q ≤ (m - n) * size_of q
  row-bytes k h = omega (arith, suc-mul k (size_of q), mul-le-mul_right {m = suc k} {n = m - n} (size_of q) h)

  pub row-position : (k i : ℕ) → k < m - n → run_position q box n r + 32 * i + k * size_of q ≡ run_position q box (n + k) r + 32 * i
  row-position k i h =
      omega (arith, run-position-more q box n r k (omega (arith, row-bytes k h, end.one, element_bytes-pos q.precision)))

  module _ (ok : Valid q) (inside : BoxValid q box) (hr : r < box.rows) where
    pub row_apart : box.columns ≤ box.rows * box.columns
    row_apart = omega (arith, mul-le-mul_right {m = 1} {n = box.rows} box.columns inside.rows.some)

    pub row_fits : (plane line given len : ℕ) → run_from plane line (box.channels - 1) (box.rows - 1) + box.columns ≤ given → q.start + cube_extent q ≤ len
        → BlockFits (row_block q box plane line n m r) given len
    row_fits plane line given len enough room =
        let k = m - n - 1 in
        let last : k < m - n = omega (arith, end.some) in
        let hc : n + k < box.channels = omega (arith, end.some, end.le) in
        let some = inside.columns.some in
        let w = box.columns - 1 in
        let all : k * size_of q + size_of q ≡ (m - n) * size_of q = sym (suc-mul k (size_of q)) ∙ ap (λ (x : ℕ). x * size_of q) (omega (arith, last)) in
        let within : run_from plane line (n + k) r ≤ run_from plane line (box.channels - 1) (box.rows - 1) = run-from-le plane line (n + k) (box.channels - 1) r (box.rows - 1) (omega (arith, hc)) (omega (arith, hr)) in
        record {
          some = element_bytes-pos q.precision;
          small = element_bytes-le q.precision;
          rows_some = omega (arith, end.some);
          count_some = some;
          deep = omega (arith, end.one);
          elements = omega (arith, run-from-more plane line n r k, within, enough);
          bytes = omega (arith, row-position k w last, run_room q ok box inside len room (n + k) r w hc hr (omega (arith, some)), all);
        }
