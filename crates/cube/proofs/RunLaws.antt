-- A run of a box, channel n of its row r: its elements are those of the box at that channel and row, in order. Assumes nothing.
--     run_in          element i of a run is in the box
--     box-run, run-index    its index in raw order
--     run-position    its position
--     run-index-lt, box-enough    a run's indices are the box's
--     run-cube, run_room             a run's elements are in the cube, their bytes in the buffer
--     position_lt, channel-bytes, plane-le     bounds of positions, of a channel's bytes and elements
--     run-from-more, run-from-le, run-position-more     where the k-th channel after n begins
use Prim.Native.Nat.{ℕ, ◌+◌, ◌-◌, ◌*◌, ◌/◌, ◌%◌, ◌^◌, ◌≤◌, ◌<◌}
use native.Mathlib.Nat.{mul-le-mul, mul-le-mul_right, add-mul, mul_assoc}
use native.Mathlib.Omega.{arith}
use mathlib.Core.Path.{◌≡◌, ap, ◌∙◌, subst}
use Rattle.layout.specs.declared.CubeLayout.{CubeLayout}
use Rattle.layout.specs.declared.ElementBox.{ElementBox}
use Rattle.layout.specs.Geometry.{size_of, element_position, cube_extent}
use Rattle.layout.specs.Boxes.{box_index, box_count}
use Rattle.layout.proofs.BoxLaws.{InBox, InCube, BoxValid, in_cube, box_index-lt}
use Rattle.layout.proofs.Valid.{Valid}
use Rattle.layout.proofs.CallLaws.{box-counts}
use Rattle.layout.proofs.Extents.{element-column, element-within, extent-lt}
use Rattle.elements.proofs.ByteLaws.{element_bytes-le}
use Rattle.cube.specs.Steps.{run_from, run_index, run_position}

-- an index in raw order is its run's, and a column
pub box-run : (box : ElementBox) (c h w : ℕ) → box_index box c h w ≡ run_index box (c - box.channel) (h - box.row) + (w - box.column)
unfolding box_index run_from
box-run box c h w =
    let n = c - box.channel in
    let r = h - box.row in
    omega (arith, add-mul (n * box.rows) r box.columns, mul_assoc n box.rows box.columns)

module _ (box : ElementBox) (n r i : ℕ) (hn : n < box.channels) (hr : r < box.rows) (hi : i < box.columns) where
  pub run_in : InBox box (box.channel + n) (box.row + r) (box.column + i)
  run_in =
      record { channel_ge = omega arith; channel_lt = omega arith; row_ge = omega arith; row_lt = omega arith; column_ge = omega arith; column_lt = omega arith }

  pub run-index : box_index box (box.channel + n) (box.row + r) (box.column + i) ≡ run_index box n r + i
  run-index =
      let dn : box.channel + n - box.channel ≡ n = omega arith in
      let dr : box.row + r - box.row ≡ r = omega arith in
      let di : box.column + i - box.column ≡ i = omega arith in
      box-run box (box.channel + n) (box.row + r) (box.column + i) ∙ rw (dn, dr, di)

pub run-position : (q : CubeLayout) (box : ElementBox) (n r i : ℕ) → element_position q (box.channel + n) (box.row + r) (box.column + i) ≡ run_position q box n r + 32 * i
unfolding run_position
run-position q box n r i = element-column q (box.channel + n) (box.row + r) box.column i

-- ---- a run's indices are the caller's
pub run-index-lt : (box : ElementBox) (n r i : ℕ) → n < box.channels → r < box.rows → i < box.columns → run_index box n r + i < box_count box
run-index-lt box n r i hn hr hi =
    subst (λ (m : ℕ). m < box_count box) (run-index box n r i hn hr hi) (box_index-lt box (box.channel + n) (box.row + r) (box.column + i) (run_in box n r i hn hr hi))

-- the last run ends with the box
pub box-enough : (q : CubeLayout) (box : ElementBox) → BoxValid q box → (given : ℕ) → given ≡ box_count box → run_index box (box.channels - 1) (box.rows - 1) + box.columns ≤ given
box-enough q box inside given count =
    let some = inside.columns.some in
    omega (arith, some, count, run-index-lt box (box.channels - 1) (box.rows - 1) (box.columns - 1) (omega (arith, inside.channels.some)) (omega (arith, inside.rows.some)) (omega (arith, some)))

-- ---- a run's bytes are in the buffer
module _ (q : CubeLayout) (ok : Valid q) (box : ElementBox) (inside : BoxValid q box) where
  pub run-cube : (n r i : ℕ) → n < box.channels → r < box.rows → i < box.columns → InCube q (box.channel + n) (box.row + r) (box.column + i)
  run-cube n r i hn hr hi = in_cube q box (box.channel + n) (box.row + r) (box.column + i) inside (run_in box n r i hn hr hi)

  module _ (len : ℕ) (room : q.start + cube_extent q ≤ len) where
    pub run_room : (n r i : ℕ) → n < box.channels → r < box.rows → i < box.columns → run_position q box n r + 32 * i + size_of q ≤ len
    run_room n r i hn hr hi =
        let cube = run-cube n r i hn hr hi in
        let end = element-within q ok (box.channel + n) (box.row + r) (box.column + i) cube.channel_lt cube.row_lt cube.column_lt in
        omega (arith, room, end, run-position q box n r i)

-- an element's position, within 64 bits
pub position_lt : (q : CubeLayout) → Valid q → q.line < 2 ^ 32 → q.surface < 2 ^ 32 → q.start < 2 ^ 32
    → (c h w : ℕ) → c < q.channels → h < q.height → w < q.width → element_position q c h w < 2 ^ 47
position_lt q ok hl hs ht c h w hc hh hw = omega (arith, element-within q ok c h w hc hh hw, extent-lt q ok hl hs)

pub channel-bytes : (q : CubeLayout) → Valid q → (c : ℕ) → c < q.channels → c * size_of q ≤ 16384
channel-bytes q ok c hc = mul-le-mul {n₁ = c} {m₁ = size_of q} {n₂ = 8192} {m₂ = 2} (omega (arith, ok.channels_le)) (element_bytes-le q.precision)

-- the elements of a channel of a box
pub plane-le : (q : CubeLayout) (box : ElementBox) → Valid q → BoxValid q box → box.rows * box.columns ≤ 2 ^ 26
plane-le q box ok inside =
    let counts = box-counts q box ok inside in
    mul-le-mul {n₁ = box.rows} {m₁ = box.columns} {n₂ = 8192} {m₂ = 8192} counts.1 counts.2

-- ---- where the k-th channel after n begins
pub run-from-more : (plane line n r k : ℕ) → run_from plane line (n + k) r ≡ run_from plane line n r + k * plane
unfolding run_from
run-from-more plane line n r k = omega (arith, add-mul n k plane)

-- and that none begins later than the last row of the last channel
pub run-from-le : (plane line n n₂ r r₂ : ℕ) → n ≤ n₂ → r ≤ r₂ → run_from plane line n r ≤ run_from plane line n₂ r₂
unfolding run_from
run-from-le plane line n n₂ r r₂ hn hr = omega (arith, mul-le-mul_right plane hn, mul-le-mul_right line hr)

-- while the two lie in one atom
pub run-position-more : (q : CubeLayout) (box : ElementBox) (n r k : ℕ) → (box.channel + n) * size_of q % 32 + k * size_of q < 32
    → run_position q box (n + k) r ≡ run_position q box n r + k * size_of q
unfolding run_position element_position
run-position-more q box n r k h =
    let e = size_of q in
    let c = (box.channel + n) * e in
    let bytes : (box.channel + (n + k)) * e ≡ c + k * e = ap (λ (m : ℕ). m * e) (omega arith) ∙ add-mul (box.channel + n) k e in
    let surface : (box.channel + (n + k)) * e / 32 ≡ c / 32 = omega arith in
    let byte : (box.channel + (n + k)) * e % 32 ≡ c % 32 + k * e = omega arith in
    rw (surface, byte) (omega arith)
