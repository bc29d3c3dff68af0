-- A row of a box read comes toward the box's elements, and reaches them in its channels; elements that were all reached are the box's.
-- Assumes nothing.
--     RowRead, read-keep      a channel of a row has its elements
--     read-toward, read-reached     one row read
--     read_only               all rows read are the box's elements
use Prim.Native.Nat.{ℕ, ◌+◌, ◌-◌, ◌*◌, ◌≤◌, ◌<◌}
use native.Mathlib.Omega.{arith}
use native.Mathlib.Nat.{mul_comm}
use mathlib.Core.Path.{◌≡◌, sym, ap, subst, ◌∙◌}
use mathlib.Core.List.{List}
use lib.ListN.{length, get_or}
use lib.Seq.{ext_get_or}
use lib.IntN.{ℤ, pos}
use Rattle.general.proofs.Toward.{Toward, reached-kept}
use Rattle.elements.specs.Bytes.{element_at}
use Rattle.elements.proofs.TabulateLaws.{length-tabulate, get_d_tabulate}
use Rattle.columns.specs.Blocks.{block_read}
use Rattle.columns.proofs.BlockLaws.{BlockFits}
use Rattle.columns.proofs.TowardLaws.{block-read-toward, block-read-reached}
use Rattle.layout.specs.declared.CubeLayout.{CubeLayout}
use Rattle.layout.specs.declared.ElementBox.{ElementBox}
use Rattle.layout.specs.Geometry.{size_of, cube_extent}
use Rattle.layout.specs.Boxes.{box_index, box_count, channel_at, row_at, column_at}
use Rattle.layout.specs.Contents.{read_element, box_elements}
use Rattle.layout.proofs.Valid.{Valid}
use Rattle.layout.proofs.BoxLaws.{BoxValid, index-channel, index-row, index-column, at_in, box_index-at}
use Rattle.cube.specs.Steps.{run_index, run_position, AtomEnd, row_block}
use Rattle.cube.proofs.RunLaws.{box-run, run_in, run-index, run-position, run-index-lt, box-enough}
use Rattle.cube.proofs.RowLaws.{row-index, row-position, row_fits, row_apart}

-- channel c of the box's row k has its elements
abbrev pub RowRead : ElementBox → (goal after : List ℤ) → (c k : ℕ) → Type 0
RowRead box goal after c k = (i : ℕ) → i < box.columns → get_or after (run_index box c k + i) (pos 0) ≡ get_or goal (run_index box c k + i) (pos 0)

pub read-keep : (box : ElementBox) (goal : List ℤ) {l₁ l₂ : List ℤ} → Toward (pos 0) goal l₁ l₂ → (c k : ℕ) → RowRead box goal l₁ c k → RowRead box goal l₂ c k
read-keep box goal near c k r i hi = reached-kept (pos 0) goal near (run_index box c k + i) (r i hi)

module _ (q : CubeLayout) (box : ElementBox) (buf : List ℕ) where
  at-index : ℕ → ℤ
  at-index i = read_element q buf (channel_at box i) (row_at box i) (column_at box i)

  goal-at : (i : ℕ) → i < box_count box → get_or (box_elements q box buf) i (pos 0) ≡ at-index i
  unfolding box_elements at-index
  goal-at i hi = get_d_tabulate at-index (box_count box) i (pos 0) hi

  module _ (n r i : ℕ) (hn : n < box.channels) (hr : r < box.rows) (hi : i < box.columns) where
    run-element : at-index (run_index box n r + i) ≡ element_at (size_of q) buf (run_position q box n r + 32 * i)
    unfolding at-index read_element
    run-element =
        let c = box.channel + n in
        let h = box.row + r in
        let w = box.column + i in
        let inb = run_in box n r i hn hr hi in
        let index = run-index box n r i hn hr hi in
        ap at-index (sym index)
        ∙ ap (λ (x : ℕ). read_element q buf x (row_at box (box_index box c h w)) (column_at box (box_index box c h w))) (index-channel box c h w inb)
        ∙ ap (λ (x : ℕ). read_element q buf c x (column_at box (box_index box c h w))) (index-row box c h w inb)
        ∙ ap (λ (x : ℕ). read_element q buf c h x) (index-column box c h w inb)
        ∙ ap (λ (x : ℕ). element_at (size_of q) buf x) (run-position q box n r i)

    run_holds : element_at (size_of q) buf (run_position q box n r + 32 * i) ≡ get_or (box_elements q box buf) (run_index box n r + i) (pos 0)
    run_holds = sym (goal-at (run_index box n r + i) (run-index-lt box n r i hn hr hi) ∙ run-element)

  -- ---- one row

  module _ (ok : Valid q) (inside : BoxValid q box) (room : q.start + cube_extent q ≤ length buf) (n m r : ℕ) (end : AtomEnd (size_of q) box.channel box.channels n m) (hr : r < box.rows)
      (l : List ℤ) (count : length l ≡ box_count box) where
    fits : BlockFits (row_block q box (box.rows * box.columns) box.columns n m r) (length l) (length buf)
    fits = row_fits q box n m r end ok inside hr (box.rows * box.columns) box.columns (length l) (length buf) (box-enough q box inside (length l) count) room

    same : (k i : ℕ) → k < m - n → i < box.columns
        → element_at (size_of q) buf (run_position q box n r + 32 * i + k * size_of q) ≡ get_or (box_elements q box buf) (run_index box n r + box.rows * box.columns * k + i) (pos 0)
    same k i hk hi =
        let index : run_index box (n + k) r + i ≡ run_index box n r + box.rows * box.columns * k + i = omega (arith, row-index (box.rows * box.columns) box.columns n r k i, mul_comm k (box.rows * box.columns)) in
        ap (element_at (size_of q) buf) (row-position q box n m r end k i hk)
        ∙ run_holds (n + k) r i (omega (arith, hk, end.le)) hr hi
        ∙ ap (λ (x : ℕ). get_or (box_elements q box buf) x (pos 0)) index

    pub read-toward : Toward (pos 0) (box_elements q box buf) l (block_read (row_block q box (box.rows * box.columns) box.columns n m r) buf l)
    read-toward = block-read-toward (row_block q box (box.rows * box.columns) box.columns n m r) buf (box_elements q box buf) l fits (row_apart q box n m r end ok inside hr) same

    pub read-reached : (c : ℕ) → n ≤ c → c < m → RowRead box (box_elements q box buf) (block_read (row_block q box (box.rows * box.columns) box.columns n m r) buf l) c r
    read-reached c low high i hi =
        let k = c - n in
        let index : run_index box n r + box.rows * box.columns * k + i ≡ run_index box c r + i =
        omega (arith, row-index (box.rows * box.columns) box.columns n r k i, mul_comm k (box.rows * box.columns), ap (λ (x : ℕ). run_index box x r) (behind c low)) in
        subst (λ (x : ℕ). get_or (block_read (row_block q box (box.rows * box.columns) box.columns n m r) buf l) x (pos 0) ≡ get_or (box_elements q box buf) x (pos 0)) index
        (block-read-reached (row_block q box (box.rows * box.columns) box.columns n m r) buf (box_elements q box buf) l fits (row_apart q box n m r end ok inside hr) same k i (omega arith) hi)
      where
        behind : (c : ℕ) → n ≤ c → n + (c - n) ≡ c
        behind c low = omega arith

  -- ---- all rows

  module _ (inside : BoxValid q box) (after : List ℤ) (count : length after ≡ box_count box)
      (all : (c k : ℕ) → c < box.channels → k < box.rows → RowRead box (box_elements q box buf) after c k) where
    -- each index is one of a run's
    there : (j : ℕ) → j < box_count box → get_or after j (pos 0) ≡ get_or (box_elements q box buf) j (pos 0)
    there j hj =
        let i = at_in box j hj inside.rows.some inside.columns.some in
        let n = channel_at box j - box.channel in
        let r = row_at box j - box.row in
        let k = column_at box j - box.column in
        let index : run_index box n r + k ≡ j = sym (box-run box (channel_at box j) (row_at box j) (column_at box j)) ∙ box_index-at box j hj inside.rows.some inside.columns.some in
        subst (λ (p : ℕ). get_or after p (pos 0) ≡ get_or (box_elements q box buf) p (pos 0)) index
        (all n r (omega (arith, i.channel_ge, i.channel_lt)) (omega (arith, i.row_ge, i.row_lt)) k (omega (arith, i.column_ge, i.column_lt)))

    pub read_only : after ≡ box_elements q box buf
    unfolding box_elements at-index
    read_only =
        ext_get_or (pos 0) after (box_elements q box buf) (count ∙ sym (length-tabulate at-index (box_count box)))
        (λ j h. there j (subst (λ (n : ℕ). j < n) count h))
