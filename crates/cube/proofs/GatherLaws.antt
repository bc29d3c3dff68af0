-- The elements of a box as they lie in a list (specs/Steps.antt): what they are at a run, and in the two lists that the calls have, the caller's
-- elements in raw order and a row of zeros for every run. Assumes nothing.
--     gathered-run                  the elements of a run
--     gathered-raw, gathered-zeros  the caller's elements; zeros
use Prim.Native.Nat.{ℕ, ◌+◌, ◌-◌, ◌*◌, ◌≤◌, ◌<◌}
use native.Mathlib.Omega.{arith}
use mathlib.Core.Path.{◌≡◌, sym, ap, subst, ◌∙◌}
use mathlib.Core.List.{List}
use lib.ListN.{length, get_or, replicate, length-replicate, get_or-replicate}
use lib.Seq.{ext_get_or}
use lib.IntN.{ℤ, pos}
use Rattle.elements.proofs.TabulateLaws.{length-tabulate, get_d_tabulate}
use Rattle.layout.specs.declared.CubeLayout.{CubeLayout}
use Rattle.layout.specs.declared.ElementBox.{ElementBox}
use Rattle.layout.specs.Boxes.{box_index, box_count, channel_at, row_at, column_at}
use Rattle.layout.specs.Contents.{zeros_of}
use Rattle.layout.proofs.BoxLaws.{BoxValid, index-channel, index-row, index-column, at_in, box_index-at}
use Rattle.cube.specs.Steps.{run_from, run_index, gathered}
use Rattle.cube.proofs.RunLaws.{box-run, run_in, run-index, run-index-lt}

module _ (box : ElementBox) (plane line : ℕ) (xs : List ℤ) where
  -- the element of the list that lies at channel c, row h and column w of the cube
  source : (c h w : ℕ) → ℤ
  source c h w = get_or xs (run_from plane line (c - box.channel) (h - box.row) + (w - box.column)) (pos 0)

  gathered-length : length (gathered box plane line xs) ≡ box_count box
  unfolding gathered
  gathered-length = length-tabulate _ (box_count box)

  gathered-at : (j : ℕ) → j < box_count box → get_or (gathered box plane line xs) j (pos 0) ≡ source (channel_at box j) (row_at box j) (column_at box j)
  unfolding gathered source
  gathered-at j hj = get_d_tabulate _ (box_count box) j (pos 0) hj

  module _ (n r i : ℕ) (hn : n < box.channels) (hr : r < box.rows) (hi : i < box.columns) where
    pub gathered-run : get_or (gathered box plane line xs) (run_index box n r + i) (pos 0) ≡ get_or xs (run_from plane line n r + i) (pos 0)
    unfolding source
    gathered-run =
        let c = box.channel + n in
        let h = box.row + r in
        let w = box.column + i in
        let inb = run_in box n r i hn hr hi in
        let index = run-index box n r i hn hr hi in
        let dn : c - box.channel ≡ n = omega arith in
        let dr : h - box.row ≡ r = omega arith in
        let di : w - box.column ≡ i = omega arith in
        gathered-at (run_index box n r + i) (run-index-lt box n r i hn hr hi)
        ∙ ap (λ (j : ℕ). source (channel_at box j) (row_at box j) (column_at box j)) (sym index)
        ∙ ap (λ (x : ℕ). source x (row_at box (box_index box c h w)) (column_at box (box_index box c h w))) (index-channel box c h w inb)
        ∙ ap (λ (x : ℕ). source c x (column_at box (box_index box c h w))) (index-row box c h w inb)
        ∙ ap (λ (x : ℕ). source c h x) (index-column box c h w inb)
        ∙ rw (dn, dr, di)

  -- a list of the box's elements that has the source's at each index
  gathered-is : (ys : List ℤ) → length ys ≡ box_count box → ((j : ℕ) → j < box_count box → source (channel_at box j) (row_at box j) (column_at box j) ≡ get_or ys j (pos 0)) → gathered box plane line xs ≡ ys
  gathered-is ys count same =
      ext_get_or (pos 0) (gathered box plane line xs) ys (gathered-length ∙ sym count)
      (λ j h. let hj = subst (λ (n : ℕ). j < n) gathered-length h in gathered-at j hj ∙ same j hj)

module _ (q : CubeLayout) (box : ElementBox) (inside : BoxValid q box) where
  -- the caller's elements, in raw order
  pub gathered-raw : (xs : List ℤ) → length xs ≡ box_count box → gathered box (box.rows * box.columns) box.columns xs ≡ xs
  unfolding source
  gathered-raw xs count =
      gathered-is box (box.rows * box.columns) box.columns xs xs count
      (λ j hj. ap (λ (x : ℕ). get_or xs x (pos 0)) (sym (box-run box (channel_at box j) (row_at box j) (column_at box j)) ∙ box_index-at box j hj inside.rows.some inside.columns.some))

  -- the same k zeros for every run
  pub gathered-zeros : (k : ℕ) → box.columns ≤ k → gathered box 0 0 (replicate k (pos 0)) ≡ zeros_of box
  unfolding source run_from
  gathered-zeros k wide =
      gathered-is box 0 0 (replicate k (pos 0)) (zeros_of box) (length-replicate (box_count box) (pos 0))
      (λ j hj.
      let i = at_in box j hj inside.rows.some inside.columns.some in
      get_or-replicate k _ (pos 0) (pos 0) (omega (arith, wide, i.column_ge, i.column_lt)) ∙ sym (get_or-replicate (box_count box) j (pos 0) (pos 0) hj))
