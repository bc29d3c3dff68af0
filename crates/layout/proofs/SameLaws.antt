-- The elements of a box depend on their bytes alone. Element by element. Assumes nothing.
--     box-same     two buffers that agree on them
use Prim.Native.Nat.{ℕ, ◌+◌, ◌<◌}
use mathlib.Core.Path.{◌≡◌}
use mathlib.Core.Bool.{true}
use mathlib.Core.List.{List}
use lib.ListN.{get_or}
use lib.IntN.{pos}
use Rattle.elements.proofs.ByteLaws.{element_at-ext}
use Rattle.elements.proofs.TabulateLaws.{tabulate-ext}
use Rattle.layout.specs.declared.CubeLayout.{CubeLayout}
use Rattle.layout.specs.declared.ElementBox.{ElementBox}
use Rattle.layout.specs.Geometry.{size_of, element_position}
use Rattle.layout.specs.Boxes.{box_count, box_has, channel_at, row_at, column_at}
use Rattle.layout.specs.Contents.{read_element, box_elements}
use Rattle.layout.proofs.BoxLaws.{BoxValid, at_in, in-box_has}

module _ (q : CubeLayout) (box : ElementBox) (buffer buffer' : List ℕ)
    (bytes : (c h w k : ℕ) → box_has box c h w ≡ true → k < size_of q → get_or buffer (element_position q c h w + k) 0 ≡ get_or buffer' (element_position q c h w + k) 0) where
  stored_same : (c h w : ℕ) → box_has box c h w ≡ true → read_element q buffer c h w ≡ read_element q buffer' c h w
  unfolding read_element
  stored_same c h w i = element_at-ext (size_of q) buffer buffer' (element_position q c h w) (element_position q c h w) (λ k l. bytes c h w k i l)

  pub box-same : BoxValid q box → box_elements q box buffer ≡ box_elements q box buffer'
  unfolding box_elements
  box-same t =
      tabulate-ext (pos 0) (box_count box)
      (λ (i : ℕ). read_element q buffer (channel_at box i) (row_at box i) (column_at box i))
      (λ (i : ℕ). read_element q buffer' (channel_at box i) (row_at box i) (column_at box i))
      (λ i l. stored_same (channel_at box i) (row_at box i) (column_at box i) (in-box_has box (channel_at box i) (row_at box i) (column_at box i) (at_in box i l t.rows.some t.columns.some)))
