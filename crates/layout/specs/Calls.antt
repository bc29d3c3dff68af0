-- What each call on a cube answers and leaves (scope paper, "Cells and cubes", "Refusal numbers": "Orders"). Where a call is refused, every
-- lent list stays as it was. Assumes nothing.
use Rattle.std.specs.Prelude.{ℕ, List, ◌++◌, length, ℤ}
use Rattle.refusal.specs.Checks.{in_order, leaves, quantity, Answer, Quantity}
use Rattle.elements.specs.Values.{value_checks}
use Rattle.layout.specs.declared.CubeLayout.{CubeLayout}
use Rattle.layout.specs.declared.ElementBox.{ElementBox}
use Rattle.layout.specs.Geometry.{element_position, cube_extent}
use Rattle.layout.specs.Boxes.{one_element}
use Rattle.layout.specs.Rules.{layout_checks, box_checks, room_checks, cube_checks, admit_checks}
use Rattle.layout.specs.Contents.{packed, edited, zeros_of, box_elements, unpacked}

-- pack: 1, 2, 3, 4, 6, 5, then 7 or 26
unfoldable pub pack_answer : CubeLayout → List ℤ → ℕ → Answer
pack_answer q raw len = in_order (cube_checks q (length raw) len ++ value_checks q.precision raw)

unfoldable pub pack_buffer : CubeLayout → List ℤ → List ℕ → List ℕ
pack_buffer q raw before = leaves (pack_answer q raw (length before)) (packed q raw before) before

-- unpack: 1, 2, 3, 4, 6, 5
unfoldable pub unpack_answer : CubeLayout → ℕ → ℕ → Answer
unpack_answer q given len = in_order (cube_checks q given len)

unfoldable pub unpack_elements : CubeLayout → List ℕ → List ℤ → List ℤ
unpack_elements q buffer before = leaves (unpack_answer q (length before) (length buffer)) (unpacked q buffer) before

-- write a box: 1, 2, 3, 4, 9, 6, 5, then 7 or 26
unfoldable pub write_box_answer : CubeLayout → ElementBox → List ℤ → ℕ → Answer
write_box_answer q box elements len = in_order (admit_checks q box (length elements) len ++ value_checks q.precision elements)

unfoldable pub write_box_buffer : CubeLayout → ElementBox → List ℤ → List ℕ → List ℕ
write_box_buffer q box elements before = leaves (write_box_answer q box elements (length before)) (edited q box elements before) before

-- clear a box: 1, 2, 3, 4, 9, 5; every element of it becomes 0
unfoldable pub clear_box_answer : CubeLayout → ElementBox → ℕ → Answer
clear_box_answer q box len = in_order (box_checks q box ++ room_checks q len)

unfoldable pub clear_box_buffer : CubeLayout → ElementBox → List ℕ → List ℕ
clear_box_buffer q box before = leaves (clear_box_answer q box (length before)) (edited q box (zeros_of box) before) before

-- read a box: 1, 2, 3, 4, 9, 6, 5
unfoldable pub read_box_answer : CubeLayout → ElementBox → ℕ → ℕ → Answer
read_box_answer q box given len = in_order (admit_checks q box given len)

unfoldable pub read_box_elements : CubeLayout → ElementBox → List ℕ → List ℤ → List ℤ
read_box_elements q box buffer before = leaves (read_box_answer q box (length before) (length buffer)) (box_elements q box buffer) before

-- the extent: 1, 2, 3, 4
unfoldable pub extent_quantity : CubeLayout → Quantity
extent_quantity q = quantity (in_order (layout_checks q)) (cube_extent q)

-- the position of an element: 1, 2, 3, 4, 9
unfoldable pub position_quantity : CubeLayout → ℕ → ℕ → ℕ → Quantity
position_quantity q c h w = quantity (in_order (box_checks q (one_element c h w))) (element_position q c h w)
