-- What packing, box writing and reading leave in buffers and elements (scope paper, "Cells and cubes", "Stalls"). Assumes nothing.
use Rattle.std.specs.Prelude.{ℕ, cond, List, get_or, replicate, ℤ, pos}
use Rattle.elements.specs.Bytes.{byte_of, element_at}
use Rattle.elements.specs.Lists.{remade, tabulate}
use Rattle.layout.specs.declared.CubeLayout.{CubeLayout}
use Rattle.layout.specs.declared.ElementBox.{ElementBox}
use Rattle.layout.specs.Geometry.{size_of, raw_index, element_position}
use Rattle.layout.specs.Boxes.{box_has, box_index, box_count, channel_at, row_at, column_at, whole_box}
use Rattle.layout.specs.Owners.{Owner, element, padding, outside, owner}

-- a byte after packing, by its owner: an element's byte, 0 in the padding, else as it was
unfoldable pub packed_byte : CubeLayout → List ℤ → Owner → ℕ → ℕ
packed_byte q raw (element c h w b) old = byte_of (get_or raw (raw_index q c h w) (pos 0)) b
packed_byte q raw padding old = 0
packed_byte q raw outside old = old

-- the buffer after packing a raw tensor over `before`
unfoldable pub packed : CubeLayout → List ℤ → List ℕ → List ℕ
packed q raw before = remade (λ (p old : ℕ). packed_byte q raw (owner q p) old) before

-- a byte after writing a box, by its owner: a byte of an element of the box, else as it was
unfoldable pub edited_byte : ElementBox → List ℤ → Owner → ℕ → ℕ
edited_byte box elements (element c h w b) old = cond (box_has box c h w) (byte_of (get_or elements (box_index box c h w) (pos 0)) b) old
edited_byte box elements padding old = old
edited_byte box elements outside old = old

-- the buffer after writing elements, in raw order over the box, over `before`
unfoldable pub edited : CubeLayout → ElementBox → List ℤ → List ℕ → List ℕ
edited q box elements before = remade (λ (p old : ℕ). edited_byte box elements (owner q p) old) before

-- a zero for each element of a box
abbrev pub zeros_of : ElementBox → List ℤ
zeros_of box = replicate (box_count box) (pos 0)

-- the elements that a rule gives at each channel, row and column of a box, in raw order over the box
abbrev pub elements_by : ElementBox → (ℕ → ℕ → ℕ → ℤ) → List ℤ
elements_by box rule = tabulate (box_count box) (λ (i : ℕ). rule (channel_at box i) (row_at box i) (column_at box i))

-- the element (c, h, w) that a buffer holds
unfoldable pub read_element : CubeLayout → List ℕ → ℕ → ℕ → ℕ → ℤ
read_element q buffer c h w = element_at (size_of q) buffer (element_position q c h w)

-- the elements of a box that a buffer holds, in raw order over the box
unfoldable pub box_elements : CubeLayout → ElementBox → List ℕ → List ℤ
box_elements q box buffer = elements_by box (read_element q buffer)

-- the raw tensor that a buffer holds
unfoldable pub unpacked : CubeLayout → List ℕ → List ℤ
unpacked q buffer = box_elements q (whole_box q) buffer
