-- Boxes of a cube and the raw order of their elements (scope paper, "Stalls"). Assumes nothing.
use Rattle.std.specs.Prelude.{ℕ, ◌+◌, ◌-◌, ◌*◌, ◌/◌, ◌%◌, Bool, ◌&&◌, leb, ltb}
use Rattle.layout.specs.declared.CubeLayout.{CubeLayout}
use Rattle.layout.specs.declared.ElementBox.{ElementBox}

-- the box of the whole cube
abbrev pub whole_box : CubeLayout → ElementBox
whole_box q = record { channel = 0; row = 0; column = 0; channels = q.channels; rows = q.height; columns = q.width }

-- the box of one element
abbrev pub one_element : ℕ → ℕ → ℕ → ElementBox
one_element c h w = record { channel = c; row = h; column = w; channels = 1; rows = 1; columns = 1 }

-- elements of a box
unfoldable pub box_count : ElementBox → ℕ
box_count b = b.channels * b.rows * b.columns

-- `count` numbers from `first` on, at least one, all below `size`
unfoldable pub span_inside : ℕ → ℕ → ℕ → Bool
span_inside first count size = leb 1 count && leb (first + count) size

-- the box has elements, and all of them are in the cube
unfoldable pub box_inside : CubeLayout → ElementBox → Bool
box_inside q b = span_inside b.channel b.channels q.channels && span_inside b.row b.rows q.height && span_inside b.column b.columns q.width

-- x is one of the `count` numbers from `first` on
unfoldable pub span_has : ℕ → ℕ → ℕ → Bool
span_has first count x = leb first x && ltb x (first + count)

-- element (c, h, w) of the cube is in the box
unfoldable pub box_has : ElementBox → ℕ → ℕ → ℕ → Bool
box_has b c h w = span_has b.channel b.channels c && span_has b.row b.rows h && span_has b.column b.columns w

-- the index of element (c, h, w) of the cube in raw order over the box
unfoldable pub box_index : ElementBox → ℕ → ℕ → ℕ → ℕ
box_index b c h w = ((c - b.channel) * b.rows + (h - b.row)) * b.columns + (w - b.column)

-- channel, row and column of the element at an index in raw order over the box
unfoldable pub channel_at : ElementBox → ℕ → ℕ
channel_at b i = b.channel + i / (b.rows * b.columns)

unfoldable pub row_at : ElementBox → ℕ → ℕ
row_at b i = b.row + i / b.columns % b.rows

unfoldable pub column_at : ElementBox → ℕ → ℕ
column_at b i = b.column + i % b.columns
