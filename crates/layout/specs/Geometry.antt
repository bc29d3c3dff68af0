-- Where the elements of a feature cube lie in its packed buffer (scope paper, "Cells and cubes"). All numbers are whole numbers: nothing
-- wraps. Assumes nothing.
use Rattle.std.specs.Prelude.{ℕ, ◌+◌, ◌-◌, ◌*◌, ◌/◌, ◌%◌}
use Rattle.elements.specs.Bytes.{element_bytes}
use Rattle.layout.specs.declared.CubeLayout.{CubeLayout}

-- W H C precision line surface start, as the paper's sheet has them
abbrev pub layout_of : ℕ → ℕ → ℕ → ℕ → ℕ → ℕ → ℕ → CubeLayout
layout_of w h c p line surface start = record { width = w; height = h; channels = c; precision = p; line = line; surface = surface; start = start }

-- bytes an element (the paper's e)
abbrev pub size_of : CubeLayout → ℕ
size_of q = element_bytes q.precision

-- elements of the whole cube
unfoldable pub element_count : CubeLayout → ℕ
element_count q = q.channels * q.height * q.width

-- the index of element (c, h, w) in raw order
unfoldable pub raw_index : CubeLayout → ℕ → ℕ → ℕ → ℕ
raw_index q c h w = (c * q.height + h) * q.width + w

-- surfaces, S = ceil(C·e/32)
unfoldable pub surfaces : CubeLayout → ℕ
surfaces q = (q.channels * size_of q + 31) / 32

-- the byte at which element (c, h, w) begins
unfoldable pub element_position : CubeLayout → ℕ → ℕ → ℕ → ℕ
element_position q c h w = q.start + (c * size_of q / 32) * q.surface + h * q.line + w * 32 + c * size_of q % 32

-- byte k of the atom at surface s, row h, column w
unfoldable pub atom_position : CubeLayout → ℕ → ℕ → ℕ → ℕ → ℕ
atom_position q s h w k = q.start + s * q.surface + h * q.line + 32 * w + k

-- bytes from the start to the end of the last atom
unfoldable pub cube_extent : CubeLayout → ℕ
cube_extent q = (surfaces q - 1) * q.surface + (q.height - 1) * q.line + 32 * q.width
