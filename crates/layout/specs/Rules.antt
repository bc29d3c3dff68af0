-- Which settings are valid, and the order in which they are checked (scope paper, "Cells and cubes", "Refusal numbers"). Assumes nothing.
use Rattle.std.specs.Prelude.{ℕ, ◌+◌, ◌-◌, ◌*◌, ◌%◌, Bool, ◌&&◌, List, [], ◌∷◌, ◌++◌, leb, ltb, eqb}
use Rattle.refusal.specs.declared.Refusal.TheVariants.{Size, Precision, CubeStrides, CubeStart, BufferLength, ElementCount, Bounds}
use Rattle.refusal.specs.Checks.{require, Answer}
use Rattle.refusal.specs.Sizes.{size_valid}
use Rattle.layout.specs.declared.CubeLayout.{CubeLayout}
use Rattle.layout.specs.declared.ElementBox.{ElementBox}
use Rattle.layout.specs.Geometry.{element_count, cube_extent}
use Rattle.layout.specs.Boxes.{box_count, box_inside}

-- width, height and channels, each 1 to 8192
unfoldable pub sizes_valid : CubeLayout → Bool
sizes_valid q = size_valid 8192 q.width && size_valid 8192 q.height && size_valid 8192 q.channels

-- a multiple of 32
unfoldable pub whole_atoms : ℕ → Bool
whole_atoms n = eqb (n % 32) 0

-- line and surface stride of a cube w wide and h high: multiples of 32; a line holds its atoms, and a surface its lines, the last one only up
-- to its atoms' end
unfoldable pub strides_valid : ℕ → ℕ → ℕ → ℕ → Bool
strides_valid w h line surface = whole_atoms line && whole_atoms surface && leb (32 * w) line && leb ((h - 1) * line + 32 * w) surface

-- 1 to 4: sizes, precision, strides, start
unfoldable pub layout_checks : CubeLayout → List Answer
layout_checks q =
    require Size (sizes_valid q)
    ∷ require Precision (ltb q.precision 3)
    ∷ require CubeStrides (strides_valid q.width q.height q.line q.surface)
    ∷ require CubeStart (whole_atoms q.start)
    ∷ []

-- 1 to 4, 9: the box has elements, all in the cube
unfoldable pub box_checks : CubeLayout → ElementBox → List Answer
box_checks q b = layout_checks q ++ (require Bounds (box_inside q b) ∷ [])

-- 5: a buffer of `len` bytes that holds the start and the extent
abbrev pub room_checks : CubeLayout → ℕ → List Answer
room_checks q len = require BufferLength (leb (q.start + cube_extent q) len) ∷ []

-- 6 and 5: `given` elements where `count` are wanted, and room in the buffer
unfoldable pub storage_checks : CubeLayout → ℕ → ℕ → ℕ → List Answer
storage_checks q count given len = require ElementCount (eqb given count) ∷ room_checks q len

-- 1 to 4, 6, 5: the whole cube
unfoldable pub cube_checks : CubeLayout → ℕ → ℕ → List Answer
cube_checks q given len = layout_checks q ++ storage_checks q (element_count q) given len

-- 1 to 4, 9, 6, 5: a box of the cube
unfoldable pub admit_checks : CubeLayout → ElementBox → ℕ → ℕ → List Answer
admit_checks q b given len = box_checks q b ++ storage_checks q (box_count b) given len
