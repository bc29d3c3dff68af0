-- The starred cases of feature cubes (scope paper, "Worked on squared paper"). Assumes nothing.
use Rattle.std.specs.Prelude.{ℕ, List, [], ◌∷◌, map, replicate, take, pos, negsuc}
use Rattle.layout.specs.declared.CubeLayout.{CubeLayout}
use Rattle.layout.specs.Geometry.{layout_of, surfaces}
use Rattle.layout.specs.Calls.{pack_answer, pack_buffer, position_quantity}
use Rattle.worked.specs.Cases.{Case, gives, number, answers, quantity_of}

-- the paper's frame, with the surface stride given
abbrev pub frame : ℕ → CubeLayout
frame surface = layout_of 3 2 40 0 128 surface 0

-- one int16 element of -2, packed into 32 bytes of 7
abbrev pub minus_two : List ℕ
minus_two = pack_buffer (layout_of 1 1 1 1 32 32 0) (negsuc 1 ∷ []) (replicate 32 7)

unfoldable pub cube_cases : List Case
cube_cases =
    -- the frame above: cell (33, 1, 2) at 449
    gives (quantity_of (position_quantity (frame 256) 33 1 2)) (pos 449 ∷ [])
    -- a buffer of 480 is taken, 479 is 5
    ∷ answers (pack_answer (frame 256) (replicate 240 (pos 0)) 480) 0
    ∷ answers (pack_answer (frame 256) (replicate 240 (pos 0)) 479) 5
    -- surface 224 is taken, 192 is 3
    ∷ answers (pack_answer (frame 224) (replicate 240 (pos 0)) 480) 0
    ∷ answers (pack_answer (frame 192) (replicate 240 (pos 0)) 480) 3
    -- int16 -2 is stored FE FF
    ∷ gives (map pos (take 2 minus_two)) (pos 0xfe ∷ pos 0xff ∷ [])
    -- C = 16 has one surface, C = 17 two
    ∷ number (surfaces (layout_of 1 1 16 1 32 32 0)) 1
    ∷ number (surfaces (layout_of 1 1 17 1 32 32 0)) 2
    ∷ []
