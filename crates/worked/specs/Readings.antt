-- The readings that the scope paper shuts out ("Readings to shut out"): what the definitions give, and beside it what the reading gives. That entry N + 1 is not
-- read at x = end is a law: lut/proofs/Claims.antt, `linear-past-last`. Assumes nothing.
use Rattle.std.specs.Prelude.{ℕ, List, [], ◌∷◌, pos, ◌+ℤ◌, ◌-ℤ◌, ◌*ℤ◌, set, get_or, replicate}
use Rattle.std.specs.Int.Signed.{quot_z}
use Rattle.layout.specs.Geometry.{layout_of}
use Rattle.layout.specs.Calls.{pack_buffer}
use Rattle.weights.specs.Geometry.{element_position}
use Rattle.lut.specs.Numbers.{shifted}
use Rattle.lut.specs.Tables.{entry}
use Rattle.worked.specs.Cases.{Case, gives, number}
use Rattle.worked.specs.Weights.{weights_of}
use Rattle.worked.specs.Lookups.{tens, linear, outputs}

-- two lines of one int8 element in strides of 64, packed into 96 bytes of 7: byte 32 lies between the lines
abbrev pub two_lines : List ℕ
two_lines = pack_buffer (layout_of 1 2 1 0 64 96 0) (pos 5 ∷ pos 6 ∷ []) (replicate 96 7)

unfoldable pub readings : List Case
readings =
    -- the slope shifted first: 642 at 258 above
    gives (outputs linear tens (pos 258 ∷ [])) ((entry tens 64 +ℤ (pos 258 -ℤ pos 256) *ℤ shifted (pos 3) (pos 1)) ∷ [])
    -- the interpolated step rounded toward zero: 9 where 8 stands
    ∷ gives (outputs linear (set tens 2 (pos 7)) (pos 6 ∷ [])) ((pos 10 +ℤ quot_z ((pos 7 -ℤ pos 10) *ℤ pos 2) (pos 4)) ∷ [])
    -- a line filled to its stride: 0 between two lines
    ∷ number (get_or two_lines 32 0) 0
    -- a short channel block filled to 64, as it is with 128 channels
    ∷ number (element_position (weights_of 3 65 1 2 0) 1 64 0 1) (element_position (weights_of 3 128 1 2 0) 1 64 0 1)
    -- full groups' kernels counted in the last group, as they are with 32 kernels
    ∷ number (element_position (weights_of 17 1 1 2 1) 16 0 0 1) (element_position (weights_of 32 1 1 2 1) 16 0 0 1)
    ∷ []
