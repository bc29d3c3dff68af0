-- One list of calls, small enough to follow by hand: a cube of 3 columns, 1 row and 2 channels of int8 in 96 bytes, two regions side by side, a
-- refusal of each kind that a placing, an edit or a read of int8 can have after an accepted packing, and a release whose room another owner takes. Assumes nothing.
use Rattle.std.specs.Prelude.{ℕ, List, [], ◌∷◌, replicate, ℤ, pos, negsuc}
use Rattle.layout.specs.declared.CubeLayout.{CubeLayout}
use Rattle.layout.specs.declared.ElementBox.{ElementBox}
use Rattle.regions.specs.Slots.{rectangle}
use Rattle.history.specs.Program.{Call, place, edit, read, release, Shown, beginning, program}

abbrev pub layout : CubeLayout
layout = record { width = 3; height = 1; channels = 2; precision = 0; line = 96; surface = 96; start = 0 }

-- channel 0 is 1, 2, 3 and channel 1 is 4, 5, -6
abbrev pub tensor : List ℤ
tensor = pos 1 ∷ pos 2 ∷ pos 3 ∷ pos 4 ∷ pos 5 ∷ negsuc 5 ∷ []

abbrev pub buffer : List ℕ
buffer = replicate 96 7

-- first channel, row and column, and how many of each
abbrev pub box : ℕ → ℕ → ℕ → ℕ → ℕ → ℕ → ElementBox
box channel row column channels rows columns =
    record { channel = channel; row = row; column = column; channels = channels; rows = rows; columns = columns }

-- what a caller lends to be read into
abbrev pub ones : ℕ → List ℤ
ones n = replicate n (pos 1)

-- each call names a slot and gives an owner's id
unfoldable pub calls : List Call
calls =
    -- region 0 is columns 0 and 1, of owner 11
    place 0 11 (rectangle 0 0 2 1)
    -- refused: it overlaps, its slot is filled, it leaves the cube, there is no slot 16; 0 is no owner's id, which is said before the filled slot
    ∷ place 1 12 (rectangle 1 0 2 1)
    ∷ place 0 12 (rectangle 2 0 1 1)
    ∷ place 1 12 (rectangle 2 0 2 1)
    ∷ place 16 12 (rectangle 2 0 1 1)
    ∷ place 0 0 (rectangle 2 0 1 1)
    -- region 1 is column 2, of owner 12
    ∷ place 1 12 (rectangle 2 0 1 1)
    -- through region 0: channel 1, column 1 becomes -8
    ∷ edit 0 11 (box 1 0 1 1 1 1) (negsuc 7 ∷ [])
    -- through region 1: its first column is the cube's column 2, of channel 0 it becomes 9
    ∷ edit 1 12 (box 0 0 0 1 1 1) (pos 9 ∷ [])
    -- refused: no such region, another's region, out of the region, one element too few, 200 is no int8
    ∷ edit 2 12 (box 0 0 0 1 1 1) (pos 9 ∷ [])
    ∷ edit 0 12 (box 0 0 0 1 1 1) (pos 9 ∷ [])
    ∷ edit 1 12 (box 0 0 1 1 1 1) (pos 9 ∷ [])
    ∷ edit 0 11 (box 0 0 0 1 1 2) (pos 9 ∷ [])
    ∷ edit 0 11 (box 0 0 0 1 1 2) (pos 9 ∷ pos 200 ∷ [])
    -- all of region 0, and all of region 1
    ∷ read 0 11 (box 0 0 0 2 1 2) (ones 4)
    ∷ read 1 12 (box 0 0 0 2 1 1) (ones 2)
    -- refused: no such region, another's region, out of the region, one element too many
    ∷ read 3 12 (box 0 0 0 1 1 1) (ones 1)
    ∷ read 1 11 (box 0 0 0 2 1 1) (ones 2)
    ∷ read 1 12 (box 0 0 0 2 2 1) (ones 4)
    ∷ read 1 12 (box 0 0 0 1 1 1) (ones 2)
    -- refused: another's region; then its owner releases region 0; refused: it is released
    ∷ release 0 12
    ∷ release 0 11
    ∷ release 0 11
    -- owner 13 in that slot and on that room reads zeros, writes 3 at channel 1, column 0, and reads it
    ∷ place 0 13 (rectangle 0 0 2 1)
    ∷ read 0 13 (box 0 0 0 2 1 2) (ones 4)
    ∷ edit 0 13 (box 1 0 0 1 1 1) (pos 3 ∷ [])
    ∷ read 0 13 (box 0 0 0 2 1 2) (ones 4)
    -- region 1 is as it was
    ∷ read 1 12 (box 0 0 0 2 1 1) (ones 2)
    ∷ []

-- what the program shows of them
abbrev pub shown_of : List Shown
shown_of = program (beginning layout tensor buffer).state calls
