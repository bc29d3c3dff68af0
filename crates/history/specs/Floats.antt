-- A third list of calls to follow by hand, of fp16 (change request K7): a cube of 2 columns, 1 row and 1 channel in 64 bytes. 1 is 0x3C00, as a number 15360;
-- infinity is 31744 and -infinity -1024; 31745 and -1 are NaN. Assumes nothing.
use Rattle.std.specs.Prelude.{ℕ, List, [], ◌∷◌, replicate, ℤ, pos, negsuc}
use Rattle.layout.specs.declared.CubeLayout.{CubeLayout}
use Rattle.regions.specs.Slots.{rectangle}
use Rattle.history.specs.Program.{Call, place, edit, read, Shown, beginning, program}
use Rattle.history.specs.Example.{box, ones}

abbrev pub layout : CubeLayout
layout = record { width = 2; height = 1; channels = 1; precision = 2; line = 64; surface = 64; start = 0 }

-- column 0 is 1, column 1 infinity
abbrev pub tensor : List ℤ
tensor = pos 15360 ∷ pos 31744 ∷ []

abbrev pub buffer : List ℕ
buffer = replicate 64 7

-- the element of a region of one column
abbrev edit_one : ℕ → ℕ → ℤ → Call
edit_one n id z = edit n id (box 0 0 0 1 1 1) (z ∷ [])

abbrev read_one : ℕ → ℕ → Call
read_one n id = read n id (box 0 0 0 1 1 1) (ones 1)

unfoldable pub calls : List Call
calls =
    -- region 0 is column 0, of owner 11; region 1 is column 1, of owner 12
    place 0 11 (rectangle 0 0 1 1)
    ∷ place 1 12 (rectangle 1 0 1 1)
    -- refused: NaN, with either sign; of two elements for one the count is told first
    ∷ edit_one 0 11 (pos 31745)
    ∷ edit_one 1 12 (negsuc 0)
    ∷ edit 0 11 (box 0 0 0 1 1 1) (negsuc 0 ∷ negsuc 0 ∷ [])
    -- both are as they were
    ∷ read_one 0 11
    ∷ read_one 1 12
    -- -infinity is taken
    ∷ edit_one 0 11 (negsuc 1023)
    ∷ read_one 0 11
    ∷ []

-- what the program shows of them
abbrev pub shown_of : List Shown
shown_of = program (beginning layout tensor buffer).state calls
