-- A second list of calls to follow by hand, with paintings (change requests K3, K5): a cube of 2 columns, 1 row and 4 channels of int8 in 64 bytes, pictures of
-- one row, a refusal of a picture, of a conversion and of a region, and an edit and a release of what was painted. Assumes nothing.
use Rattle.std.specs.Prelude.{ℕ, List, [], ◌∷◌, ◌++◌, replicate, ℤ, pos, negsuc}
use Rattle.layout.specs.declared.CubeLayout.{CubeLayout}
use Rattle.pixels.specs.declared.PixelSetting.{PixelSetting}
use Rattle.regions.specs.Slots.{rectangle}
use Rattle.parlour.specs.declared.Conversion.{Conversion}
use Rattle.history.specs.Program.{Call, place, edit, read, release, paint, Shown, beginning, program}
use Rattle.history.specs.Example.{box, ones}

abbrev pub layout : CubeLayout
layout = record { width = 2; height = 1; channels = 4; precision = 0; line = 64; surface = 64; start = 0 }

-- column 0 is 1, 2, 3, 4 and column 1 is 5, 6, 7, -8, each channel by channel
abbrev pub tensor : List ℤ
tensor = pos 1 ∷ pos 5 ∷ pos 2 ∷ pos 6 ∷ pos 3 ∷ pos 7 ∷ pos 4 ∷ negsuc 7 ∷ []

abbrev pub buffer : List ℕ
buffer = replicate 64 7

-- a picture of one row, by its format, channels and columns: T_A8B8G8R8 (code 12), and T_R8 (code 0), which has one channel
abbrev picture : ℕ → ℕ → ℕ → PixelSetting
picture format channels width = record { format = format; width = width; height = 1; channels = channels; precision = 0; offset = 0; start = 0; line = 32 }

abbrev colours : ℕ → PixelSetting
colours width = picture 12 4 width

abbrev grey : PixelSetting
grey = picture 0 1 1

-- one pixel; (d - 128) * 3 over 2 makes its components 3, -3, 191 (190.5 to the nearest) and -192, of which the last two are held to 127 and -128
abbrev pixel : List ℕ
pixel = 130 ∷ 126 ∷ 255 ∷ 0 ∷ []

abbrev by_shift : ℕ → Conversion
by_shift shift = record { offset = pos 128; scale = pos 3; shift = shift }

-- all of a region of one column
abbrev read_all : ℕ → ℕ → Call
read_all n id = read n id (box 0 0 0 4 1 1) (ones 4)

unfoldable pub calls : List Call
calls =
    -- region 0 is column 1, of owner 11; region 1 is column 0, of owner 12
    place 0 11 (rectangle 1 0 1 1)
    ∷ place 1 12 (rectangle 0 0 1 1)
    -- refused: one channel, a shift past 31, one byte of the pixel too few, another's region, a picture of two columns
    ∷ paint 0 11 grey pixel (by_shift 1)
    ∷ paint 0 11 (colours 1) pixel (by_shift 32)
    ∷ paint 0 11 (colours 1) (130 ∷ 126 ∷ 255 ∷ []) (by_shift 1)
    ∷ paint 0 12 (colours 1) pixel (by_shift 1)
    ∷ paint 0 11 (colours 2) (pixel ++ pixel) (by_shift 1)
    -- region 0 is painted; it is read, and the other, which stays
    ∷ paint 0 11 (colours 1) pixel (by_shift 1)
    ∷ read_all 0 11
    ∷ read_all 1 12
    -- its channel 1 becomes 9
    ∷ edit 0 11 (box 1 0 0 1 1 1) (pos 9 ∷ [])
    ∷ read_all 0 11
    -- it is released; refused: it is released
    ∷ release 0 11
    ∷ paint 0 11 (colours 1) pixel (by_shift 1)
    -- owner 13 on that room reads zeros, and paints it
    ∷ place 0 13 (rectangle 1 0 1 1)
    ∷ read_all 0 13
    ∷ paint 0 13 (colours 1) pixel (by_shift 1)
    ∷ read_all 0 13
    ∷ []

-- what the program shows of them
abbrev pub shown_of : List Shown
shown_of = program (beginning layout tensor buffer).state calls
