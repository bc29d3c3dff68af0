-- The pixel formats, row by row as the scope paper's table prints them ("Pixels"), code 5 as change request K2 has it. A pixel's components are
-- numbered from the lowest address. Assumes nothing.
use Rattle.std.specs.Prelude.{ℕ, cond, ◌&&◌, List, [], ◌∷◌, leb}
use Rattle.pixels.specs.declared.PixelFormat.{PixelFormat}

-- a row of the table: its first and last code, and what its formats have
pub record Row : Type 0 where
  pub first : ℕ
  pub last : ℕ
  pub format : PixelFormat

abbrev pub row : ℕ → ℕ → ℕ → ℕ → ℕ → ℕ → Row
row first last channels bytes precision offsets =
    record { first = first; last = last; format = record { channels = channels; bytes = bytes; precision = precision; offsets = offsets } }

-- codes, channels, bytes, precision (0 int8, 1 int16, 2 fp16), last X offset
unfoldable pub format_table : List Row
format_table =
    -- T_R8
    row 0 0 1 1 0 31
    -- T_R10, T_R12, T_R16, T_R16_I
    ∷ row 1 4 1 2 1 15
    -- T_R16_F
    ∷ row 5 5 1 2 2 15
    -- T_A16B16G16R16, T_X16B16G16R16
    ∷ row 6 7 4 8 1 3
    -- T_A16B16G16R16_F
    ∷ row 8 8 4 8 2 3
    -- T_A16Y16U16V16, T_V16U16Y16A16
    ∷ row 9 10 4 8 1 3
    -- T_A16Y16U16V16_F
    ∷ row 11 11 4 8 2 3
    -- T_A8B8G8R8, T_A8R8G8B8, T_B8G8R8A8, T_R8G8B8A8, T_V8U8Y8A8
    ∷ row 12 16 4 4 0 7
    ∷ []

-- what a code past the table has
abbrev pub no_format : PixelFormat
no_format = record { channels = 0; bytes = 0; precision = 0; offsets = 0 }

-- the first row of a list that has the code
unfoldable pub format_in : List Row → ℕ → PixelFormat
format_in [] code = no_format
format_in (r ∷ rows) code = cond (leb r.first code && leb code r.last) r.format (format_in rows code)

-- the format of a code
unfoldable pub format_of : ℕ → PixelFormat
format_of code = format_in format_table code
