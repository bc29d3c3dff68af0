-- Pixel settings and positions, computed; of two faults at once the earlier in the order is told (scope paper, "Pixels"; "Refusal numbers":
-- "Orders"). Assumes nothing.
use Prim.Native.Nat.{ℕ}
use mathlib.Core.Path.{◌≡◌, refl}
use mathlib.Core.List.{[], ◌∷◌, map}
use Rattle.refusal.specs.declared.Refusal.TheVariants.{PixelStrides, PixelOutside}
use Rattle.std.specs.Prelude.{Ok, Err}
use Rattle.refusal.specs.Codes.{answer_code, answer_of}
use Rattle.refusal.specs.Checks.{require_at, in_order, given, refused_at}
use Rattle.refusal.specs.Sizes.{size_valid}
use Rattle.pixels.specs.declared.PixelSetting.{PixelSetting}
use Rattle.pixels.specs.Formats.{format_table, format_in, format_of}
use Rattle.pixels.specs.Settings.{kind_valid, strides_valid, setting_checks, setting_answer, pixel_position, position_quantity}

-- format, width, height, channels, precision, X offset, start, line
abbrev image : ℕ → ℕ → ℕ → ℕ → ℕ → ℕ → ℕ → ℕ → PixelSetting
image format width height channels precision offset start line =
    record {
      format = format;
      width = width;
      height = height;
      channels = channels;
      precision = precision;
      offset = offset;
      start = start;
      line = line;
    }

abbrev answer : PixelSetting → ℕ
answer q = answer_code (setting_answer q)

-- the answer to a position asked of pixel (9, 9), which is outside
abbrev outside : PixelSetting → ℕ
outside q = answer_code (answer_of (position_quantity q 9 9))

pub record Computed : Type 0 where
  -- T_R8 is valid; a line holds its pixels exactly
  pub accepted : map answer (image 0 3 2 1 0 31 64 64 ∷ image 0 33 1 1 0 31 0 64 ∷ image 8 4 2 4 2 0 0 32 ∷ image 16 1 1 4 0 7 0 32 ∷ []) ≡ 0 ∷ 0 ∷ 0 ∷ 0 ∷ []
  -- one fault each: 19; width, height; channels, precision; X offset; start, line, a line one pixel short
  pub single : map answer (image 17 3 2 1 0 31 64 64 ∷ image 0 0 2 1 0 31 64 64 ∷ image 0 3 8193 1 0 31 64 64 ∷ image 0 3 2 2 0 31 64 64 ∷ image 0 3 2 1 1 31 64 64 ∷ image 0 3 2 1 0 32 64 64 ∷ image 0 3 2 1 0 31 16 64 ∷ image 0 3 2 1 0 31 64 48 ∷ image 0 34 2 1 0 31 64 64 ∷ [])
      ≡ 19 ∷ 1 ∷ 1 ∷ 20 ∷ 20 ∷ 21 ∷ 22 ∷ 22 ∷ 22 ∷ []
  -- two at once: 19 and 1, 1 and 20, 20 and 21, 21 and 22
  pub double : map answer (image 17 0 2 1 0 31 64 64 ∷ image 0 0 2 2 0 31 64 64 ∷ image 0 3 2 2 0 32 64 64 ∷ image 0 3 2 1 0 32 16 64 ∷ []) ≡ 19 ∷ 1 ∷ 20 ∷ 21 ∷ []
  -- of the codes 0 to 16 the floats are fp16, 5, 8 and 11, and no other
  pub precisions : map (λ (code : ℕ). (format_of code).precision) (0 ∷ 1 ∷ 2 ∷ 3 ∷ 4 ∷ 5 ∷ 6 ∷ 7 ∷ 8 ∷ 9 ∷ 10 ∷ 11 ∷ 12 ∷ 13 ∷ 14 ∷ 15 ∷ 16 ∷ [])
      ≡ 0 ∷ 1 ∷ 1 ∷ 1 ∷ 1 ∷ 2 ∷ 1 ∷ 1 ∷ 2 ∷ 1 ∷ 1 ∷ 2 ∷ 0 ∷ 0 ∷ 0 ∷ 0 ∷ 0 ∷ []
  -- code 8 with int16; code 5 with int16, with fp16; code 4 with int16, with fp16
  pub rows : map answer (image 8 4 2 4 1 0 0 32 ∷ image 5 4 2 1 1 0 0 32 ∷ image 5 4 2 1 2 0 0 32 ∷ image 4 4 2 1 1 0 0 32 ∷ image 4 4 2 1 2 0 0 32 ∷ []) ≡ 20 ∷ 20 ∷ 0 ∷ 0 ∷ 20 ∷ []
  -- code 5 else: 32 pixels of 2 bytes fill a line of 64, 33 do not; one channel; X offsets to 15; int16 is told before X offset 16
  pub float : map answer (image 5 17 2 1 2 15 0 64 ∷ image 5 18 2 1 2 15 0 64 ∷ image 5 17 2 4 2 15 0 64 ∷ image 5 16 2 1 2 16 0 64 ∷ image 5 16 2 1 1 16 0 64 ∷ []) ≡ 0 ∷ 22 ∷ 20 ∷ 21 ∷ 20 ∷ []
  -- pixel (2, 1) of T_A8B8G8R8 with X offset 3: 64 + 96 + 5 · 4; the offset is counted in pixels
  pub position : position_quantity (image 12 3 2 4 0 3 64 96) 2 1 ≡ Ok 180
  -- a pixel outside, by its column and by its row; a position, two at once: 19 and 1, 1 and 20, 20 and 21, 21 and 22, 22 and 23
  pub column : position_quantity (image 12 3 2 4 0 3 64 96) 3 1 ≡ Err (refused_at 0 PixelOutside)
  pub row : position_quantity (image 12 3 2 4 0 3 64 96) 2 2 ≡ Err (refused_at 0 PixelOutside)
  pub strides : position_quantity (image 12 3 2 4 0 3 16 96) 3 1 ≡ Err (refused_at 0 PixelStrides)
  pub position_double : map outside (image 17 0 2 1 0 31 64 64 ∷ image 0 0 2 2 0 31 64 64 ∷ image 0 3 2 2 0 32 64 64 ∷ image 0 3 2 1 0 32 16 64 ∷ image 0 3 2 1 0 31 16 64 ∷ []) ≡ 19 ∷ 1 ∷ 20 ∷ 21 ∷ 22 ∷ []

pub computed : Computed
unfolding require_at in_order given size_valid format_table format_in format_of kind_valid strides_valid setting_checks setting_answer pixel_position position_quantity
computed =
    record { accepted = refl; single = refl; double = refl; precisions = refl; rows = refl; float = refl; position = refl; column = refl; row = refl; strides = refl; position_double = refl }
