-- Which pixel settings are valid, the order of the checks, and where a pixel begins (scope paper, "Pixels", "Refusal numbers"). All numbers are
-- whole numbers: nothing wraps. Assumes nothing.
use Rattle.std.specs.Prelude.{ℕ, ◌+◌, ◌*◌, ◌%◌, Bool, ◌&&◌, List, [], ◌∷◌, ◌++◌, leb, ltb, eqb}
use Rattle.refusal.specs.declared.Refusal.TheVariants.{Size, PixelFormat as FormatCode, PixelKind, XOffset, PixelStrides, PixelOutside}
use Rattle.refusal.specs.Checks.{require, in_order, quantity, Answer, Quantity}
use Rattle.refusal.specs.Sizes.{size_valid}
use Rattle.pixels.specs.declared.PixelSetting.{PixelSetting}
use Rattle.pixels.specs.Formats.{format_of}

-- bytes a pixel
abbrev pub pixel_bytes : PixelSetting → ℕ
pixel_bytes q = (format_of q.format).bytes

-- channels and precision are the format's
unfoldable pub kind_valid : PixelSetting → Bool
kind_valid q = eqb q.channels (format_of q.format).channels && eqb q.precision (format_of q.format).precision

-- start and line are multiples of 32, and a line holds its pixels
unfoldable pub strides_valid : PixelSetting → Bool
strides_valid q = eqb (q.start % 32) 0 && eqb (q.line % 32) 0 && leb ((q.offset + q.width) * pixel_bytes q) q.line

-- 19, 1, 20, 21, 22
unfoldable pub setting_checks : PixelSetting → List Answer
setting_checks q =
    require FormatCode (leb q.format 16)
    ∷ require Size (size_valid 8192 q.width && size_valid 8192 q.height)
    ∷ require PixelKind (kind_valid q)
    ∷ require XOffset (leb q.offset (format_of q.format).offsets)
    ∷ require PixelStrides (strides_valid q)
    ∷ []

unfoldable pub setting_answer : PixelSetting → Answer
setting_answer q = in_order (setting_checks q)

-- the byte at which pixel (x, y) begins
unfoldable pub pixel_position : PixelSetting → ℕ → ℕ → ℕ
pixel_position q x y = q.start + y * q.line + (x + q.offset) * pixel_bytes q

-- 19, 1, 20, 21, 22, 23
unfoldable pub position_quantity : PixelSetting → ℕ → ℕ → Quantity
position_quantity q x y = quantity (in_order (setting_checks q ++ (require PixelOutside (ltb x q.width && ltb y q.height) ∷ []))) (pixel_position q x y)
