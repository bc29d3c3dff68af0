-- The words of the claims about pixel images (proofs/Claims.antt): settings and pixels, in the paper's bounds (scope paper, "Pixels"). Assumes nothing.
use Rattle.std.specs.Prelude.{ℕ, ◌+◌, ◌*◌, ◌%◌, ◌≤◌, ◌<◌, ◌≡◌}
use Rattle.pixels.specs.declared.PixelSetting.{PixelSetting}
use Rattle.pixels.specs.Formats.{format_of}
use Rattle.pixels.specs.Settings.{pixel_bytes}

-- a known code, sizes in range, the format's channels, precision and X offsets, and a line that holds its pixels
pub record ValidSetting (q : PixelSetting) : Type 0 where
  pub known : q.format ≤ 16
  pub width_pos : 1 ≤ q.width
  pub width_le : q.width ≤ 8192
  pub height_pos : 1 ≤ q.height
  pub height_le : q.height ≤ 8192
  pub channels_is : q.channels ≡ (format_of q.format).channels
  pub precision_is : q.precision ≡ (format_of q.format).precision
  pub offset_le : q.offset ≤ (format_of q.format).offsets
  pub start_whole : q.start % 32 ≡ 0
  pub line_whole : q.line % 32 ≡ 0
  pub room : (q.offset + q.width) * pixel_bytes q ≤ q.line

-- pixel (x, y) is one of the image's
pub record InImage (q : PixelSetting) (x y : ℕ) : Type 0 where
  pub x_lt : x < q.width
  pub y_lt : y < q.height
