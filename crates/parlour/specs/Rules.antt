-- The checks of painting a region, in their order (change request K3). Assumes nothing.
use Rattle.std.specs.Prelude.{ℕ, ◌+◌, ◌-◌, Bool, not, ◌&&◌, List, ◌∷◌, [], ◌++◌, leb, eqb}
use Rattle.refusal.specs.declared.Refusal.TheVariants.{Bounds, ImageKind, PixelLength}
use Rattle.refusal.specs.Checks.{require, Answer}
use Rattle.layout.specs.declared.CubeLayout.{CubeLayout}
use Rattle.layout.specs.Rules.{room_checks}
use Rattle.pixels.specs.declared.PixelSetting.{PixelSetting}
use Rattle.pixels.specs.Formats.{format_of}
use Rattle.pixels.specs.Settings.{pixel_bytes, setting_checks, pixel_position}
use Rattle.quantize.specs.Quantize.{quantize_checks}
use Rattle.regions.specs.declared.Rectangle.{Rectangle}
use Rattle.regions.specs.Rules.{Access, rectangle_named, whole_region, region_box_checks}

-- the format is not fp16, and the channels are the cube's
unfoldable pub kind_taken : CubeLayout → PixelSetting → Bool
kind_taken q image = not (eqb (format_of image.format).precision 2) && eqb image.channels q.channels

-- the byte behind the last pixel
unfoldable pub image_end : PixelSetting → ℕ
image_end image = pixel_position image (image.width - 1) (image.height - 1) + pixel_bytes image

-- the picture is as wide and as high as the rectangle
unfoldable pub fills_rectangle : PixelSetting → Rectangle → Bool
fills_rectangle image g = eqb image.width g.columns && eqb image.height g.rows

-- the picture, for a cube and a pixel buffer of `given` bytes: 19, 1, 20, 21, 22, then 29, then 2, 16, then 30
unfoldable pub picture_checks : CubeLayout → PixelSetting → (shift given : ℕ) → List Answer
picture_checks q image shift given =
    setting_checks image
    ++ (require ImageKind (kind_taken q image)
    ∷ (quantize_checks q.precision shift
    ++ (require PixelLength (leb (image_end image) given)
    ∷ [])))

-- the region, for a picture and a buffer of `len` bytes: 1 to 4, 8, 25, 9 of all of it, 9 for a picture of another size, 5
unfoldable pub target_checks : Access → PixelSetting → (len : ℕ) → List Answer
target_checks a image len = region_box_checks a (whole_region a) ++ (require Bounds (fills_rectangle image (rectangle_named a)) ∷ room_checks a.layout len)

-- paint: those of the picture, then those of the region
unfoldable pub paint_checks : Access → PixelSetting → (shift given len : ℕ) → List Answer
paint_checks a image shift given len = picture_checks a.layout image shift given ++ target_checks a image len
