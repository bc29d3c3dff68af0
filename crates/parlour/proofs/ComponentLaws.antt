-- Where components lie: a pixel's fill it one behind another, and pixels side by side lie in the picture's bytes. Assumes nothing.
--     Parts, parts           the components of a format
--     strip-end              pixels side by side end by the picture's end
--     pixel-step             component n of a pixel further on
use Prim.Native.Nat.{ℕ, ◌+◌, ◌-◌, ◌*◌, ◌/◌, ◌≤◌, ◌<◌}
use native.Mathlib.Omega.{arith}
use native.Mathlib.Nat.{mul-le-mul_right}
use mathlib.Core.Path.{◌≡◌, ap, subst}
use mathlib.Core.Bool.{Bool, true, cond, ◌&&◌}
use lib.Dec.{T, leb, ltb, eqb, leb→le, eqb→eq}
use borrow.Author.Tests.{lt-ltb}
use mir.Facts.{and_yes}
use Rattle.pixels.specs.declared.PixelFormat.{PixelFormat}
use Rattle.pixels.specs.declared.PixelSetting.{PixelSetting}
use Rattle.pixels.specs.Formats.{format_table, format_of}
use Rattle.pixels.specs.Settings.{pixel_bytes, pixel_position}
use Rattle.pixels.proofs.FormatLaws.{every-format}
use Rattle.parlour.specs.Components.{component_bytes}
use Rattle.parlour.specs.Rules.{image_end}

-- ---- the components of a format

-- one or two bytes each, at most four, and together the pixel's
pub record Parts (code : ℕ) : Type 0 where
  pub some : 1 ≤ component_bytes code
  pub two : component_bytes code ≤ 2
  pub four : (format_of code).channels ≤ 4
  pub whole : (format_of code).channels * component_bytes code ≡ (format_of code).bytes

abbrev in_parts : PixelFormat → Bool
in_parts f = let e = f.bytes / f.channels in leb 1 e && leb e 2 && leb f.channels 4 && eqb (f.channels * e) f.bytes

-- of every format that has channels
in-parts : (code : ℕ) → 0 < (format_of code).channels → T (in_parts (format_of code))
unfolding format_table
in-parts code h =
    subst (λ (b : Bool). T (cond b (in_parts (format_of code)) true)) (lt-ltb 0 (format_of code).channels h)
    (every-format (λ (f : PixelFormat). cond (ltb 0 f.channels) (in_parts f) true) tt code)

pub parts : (code : ℕ) → 0 < (format_of code).channels → Parts code
unfolding component_bytes
parts code h =
    let f = format_of code in
    let e = f.bytes / f.channels in
    let a = and_yes (leb 1 e && leb e 2 && leb f.channels 4) (eqb (f.channels * e) f.bytes) (in-parts code h) in
    let b = and_yes (leb 1 e && leb e 2) (leb f.channels 4) a.0 in
    let d = and_yes (leb 1 e) (leb e 2) b.0 in
    record { some = leb→le 1 e d.0; two = leb→le e 2 d.1; four = leb→le f.channels 4 b.1; whole = eqb→eq (f.channels * e) f.bytes a.1 }

-- ---- pixels side by side
module _ (image : PixelSetting) where
  pub strip-end : (x y count : ℕ) → 1 ≤ count → x + count ≤ image.width → y < image.height → pixel_position image x y + pixel_bytes image * count ≤ image_end image
  unfolding pixel_position image_end
  strip-end x y count some wide high =
      omega (
        arith,
        mul-le-mul_right {m = x + image.offset + count} {n = image.width - 1 + image.offset + 1} (pixel_bytes image) (omega arith),
        mul-le-mul_right {m = y} {n = image.height - 1} image.line (omega arith),
      )

  pub pixel-step : (x y n i size channels : ℕ) → channels * size ≡ pixel_bytes image → pixel_position image (x + i) y + n * size ≡ pixel_position image x y + n * size + channels * size * i
  unfolding pixel_position
  pixel-step x y n i size channels whole = omega (arith, ap (λ (b : ℕ). b * i) whole)
