-- What the private functions of this crate find and leave. Their contracts cite these; no public promise rests on them. Assumes nothing.
use Rattle.std.specs.Prelude.{ℕ, ◌+◌, ◌-◌, ◌*◌, ◌<◌, ◌≡◌, false, List, length, get_or, ℤ, pos, Result}
use Rattle.refusal.specs.Checks.{in_order, given, Accepted}
use Rattle.refusal.specs.declared.Fault.{Fault}
use Rattle.layout.specs.declared.CubeLayout.{CubeLayout}
use Rattle.layout.specs.declared.ElementBox.{ElementBox}
use Rattle.layout.specs.Contents.{edited, elements_by}
use Rattle.layout.specs.Calls.{clear_box_answer}
use Rattle.pixels.specs.declared.PixelSetting.{PixelSetting}
use Rattle.quantize.specs.declared.Converted.{Converted}
use Rattle.quantize.specs.Quantize.{conversion}
use Rattle.regions.specs.Rules.{Access, region_box, whole_region}
use Rattle.parlour.specs.declared.Conversion.{Conversion}
use Rattle.parlour.specs.Components.{component_at, component, converted}
use Rattle.parlour.specs.Counts.{total, held_one, pixel_held}
use Rattle.parlour.specs.Rules.{picture_checks, target_checks}

-- the box of the cube that is painted, or refused by 1 to 4, 8, 25, 9, 5
unfoldable pub target_found : Access → PixelSetting → (len : ℕ) → Result ElementBox Fault
target_found a image len = given (in_order (target_checks a image len)) (region_box a (whole_region a))

-- a number that is not held: what a list has past its end
abbrev pub unheld : Converted
unheld = record { value = pos 0; held = false }

-- a table that has for each byte what it is converted to, and whether it is held
abbrev pub Levels : Conversion → (precision : ℕ) → List Converted → Type 0
Levels k precision levels =
    (length levels ≡ 256) × ((n : ℕ) → n < 256 → get_or levels n unheld ≡ conversion (pos n) k.offset k.scale k.shift precision)

-- component i of those that begin `step` bytes apart, converted
unfoldable pub run_element : (code : ℕ) → Conversion → (precision : ℕ) → List ℕ → (at step i : ℕ) → ℤ
run_element code k precision pixels at step i = converted k precision (component_at code pixels (at + step * i))

-- component n of pixel i of those side by side from byte `at` on, converted
unfoldable pub strip_element : (code size channels : ℕ) → Conversion → (precision : ℕ) → List ℕ → (at n i : ℕ) → ℤ
strip_element code size channels k precision pixels at n i = run_element code k precision pixels (at + n * size) (channels * size) i

-- how many of a run's components are held, and of a strip's
unfoldable pub run_held : (code : ℕ) → Conversion → (precision : ℕ) → List ℕ → (at step count : ℕ) → ℕ
run_held code k precision pixels at step count = total (λ (i : ℕ). held_one k precision (component_at code pixels (at + step * i))) count

unfoldable pub strip_held : (code size channels : ℕ) → Conversion → (precision : ℕ) → List ℕ → (at count : ℕ) → ℕ
strip_held code size channels k precision pixels at count = total (λ (n : ℕ). run_held code k precision pixels (at + n * size) (channels * size) count) channels

-- how many components of `count` pixels from pixel (x, y) on are held
unfoldable pub pixels_held : PixelSetting → List ℕ → Conversion → (precision x y count : ℕ) → ℕ
pixels_held image pixels k precision x y count = total (λ (i : ℕ). pixel_held image pixels k precision (x + i) y) count

-- a picture that may be painted into a box of the cube: its checks pass, the buffer has room, and the sizes are the box's
pub record Paintable (q : CubeLayout) (box : ElementBox) (image : PixelSetting) (shift given len : ℕ) : Type 0 where
  pub picture : in_order (picture_checks q image shift given) ≡ Accepted
  pub room : clear_box_answer q box len ≡ Accepted
  pub channel : box.channel ≡ 0
  pub channels : box.channels ≡ image.channels
  pub rows : box.rows ≡ image.height
  pub columns : box.columns ≡ image.width

-- the element of the cube at (c, h, w) of a picture whose corner is that of a box
unfoldable pub painted_at : ElementBox → PixelSetting → List ℕ → Conversion → (precision c h w : ℕ) → ℤ
painted_at box image pixels k precision c h w = converted k precision (component image pixels c (w - box.column) (h - box.row))

-- row y of a box, and `count` of its columns from x on
abbrev pub row_of : ElementBox → (y : ℕ) → ElementBox
row_of box y = record { channel = box.channel; row = box.row + y; column = box.column; channels = box.channels; rows = 1; columns = box.columns }

abbrev pub strip_of : ElementBox → (x y count : ℕ) → ElementBox
strip_of box x y count = record { channel = box.channel; row = box.row + y; column = box.column + x; channels = box.channels; rows = 1; columns = count }

-- a part of the box painted
unfoldable pub part_painted : CubeLayout → (box part : ElementBox) → PixelSetting → List ℕ → Conversion → List ℕ → List ℕ
part_painted q box part image pixels k before = edited q part (elements_by part (painted_at box image pixels k q.precision)) before
