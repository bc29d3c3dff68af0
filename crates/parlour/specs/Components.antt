-- The components of a picture's pixels, from the bytes of its buffer, and the elements that they become (change request K3; scope paper, "Pixels",
-- "Conversion"). A pixel's components are numbered from the lowest address. Assumes nothing.
use Rattle.std.specs.Prelude.{ℕ, ◌+◌, ◌*◌, ◌/◌, ◌%◌, ◌^◌, cond, List, eqb, ℤ, pos}
use Rattle.elements.specs.Bytes.{word_at, signed}
use Rattle.layout.specs.declared.ElementBox.{ElementBox}
use Rattle.layout.specs.Contents.{elements_by}
use Rattle.pixels.specs.declared.PixelSetting.{PixelSetting}
use Rattle.pixels.specs.Formats.{format_of}
use Rattle.pixels.specs.Settings.{pixel_position}
use Rattle.quantize.specs.Quantize.{quantized}
use Rattle.parlour.specs.declared.Conversion.{Conversion}

-- bytes a component, by the format code: a pixel's bytes over its channels
unfoldable pub component_bytes : ℕ → ℕ
component_bytes code = (format_of code).bytes / (format_of code).channels

-- the number that a component's bytes, read as an unsigned one, are: T_R10 (code 1) and T_R12 (2) have its low 10 or 12 bits, T_R16_I (4) is signed, every
-- other format has it as it is
unfoldable pub component_value : ℕ → ℕ → ℤ
component_value code n = cond (eqb code 1) (pos (n % 2 ^ 10)) (cond (eqb code 2) (pos (n % 2 ^ 12)) (cond (eqb code 4) (signed 2 n) (pos n)))

-- the component whose bytes begin at p, low byte first
unfoldable pub component_at : ℕ → List ℕ → ℕ → ℤ
component_at code pixels p = component_value code (word_at (component_bytes code) pixels p)

-- component n of pixel (x, y)
unfoldable pub component : PixelSetting → List ℕ → (n x y : ℕ) → ℤ
component image pixels n x y = component_at image.format pixels (pixel_position image x y + n * component_bytes image.format)

-- a component converted to a precision
abbrev pub converted : Conversion → ℕ → ℤ → ℤ
converted k precision d = quantized d k.offset k.scale k.shift precision

-- a picture as a box of elements, counted from its corner
abbrev pub image_box : PixelSetting → ElementBox
image_box image = record { channel = 0; row = 0; column = 0; channels = image.channels; rows = image.height; columns = image.width }

-- its components converted, in raw order: component n of pixel (x, y) is the element of channel n, row y and column x
unfoldable pub painted_elements : PixelSetting → List ℕ → Conversion → ℕ → List ℤ
painted_elements image pixels k precision = elements_by (image_box image) (λ (n y x : ℕ). converted k precision (component image pixels n x y))
