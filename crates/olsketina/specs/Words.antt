-- Settings as arrays of words (include/olsketina.h). Assumes nothing.
use Rattle.std.specs.Prelude.{ℕ, zero, suc, ◌+◌, List, get_or, set, ℤ}
use Rattle.layout.specs.declared.CubeLayout.{CubeLayout}
use Rattle.layout.specs.declared.ElementBox.{ElementBox}
use Rattle.layout.specs.Geometry.{layout_of}
use Rattle.weights.specs.declared.WeightLayout.{WeightLayout}
use Rattle.pixels.specs.declared.PixelSetting.{PixelSetting}
use Rattle.parlour.specs.declared.Conversion.{Conversion}

-- word i
abbrev pub word : List ℕ → ℕ → ℕ
word l i = get_or l i 0

-- n entries from `at` on written, entry i of those made of i and of what stood there (d past the end); every other entry stays, and the list its
-- length
unfoldable pub overwritten : {A : Type 0} → A → (ℕ → A → A) → ℕ → ℕ → List A → List A
overwritten d make at zero l = l
overwritten d make at (suc n) l = set (overwritten d make at n l) (at + n) (make n (get_or l (at + n) d))

-- width, height, channels, precision, line stride, surface stride, start, from word `at` on
abbrev pub layout_at : List ℕ → ℕ → CubeLayout
layout_at l at = layout_of (word l at) (word l (at + 1)) (word l (at + 2)) (word l (at + 3)) (word l (at + 4)) (word l (at + 5)) (word l (at + 6))

abbrev pub layout_from : List ℕ → CubeLayout
layout_from l = layout_at l 0

-- first channel, row and column, then how many of each
abbrev pub box_from : List ℕ → ElementBox
box_from l = record { channel = word l 0; row = word l 1; column = word l 2; channels = word l 3; rows = word l 4; columns = word l 5 }

-- kernels, channels, rows, columns, precision
abbrev pub weights_from : List ℕ → WeightLayout
weights_from l = record { kernels = word l 0; channels = word l 1; rows = word l 2; columns = word l 3; precision = word l 4 }

-- format code, width, height, channels, precision, X offset, start, line stride
abbrev pub image_from : List ℕ → PixelSetting
image_from l =
    record {
      format = word l 0;
      width = word l 1;
      height = word l 2;
      channels = word l 3;
      precision = word l 4;
      offset = word l 5;
      start = word l 6;
      line = word l 7;
    }

-- what every component is converted with; it passes by value
abbrev pub conversion_of : (offset scale : ℤ) (shift : ℕ) → Conversion
conversion_of offset scale shift = record { offset = offset; scale = scale; shift = shift }
