-- How many components of a picture are held at a limit of the precision that they are converted to (change request K5). Assumes nothing.
use Rattle.std.specs.Prelude.{ℕ, zero, suc, ◌+◌, cond, List, ℤ}
use Rattle.pixels.specs.declared.PixelSetting.{PixelSetting}
use Rattle.quantize.specs.Quantize.{limited}
use Rattle.parlour.specs.declared.Conversion.{Conversion}
use Rattle.parlour.specs.Components.{component}

-- f 0 + f 1 + .. + f (n - 1)
unfoldable pub total : (ℕ → ℕ) → ℕ → ℕ
total f zero = 0
total f (suc n) = total f n + f n

-- 1 for a component that is held, else 0
unfoldable pub held_one : Conversion → (precision : ℕ) → ℤ → ℕ
held_one k precision d = cond (limited d k.offset k.scale k.shift precision) 1 0

-- the held components of pixel (x, y), of row y, and of the picture
unfoldable pub pixel_held : PixelSetting → List ℕ → Conversion → (precision x y : ℕ) → ℕ
pixel_held image pixels k precision x y = total (λ (n : ℕ). held_one k precision (component image pixels n x y)) image.channels

unfoldable pub row_held : PixelSetting → List ℕ → Conversion → (precision y : ℕ) → ℕ
row_held image pixels k precision y = total (λ (x : ℕ). pixel_held image pixels k precision x y) image.width

unfoldable pub held_count : PixelSetting → List ℕ → Conversion → (precision : ℕ) → ℕ
held_count image pixels k precision = total (row_held image pixels k precision) image.height
