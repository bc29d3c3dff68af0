-- Where a pixel lies: inside its line, with bytes of its own, at a position within 64 bits. A line holds the pixels up to its last one, so line,
-- pixel and byte are the digits of a position. Assumes nothing.
--     line-le-position, position-le-line     a pixel lies inside its line
--     position-own                           pixel and byte from a position
--     position_lt                            below 2 ^ 46
use Prim.Native.Nat.{ℕ, suc, ◌+◌, ◌*◌, ◌/◌, ◌%◌, ◌^◌, ◌≤◌, ◌<◌}
use native.Mathlib.Nat.{suc-mul, add-mul, mul-le-mul, mul-le-mul_right}
use native.Mathlib.Omega.{arith}
use mathlib.Core.Path.{◌≡◌, sym, ap, ◌∙◌}
use lib.Arith.{digits_div, digits_mod}
use Rattle.pixels.specs.declared.PixelSetting.{PixelSetting}
use Rattle.pixels.specs.Settings.{pixel_bytes, pixel_position}
use Rattle.pixels.specs.Places.{ValidSetting}

-- quotient and remainder from q * m + r
digits-own : (a a' : ℕ) {m r r' : ℕ} → r < m → r' < m → a * m + r ≡ a' * m + r' → (a ≡ a') × (r ≡ r')
digits-own a a' {m} h h' e =
    (sym (digits_div a h) ∙ ap (λ (n : ℕ). n / m) e ∙ digits_div a' h', sym (digits_mod a h) ∙ ap (λ (n : ℕ). n % m) e ∙ digits_mod a' h')

module _ (q : PixelSetting) (ok : ValidSetting q) where
  -- from its line's start on, the byte after a pixel, and each byte of it
  pixel-end : (x : ℕ) → x < q.width → (x + q.offset) * pixel_bytes q + pixel_bytes q ≤ q.line
  pixel-end x h =
      omega (
        arith,
        ok.room,
        suc-mul (x + q.offset) (pixel_bytes q),
        mul-le-mul_right {m = suc (x + q.offset)} {n = q.offset + q.width} (pixel_bytes q) (omega arith),
      )

  row_lt : (x b : ℕ) → x < q.width → b < pixel_bytes q → (x + q.offset) * pixel_bytes q + b < q.line
  row_lt x b h k = omega (arith, pixel-end x h)

  pub line-le-position : (x y : ℕ) → q.start + y * q.line ≤ pixel_position q x y
  unfolding pixel_position
  line-le-position x y = omega arith

  pub position-le-line : (x y : ℕ) → x < q.width → pixel_position q x y + pixel_bytes q ≤ q.start + (y + 1) * q.line
  unfolding pixel_position
  position-le-line x y h = omega (arith, pixel-end x h, add-mul y 1 q.line)

  pub position-own : (x y b x' y' b' : ℕ) → x < q.width → x' < q.width → b < pixel_bytes q → b' < pixel_bytes q
      → pixel_position q x y + b ≡ pixel_position q x' y' + b' → (x ≡ x') × (y ≡ y') × (b ≡ b')
  unfolding pixel_position
  position-own x y b x' y' b' h h' k k' e =
      let rows = digits-own y y' (row_lt x b h k) (row_lt x' b' h' k') (omega arith) in
      let columns = digits-own (x + q.offset) (x' + q.offset) k k' rows.1 in
      (omega (arith, columns.0), rows.0, columns.1)

  pub position_lt : (x y : ℕ) → x < q.width → y < q.height → q.line < 2 ^ 32 → q.start < 2 ^ 32 → pixel_position q x y < 2 ^ 46
  unfolding pixel_position
  position_lt x y h k l s =
      omega (arith, pixel-end x h, ok.height_le, mul-le-mul {n₁ = y} {m₁ = q.line} {n₂ = 8192} {m₂ = 2 ^ 32} (omega (arith, ok.height_le)) (omega arith))
