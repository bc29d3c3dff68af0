-- `pixels_calls::pixel_start` meets its contract: its sum is the definition's, below 2 ^ 46. Assumes nothing.
use Prim.Native.Nat.{ℕ, ◌+◌, ◌*◌, ◌^◌, ◌<◌}
use native.Mathlib.Omega.{arith}
use mathlib.Core.Path.{◌≡◌, ap, subst⁻¹}
use Rattle.pixels.specs.declared.PixelFormat.{PixelFormat}
use Rattle.refusal.specs.Checks.{Accepted}
use Rattle.pixels.specs.declared.PixelSetting.{PixelSetting}
use Rattle.pixels.specs.Formats.{format_of}
use Rattle.pixels.specs.Settings.{setting_answer, pixel_position}
use Rattle.pixels.proofs.Valid.{valid}
use Rattle.pixels.proofs.PositionLaws.{position_lt}
use Rattle.pixels_calls.proofs.pixel_start.Goals as goal

-- the sum, by a format that is the setting's, is the definition's and below 2 ^ 46
sum_is : (q : PixelSetting) (x y : ℕ) (f : PixelFormat) → f ≡ format_of q.format → q.start + y * q.line + (x + q.offset) * f.bytes ≡ pixel_position q x y
unfolding pixel_position
sum_is q x y f e = ap (λ (f : PixelFormat). q.start + y * q.line + (x + q.offset) * f.bytes) e

sum_lt : (q : PixelSetting) (x y : ℕ) (f : PixelFormat)
    → f ≡ format_of q.format → setting_answer q ≡ Accepted → x < q.width → y < q.height → q.line < 2 ^ 32 → q.start < 2 ^ 32
    → q.start + y * q.line + (x + q.offset) * f.bytes < 2 ^ 46
sum_lt q x y f e v hx hy l s = subst⁻¹ (λ (n : ℕ). n < 2 ^ 46) (sum_is q x y f e) (position_lt q (valid q v) x y hx hy l s)

pub overflow_mul-result : goal.overflow_mul-result
overflow_mul-result c = omega (arith, sum_lt c.args.image c.args.x c.args.y c.format-format.result c.format-format.ensures c.requires.0 c.requires.1 c.requires.2 (omega arith) (omega arith))

pub overflow_add-result-2 : goal.overflow_add-result-2
overflow_add-result-2 c = omega (arith, sum_lt c.args.image c.args.x c.args.y c.format-format.result c.format-format.ensures c.requires.0 c.requires.1 c.requires.2 (omega arith) (omega arith))

pub returns : goal.returns
returns c = sum_is c.args.image c.args.x c.args.y c.format-format.result c.format-format.ensures
