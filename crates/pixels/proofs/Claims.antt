-- The claims about pixel images, of the calls themselves (scope paper, "Pixels"): a setting is accepted exactly if it meets the paper's rules; a position is
-- given exactly of the pixels of an accepted image, and is the paper's; a pixel that is given lies inside its line, and shares no byte with
-- another. The words are those of specs/Places.antt. Assumes nothing.
use Prim.Native.Nat.{ℕ, ◌+◌, ◌*◌, ◌≤◌, ◌<◌}
use mathlib.Core.Path.{◌≡◌}
use mathlib.Core.Logic.{◌↔◌}
use Rattle.std.specs.Prelude.{Ok}
use Rattle.refusal.specs.Checks.{Accepted}
use Rattle.pixels.specs.declared.PixelSetting.{PixelSetting}
use Rattle.pixels.specs.Settings.{pixel_bytes, setting_answer, pixel_position, position_quantity}
use Rattle.pixels.specs.Places.{ValidSetting, InImage}
use Rattle.pixels.proofs.Valid.{valid, valid-accepted}
use Rattle.pixels.proofs.PixelLaws as pixel

pub setting-exactly : (q : PixelSetting) → (setting_answer q ≡ Accepted) ↔ ValidSetting q
setting-exactly q = (valid q, valid-accepted q)

pub pixel-exactly : (q : PixelSetting) (x y p : ℕ) → (position_quantity q x y ≡ Ok p) ↔ ((setting_answer q ≡ Accepted) × InImage q x y × (p ≡ pixel_position q x y))
pixel-exactly = pixel.pixel-exactly

pub pixel-in-line : (q : PixelSetting) (x y p : ℕ) → position_quantity q x y ≡ Ok p → (q.start + y * q.line ≤ p) × (p + pixel_bytes q ≤ q.start + (y + 1) * q.line)
pixel-in-line = pixel.pixel-in-line

pub pixel-own : (q : PixelSetting) (x y p b x' y' p' b' : ℕ) → position_quantity q x y ≡ Ok p → position_quantity q x' y' ≡ Ok p'
    → b < pixel_bytes q → b' < pixel_bytes q → p + b ≡ p' + b' → (x ≡ x') × (y ≡ y') × (b ≡ b')
pixel-own = pixel.pixel-own
