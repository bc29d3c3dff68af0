-- What a position that was given comes to: the setting was accepted, the pixel is one of the image's, and its position is the paper's. Assumes nothing.
--     pixel-exactly      a position is given exactly of the pixels of an accepted image
--     pixel-in-line      it lies inside its line
--     pixel-own          it shares no byte with another
use Prim.Native.Nat.{ℕ, ◌+◌, ◌*◌, ◌≤◌, ◌<◌}
use mathlib.Core.Path.{◌≡◌, sym, ap, subst⁻¹, ◌∙◌}
use mathlib.Core.Logic.{◌↔◌}
use Rattle.std.specs.Prelude.{Ok}
use Rattle.refusal.specs.Checks.{Accepted}
use Rattle.pixels.specs.declared.PixelSetting.{PixelSetting}
use Rattle.pixels.specs.Settings.{pixel_bytes, setting_answer, pixel_position, position_quantity}
use Rattle.pixels.specs.Places.{InImage}
use Rattle.pixels.proofs.SettingLaws.{position-is, position-given}
use Rattle.pixels.proofs.Valid.{valid}
use Rattle.pixels.proofs.PositionLaws.{line-le-position, position-le-line, position-own}

module _ (q : PixelSetting) where
  pub pixel-exactly : (x y p : ℕ) → (position_quantity q x y ≡ Ok p) ↔ ((setting_answer q ≡ Accepted) × InImage q x y × (p ≡ pixel_position q x y))
  pixel-exactly x y p = (position-given q x y p, λ t. sym (position-is q x y t.0 t.1.x_lt t.1.y_lt) ∙ sym (ap Ok t.2))

  pub pixel-in-line : (x y p : ℕ) → position_quantity q x y ≡ Ok p → (q.start + y * q.line ≤ p) × (p + pixel_bytes q ≤ q.start + (y + 1) * q.line)
  pixel-in-line x y p e =
      let t = position-given q x y p e in
      let ok = valid q t.0 in (
        subst⁻¹ (λ (n : ℕ). q.start + y * q.line ≤ n) t.2 (line-le-position q ok x y),
        subst⁻¹ (λ (n : ℕ). n + pixel_bytes q ≤ q.start + (y + 1) * q.line) t.2 (position-le-line q ok x y t.1.x_lt),
      )

  pub pixel-own : (x y p b x' y' p' b' : ℕ) → position_quantity q x y ≡ Ok p → position_quantity q x' y' ≡ Ok p'
      → b < pixel_bytes q → b' < pixel_bytes q → p + b ≡ p' + b' → (x ≡ x') × (y ≡ y') × (b ≡ b')
  pixel-own x y p b x' y' p' b' e e' h h' same =
      let t = position-given q x y p e in
      let t' = position-given q x' y' p' e' in
      position-own q (valid q t.0) x y b x' y' b' t.1.x_lt t'.1.x_lt h h'
      (ap (λ (n : ℕ). n + b) (sym t.2) ∙ same ∙ ap (λ (n : ℕ). n + b') t'.2)
