-- The checks of a setting, 19, 1, 20, 21, 22, and 23 of a pixel. Assumes nothing.
--     check-valid                            a setting whose checks hold
--     position-refused, position-is          a pixel of a refused setting, and one inside the image
--     position-given                         what a position given tells
use Prim.Native.Nat.{ℕ, ◌≤◌, ◌<◌}
use mathlib.Core.Path.{◌≡◌, sym, ◌∙◌}
use mathlib.Core.Bool.{true}
use mathlib.Core.List.{[], ◌∷◌}
use lib.Dec.{ltb}
use borrow.Author.Tests.{lt-ltb, le-leb, ltb-true}
use Rattle.general.proofs.TestLaws.{and-all}
use Rattle.std.specs.Prelude.{Ok, Err}
use Rattle.refusal.specs.declared.Fault.{Fault}
use Rattle.refusal.specs.declared.Refusal.TheVariants.{PixelOutside}
use Rattle.refusal.specs.Checks.{in_order, require_at, Accepted}
use Rattle.refusal.specs.Sizes.{size_valid}
use Rattle.refusal.proofs.CheckLaws.{Held, in_order-all, require_at-held, in_order-nil, in_order-next, in_order-passed, in_order-refused, in_order-front, in_order-back, given-accepted, given-refused, given-ok}
use Rattle.pixels.specs.declared.PixelSetting.{PixelSetting}
use Rattle.pixels.specs.Formats.{format_of}
use Rattle.pixels.specs.Places.{InImage}
use Rattle.pixels.specs.Settings.{kind_valid, strides_valid, setting_checks, setting_answer, pixel_position, position_quantity}

-- ---- every check of a setting held
pub check-valid : (q : PixelSetting) → q.format ≤ 16 → size_valid 8192 q.width ≡ true → size_valid 8192 q.height ≡ true → kind_valid q ≡ true
    → q.offset ≤ (format_of q.format).offsets → strides_valid q ≡ true → Accepted ≡ setting_answer q
unfolding setting_answer setting_checks in_order require_at
check-valid q known wide high kind shifted e =
    rw (le-leb q.format 16 known, wide, high, kind, le-leb q.offset (format_of q.format).offsets shifted, e)

-- ---- check 23, and the position

module _ (q : PixelSetting) (x y : ℕ) where
  pub position-refused : {f : Fault} → setting_answer q ≡ Err f → Err f ≡ position_quantity q x y
  unfolding position_quantity setting_answer
  position-refused e = sym (given-refused _ (in_order-refused (setting_checks q) _ e))

  module _ (ok : setting_answer q ≡ Accepted) where
    pub position-is : x < q.width → y < q.height → Ok (pixel_position q x y) ≡ position_quantity q x y
    unfolding position_quantity setting_answer
    position-is inside h =
        sym
        (given-accepted _
        (in_order-passed (setting_checks q) _ ok
        ∙ in_order-next 0 PixelOutside _ (rw (lt-ltb x q.width inside, lt-ltb y q.height h))
        ∙ in_order-nil))

  -- a position is given only of a pixel of an accepted image
  pub position-given : (p : ℕ) → position_quantity q x y ≡ Ok p → (setting_answer q ≡ Accepted) × InImage q x y × (p ≡ pixel_position q x y)
  unfolding position_quantity setting_answer Held
  position-given p e =
      let g = given-ok _ (pixel_position q x y) p e in
      let held = in_order-all _ (in_order-back (setting_checks q) _ g.0) in
      let inside = and-all (ltb x q.width) (ltb y q.height ∷ []) (require_at-held _ _ _ held.0) in (
        in_order-front (setting_checks q) _ g.0,
        record { x_lt = ltb-true x q.width inside.0; y_lt = ltb-true y q.height inside.1 },
        sym g.1,
      )
