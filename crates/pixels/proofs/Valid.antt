-- What an accepted setting tells: each rule of the scope paper holds ("Pixels"), and nothing else is asked. Assumes nothing.
--     valid, valid-accepted     an accepted setting meets the rules; one that meets them is accepted
use Prim.Native.Nat.{◌+◌, ◌*◌, ◌%◌}
use mathlib.Core.Path.{◌≡◌, sym}
use mathlib.Core.Bool.{true}
use mathlib.Core.List.{[], ◌∷◌}
use lib.Dec.{leb, eqb}
use borrow.Author.Tests.{leb-true, eqb-true, le-leb, eq-eqb}
use Rattle.general.proofs.TestLaws.{and-all}
use Rattle.refusal.specs.Checks.{Accepted}
use Rattle.refusal.specs.Sizes.{size_valid}
use Rattle.refusal.proofs.CheckLaws.{Held, in_order-all, require_at-held}
use Rattle.refusal.proofs.SizeLaws.{size-pos, size-le, size-true}
use Rattle.pixels.specs.declared.PixelSetting.{PixelSetting}
use Rattle.pixels.specs.Formats.{format_of}
use Rattle.pixels.specs.Settings.{pixel_bytes, kind_valid, strides_valid, setting_checks, setting_answer}
use Rattle.pixels.specs.Places.{ValidSetting}
use Rattle.pixels.proofs.SettingLaws.{check-valid}

pub valid : (q : PixelSetting) → setting_answer q ≡ Accepted → ValidSetting q
unfolding setting_answer setting_checks kind_valid strides_valid Held
valid q e =
    let held = in_order-all _ e in
    let sizes = and-all (size_valid 8192 q.width) (size_valid 8192 q.height ∷ []) (require_at-held _ _ _ held.1.0) in
    let kind =
    and-all (eqb q.channels (format_of q.format).channels) (eqb q.precision (format_of q.format).precision ∷ []) (require_at-held _ _ _ held.1.1.0) in
    let strides =
    and-all (eqb (q.start % 32) 0)
    (eqb (q.line % 32) 0 ∷ leb ((q.offset + q.width) * pixel_bytes q) q.line ∷ [])
    (require_at-held _ _ _ held.1.1.1.1.0) in
    record {
      known = leb-true q.format 16 (require_at-held _ _ _ held.0);
      width_pos = size-pos 8192 q.width sizes.0;
      width_le = size-le 8192 q.width sizes.0;
      height_pos = size-pos 8192 q.height sizes.1;
      height_le = size-le 8192 q.height sizes.1;
      channels_is = eqb-true q.channels (format_of q.format).channels kind.0;
      precision_is = eqb-true q.precision (format_of q.format).precision kind.1;
      offset_le = leb-true q.offset (format_of q.format).offsets (require_at-held _ _ _ held.1.1.1.0);
      start_whole = eqb-true (q.start % 32) 0 strides.0;
      line_whole = eqb-true (q.line % 32) 0 strides.1.0;
      room = leb-true ((q.offset + q.width) * pixel_bytes q) q.line strides.1.1;
    }

-- ---- and back

module _ (q : PixelSetting) (t : ValidSetting q) where
  kind-true : kind_valid q ≡ true
  unfolding kind_valid
  kind-true =
      rw (eq-eqb q.channels (format_of q.format).channels t.channels_is, eq-eqb q.precision (format_of q.format).precision t.precision_is)

  strides-true : strides_valid q ≡ true
  unfolding strides_valid
  strides-true =
      rw (eq-eqb (q.start % 32) 0 t.start_whole, eq-eqb (q.line % 32) 0 t.line_whole, le-leb ((q.offset + q.width) * pixel_bytes q) q.line t.room)

  pub valid-accepted : setting_answer q ≡ Accepted
  valid-accepted =
      sym (check-valid q t.known (size-true 8192 q.width t.width_pos t.width_le) (size-true 8192 q.height t.height_pos t.height_le) kind-true t.offset_le strides-true)
