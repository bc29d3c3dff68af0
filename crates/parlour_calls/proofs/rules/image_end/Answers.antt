-- `parlour_calls::rules::image_end` meets its contract: the last pixel of an accepted picture has a position, and it ends behind it. Assumes nothing.
use Prim.Native.Nat.{◌-◌, ◌<◌}
use native.Mathlib.Omega.{arith}
use mathlib.Core.Path.{◌≡◌, ap, ◌∙◌}
use Rattle.std.specs.Prelude.{Ok}
use Rattle.refusal.specs.Checks.{Accepted}
use Rattle.pixels.specs.declared.PixelFormat.{PixelFormat}
use Rattle.pixels.specs.declared.PixelSetting.{PixelSetting}
use Rattle.pixels.specs.Settings.{setting_answer, pixel_bytes, pixel_position, position_quantity}
use Rattle.pixels.proofs.Valid.{valid}
use Rattle.pixels.proofs.FormatLaws.{bytes_le}
use Rattle.pixels.proofs.PositionLaws.{position_lt}
use Rattle.parlour.specs.Rules.{image_end}
use Rattle.parlour_calls.proofs.AnswerLaws.{is-given, taken, pixel-given}
use Rattle.parlour_calls.proofs.rules.image_end.Goals as goal

-- the last pixel has a position
last-given : (i : PixelSetting) → setting_answer i ≡ Accepted → position_quantity i (i.width - 1) (i.height - 1) ≡ Ok (pixel_position i (i.width - 1) (i.height - 1))
last-given i e =
    let ok = valid i e in
    pixel-given i (i.width - 1) (i.height - 1) e (omega (arith, ok.width_pos)) (omega (arith, ok.height_pos))

pub overflow_sub-image : goal.overflow_sub-image
overflow_sub-image c = (valid c.args.image c.requires).width_pos

pub overflow_sub-image-2 : goal.overflow_sub-image-2
overflow_sub-image-2 c = (valid c.args.image c.requires).height_pos

pub unwrap-last-requires : goal.unwrap-last-requires
unwrap-last-requires c = is-given (c.position.ensures ∙ last-given c.args.image c.requires)

pub overflow_add-result : goal.overflow_add-result
overflow_add-result c =
    let i = c.args.image in
    let ok = valid i c.requires in
    let hx : i.width - 1 < i.width = omega (arith, ok.width_pos) in
    let hy : i.height - 1 < i.height = omega (arith, ok.height_pos) in
    let bytes-is : c.format-format.result.bytes ≡ pixel_bytes i = ap (λ (f : PixelFormat). f.bytes) c.format-format.ensures in
    omega (arith, taken (c.position.ensures ∙ last-given i c.requires) c.unwrap-last.ensures, bytes-is, bytes_le i.format, position_lt i ok _ _ hx hy (omega arith) (omega arith))

pub returns : goal.returns
unfolding image_end
returns c =
    let i = c.args.image in
    let bytes-is : c.format-format.result.bytes ≡ pixel_bytes i = ap (λ (f : PixelFormat). f.bytes) c.format-format.ensures in
    rw (taken (c.position.ensures ∙ last-given i c.requires) c.unwrap-last.ensures, bytes-is)
