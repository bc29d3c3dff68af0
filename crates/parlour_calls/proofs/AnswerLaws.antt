-- What calls answer that cannot be refused here: a pixel of an accepted picture has a position, an accepted conversion a value; and what is taken out of
-- such an answer. Assumes nothing.
--     is-given, taken               an answer with a value, and the value taken out of it
--     pixel-given                   the position of a pixel
--     value-given                   the value of a conversion
use Prim.Native.Nat.{ℕ, ◌<◌}
use mathlib.Core.Path.{◌≡◌, refl, sym, subst}
use lib.IntN.{ℤ}
use Rattle.std.specs.Prelude.{Result, Ok}
use Rattle.std.specs.Result.{IsOk}
use Rattle.refusal.specs.declared.Fault.{Fault}
use Rattle.refusal.specs.Checks.{in_order, Accepted}
use Rattle.pixels.specs.declared.PixelSetting.{PixelSetting}
use Rattle.pixels.specs.Settings.{setting_answer, pixel_position, position_quantity}
use Rattle.pixels.proofs.SettingLaws.{position-is}
use Rattle.quantize.specs.Quantize.{quantize_checks, conversion, quantize_answer}
use Rattle.quantize.proofs.AnswerLaws.{answer-value}

pub is-given : {A : Type 0} {r : Result A Fault} {v : A} → r ≡ Ok v → IsOk r
is-given e = subst IsOk (sym e) refl

pub taken : {A : Type 0} {r : Result A Fault} {v w : A} → r ≡ Ok v → r ≡ Ok w → w ≡ v
taken e f = cc

pub pixel-given : (q : PixelSetting) (x y : ℕ) → setting_answer q ≡ Accepted → x < q.width → y < q.height → position_quantity q x y ≡ Ok (pixel_position q x y)
pixel-given q x y ok hx hy = sym (position-is q x y ok hx hy)

pub value-given : (d offset scale : ℤ) (shift precision : ℕ) → in_order (quantize_checks precision shift) ≡ Accepted
    → quantize_answer d offset scale shift precision ≡ Ok (conversion d offset scale shift precision)
value-given d offset scale shift precision ok = sym (answer-value d offset scale shift precision ok)
