-- What the checks leave of each table's settings. Assumes nothing.
--     Sound, sound_y, sound_x                  a linear table's settings that are valid, for Y and for a linear X
--     wider                                  a range within another
--     y_valid-parts                           the Y table's settings
--     x_valid-mode .. x_valid-linear           the X table's settings, by the mode
use Prim.Native.Nat.{ℕ}
use native.Mathlib.Omega.{arith}
use mathlib.Core.Path.{◌≡◌, refl, ◌∙◌}
use mathlib.Core.Bool.{true}
use lib.IntN.{ℤ, pos, negsuc, ◌+ℤ◌}
use lib.Signed.{le_z}
use mir.Syntax.{w32}
use mir.Val.{SFits}
use Rattle.general.proofs.UpDown.{le_z-true, le-le_z}
use Rattle.general.proofs.TestLaws.{and-four}
use Rattle.lut.specs.declared.XMode.TheVariants.{Linear, Exponential}
use Rattle.lut.specs.declared.XSettings.{XSettings}
use Rattle.lut.specs.declared.YSettings.{YSettings}
use Rattle.lut.specs.Numbers.{between, scaled}
use Rattle.lut.specs.Tables.{linear_x}
use Rattle.lut.specs.Rules.{mode_valid, same_z, end_valid, shift_valid}
use Rattle.lut.specs.Steps.{x_valid, y_valid}
use Rattle.lut.proofs.BetweenLaws.{between-ud}
use Rattle.lut.proofs.AnswerLaws.{mode_valid-linear, mode_valid-exponential, end_valid-linear, end_valid-exponential}

-- a linear table with last entry N whose settings are valid
pub record Sound (last : ℕ) (t : YSettings) : Type 0 where
  pub select_in : between (negsuc 7) (pos 25) t.select ≡ true
  pub end_is : same_z t.end (t.start +ℤ pos (scaled last t.select)) ≡ true
  pub below_in : shift_valid t.below.shift ≡ true
  pub above_in : shift_valid t.above.shift ≡ true
  pub start_fits : SFits w32 t.start
  pub end_fits : SFits w32 t.end

pub wider : (low high low2 high2 z : ℤ) → le_z low2 low ≡ true → le_z high high2 ≡ true → between low high z ≡ true → between low2 high2 z ≡ true
unfolding between
wider low high low2 high2 z f g e =
    let h = between-ud low high z e in
    rw (
      le-le_z low2 z (omega (arith, le_z-true low2 low f, h.0)),
      le-le_z z high2 (omega (arith, le_z-true high high2 g, h.1)),
    ) refl

-- ---- Y

pub y_valid-parts : (s : YSettings) → y_valid s ≡ true
    → (between (negsuc 7) (pos 25) s.select ≡ true) × (same_z s.end (s.start +ℤ pos (scaled 256 s.select)) ≡ true) × (shift_valid s.below.shift ≡ true)
    × (shift_valid s.above.shift ≡ true)
unfolding y_valid
y_valid-parts s e =
    let p = and-four (between (negsuc 7) (pos 23) s.select) (same_z s.end (s.start +ℤ pos (scaled 256 s.select))) (shift_valid s.below.shift) (shift_valid s.above.shift) e in
    (wider (negsuc 7) (pos 23) (negsuc 7) (pos 25) s.select refl refl p.0, p.1, p.2, p.3)

pub sound_y : (s : YSettings) → y_valid s ≡ true → SFits w32 s.start → SFits w32 s.end → Sound 256 s
sound_y s e f g =
    let p = y_valid-parts s e in
    record { select_in = p.0; end_is = p.1; below_in = p.2; above_in = p.3; start_fits = f; end_fits = g }

-- ---- X

module _ (s : XSettings) (e : x_valid s ≡ true) where
  parts : (mode_valid s.mode ≡ true) × (end_valid s ≡ true) × (shift_valid s.below.shift ≡ true) × (shift_valid s.above.shift ≡ true)
  unfolding x_valid
  parts = and-four (mode_valid s.mode) (end_valid s) (shift_valid s.below.shift) (shift_valid s.above.shift) e

  pub x_valid-mode : mode_valid s.mode ≡ true
  x_valid-mode = parts.0

  pub x_valid-below : shift_valid s.below.shift ≡ true
  x_valid-below = parts.2

  pub x_valid-above : shift_valid s.above.shift ≡ true
  x_valid-above = parts.3

  pub x_valid-offset : (z : ℤ) → s.mode ≡ Exponential z → between (negsuc 31) (pos 31) z ≡ true
  x_valid-offset z m = mode_valid-exponential s.mode z m ∙ parts.0

  pub x_valid-end : (z : ℤ) → s.mode ≡ Exponential z → same_z s.end (pos 2147483647) ≡ true
  x_valid-end z m = end_valid-exponential s z m ∙ parts.1

  pub x_valid-linear : (z : ℤ) → s.mode ≡ Linear z → same_z s.end (s.start +ℤ pos (scaled 64 z)) ≡ true
  x_valid-linear z m = end_valid-linear s z m ∙ parts.1

  pub sound_x : (z : ℤ) → s.mode ≡ Linear z → SFits w32 s.start → SFits w32 s.end → Sound 64 (linear_x s z)
  sound_x z m f g =
      record {
        select_in = wider (negsuc 5) (pos 25) (negsuc 7) (pos 25) z refl refl (mode_valid-linear s.mode z m ∙ parts.0);
        end_is = x_valid-linear z m;
        below_in = parts.2;
        above_in = parts.3;
        start_fits = f;
        end_fits = g;
      }
