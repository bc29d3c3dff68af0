-- Signed numbers as the code holds them: a number that fits its type is read back from its bits, and a cast to a type that it fits too keeps it.
-- Assumes nothing.
--     cast_fits, cast-value      what a cast asks of the number held, and what it gives
--     lt_z-held                   a test of two numbers held
--     bool-number                a truth value as a number
use mathlib.Core.Path.{◌≡◌, refl, sym, ap, subst, ◌∙◌}
use mathlib.Core.Bool.{Bool, true, false, cond}
use lib.IntN.{ℤ}
use lib.Signed.{lt_z}
use mir.Syntax.{Width}
use mir.Val.{SFits, to_z, of_z, bool_byte}
use mir.Facts.{to_z-of_z}

module _ {w w' : Width} {z : ℤ} (f : SFits w z) (g : SFits w' z) where
  pub cast_fits : SFits w' (to_z w (of_z w z))
  cast_fits = subst (λ (v : ℤ). SFits w' v) (sym (to_z-of_z f)) g

  pub cast-value : to_z w' (of_z w' (to_z w (of_z w z))) ≡ z
  cast-value = ap (λ (v : ℤ). to_z w' (of_z w' v)) (to_z-of_z f) ∙ to_z-of_z g

pub lt_z-held : {w : Width} {a b : ℤ} → SFits w a → SFits w b → lt_z a b ≡ lt_z (to_z w (of_z w a)) (to_z w (of_z w b))
lt_z-held f g = rw (to_z-of_z f, to_z-of_z g)

pub bool-number : (b : Bool) → bool_byte b ≡ cond b 1 0
bool-number true = refl
bool-number false = refl
