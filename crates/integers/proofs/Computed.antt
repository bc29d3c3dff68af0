-- Saturation, computed. Assumes nothing.
use mathlib.Core.Path.{◌≡◌, refl}
use mathlib.Core.Bool.{true, false}
use mathlib.Core.List.{[], ◌∷◌, map}
use lib.IntN.{pos, negsuc}
use Rattle.integers.specs.Saturate.{saturate, beyond}

pub record Computed : Type 0 where
  pub above : saturate (negsuc 127) (pos 127) (pos 255) ≡ pos 127
  pub below : saturate (negsuc 127) (pos 127) (negsuc 200) ≡ negsuc 127
  pub between : saturate (negsuc 127) (pos 127) (negsuc 20) ≡ negsuc 20
  -- −129, −128, 127, 128: the limits themselves are not beyond
  pub limits : map (beyond (negsuc 127) (pos 127)) (negsuc 128 ∷ negsuc 127 ∷ pos 127 ∷ pos 128 ∷ []) ≡ true ∷ false ∷ false ∷ true ∷ []

pub computed : Computed
unfolding saturate beyond
computed = record { above = refl; below = refl; between = refl; limits = refl }
