-- Newton's steps, computed (change request K4). Assumes nothing.
use mathlib.Core.Path.{◌≡◌, refl}
use mathlib.Core.List.{[], ◌∷◌}
use Rattle.curve_computed.specs.Newton.{newton, estimates, last_of}

-- entry 2 of Y is the root of 2097152: nine estimates, from 65535 to 1448
pub entry-2 : estimates 99 2097152 65535 ≡ 65535 ∷ 32783 ∷ 16423 ∷ 8275 ∷ 4264 ∷ 2377 ∷ 1629 ∷ 1458 ∷ 1448 ∷ []
unfolding newton estimates
entry-2 = refl

-- of a number one below a square the step from the root goes above it; of a square it stays
pub at-root : (newton 15 3 ≡ 4) × (newton 16 4 ≡ 4)
unfolding newton
at-root = (refl, refl)

-- from a start below the root the steps do not fall: 16383 would be entry 256
pub start-below : last_of 0 (estimates 99 268435456 16383) ≡ 16383
unfolding newton estimates last_of
start-below = refl
