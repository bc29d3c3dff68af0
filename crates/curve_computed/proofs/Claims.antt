-- The claims about Newton's steps (change request K4), for every number. Assumes nothing.
use Prim.Native.Nat.{ℕ, suc, ◌≤◌, ◌<◌}
use native.Mathlib.Nat.{lt-suc_self}
use mathlib.Core.Path.{◌≡◌}
use Rattle.camera.specs.Curve.{root}
use Rattle.curve_computed.specs.Newton.{newton, estimates, last_of}
use Rattle.curve_computed.proofs.NewtonLaws.{newton_above, newton-falls, estimates-last}

module _ (n e : ℕ) where
  -- an estimate above the root falls
  pub falls : root n < e → newton n e < e
  falls = newton-falls n e

  -- no step from an estimate but 0 goes below the root: so at the root the estimate stops falling
  pub not-below : 0 < e → root n ≤ newton n e
  not-below = newton_above n e

  -- from any start at or above the root the steps end, and the last estimate is the root: no more than e + 1 estimates from e on fall
  pub ends : root n ≤ e → last_of 0 (estimates (suc e) n e) ≡ root n
  ends h = estimates-last n (suc e) 0 e h (lt-suc_self e)
