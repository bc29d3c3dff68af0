-- `lut_calls::samples::pair` meets its contract: the numbers of the two sides are the definition's. Assumes nothing.
use Prim.Native.Nat.{ℕ, ◌+◌, ◌*◌}
use native.Mathlib.Omega.{arith}
use mathlib.Core.Path.{◌≡◌, ap₂}
use mir.Facts.{to_z-of_z}
use Rattle.lut_calls.specs.StepsLoop.{side_of, pair_of}
use Rattle.lut_calls.proofs.PlanLaws.{side-le}
use Rattle.lut_calls.proofs.samples.pair.Goals as goal

x_is : (c : goal.After-side) → let a = c.args in c.side.result ≡ side_of a.b.x a.x
x_is c = simp (to_z-of_z c.ranges.x) at c.side.ensures

y_is : (c : goal.After-side-2) → let a = c.args in c.side-2.result ≡ side_of a.b.y a.x
y_is c = simp (to_z-of_z c.ranges.x) at c.side-2.ensures

pub overflow_mul-result : goal.overflow_mul-result
overflow_mul-result c = let a = c.args in record { fits = omega (arith, x_is c, side-le a.b.x a.x) }

pub overflow_add-result : goal.overflow_add-result
overflow_add-result c =
    let a = c.args in
    record { fits = omega (arith, x_is c.before.before, y_is c, side-le a.b.x a.x, side-le a.b.y a.x) }

pub returns : goal.returns
unfolding pair_of
returns c = ap₂ (λ (m n : ℕ). 3 * m + n) (x_is c.before.before) (y_is c)
