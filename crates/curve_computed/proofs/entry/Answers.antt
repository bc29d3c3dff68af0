-- `curve_computed::entry` meets its contract: the root of so many steps, of at most 16384. Assumes nothing.
use Prim.Native.Nat.{ℕ, ◌*◌, ◌≤◌}
use native.Mathlib.Nat.{min-le_right, mul-le-mul_right}
use native.Mathlib.Omega.{arith}
use mathlib.Core.Path.{ap, ◌∙◌}
use lib.IntN.{pos}
use mir.Syntax.{w16}
use mir.Facts.{to_z_pos}
use Rattle.camera.specs.Curve.{root, curve_entry}
use Rattle.camera.proofs.RootLaws.{root-le}
use Rattle.curve_computed.proofs.entry.Goals as goal

-- so many steps are at most those of the last entry; 16384 squared is 268435456
small : (c : goal.After-root) → c.root.result ≤ 16384
small c =
    let a = c.args in
    let steps-le : c.least.result * a.step ≤ 268435456 =
    omega (arith, mul-le-mul_right {m = c.least.result} {n = a.last} a.step (omega (arith, c.least.ensures, min-le_right a.i a.last)), c.requires) in
    omega (arith, c.root.ensures, root-le (c.least.result * a.step) 16384 (omega (arith, steps-le)))

pub overflow_cast-result : goal.overflow_cast-result
overflow_cast-result c = record { sfits = omega (arith, small c) }

pub returns : goal.returns
unfolding curve_entry
returns c = let a = c.args in
    to_z_pos w16 (omega (arith, small c)) ∙ ap pos (c.root.ensures ∙ ap (λ (k : ℕ). root (k * a.step)) c.least.ensures)
