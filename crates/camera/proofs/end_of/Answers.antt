-- `camera::end_of` meets its contract: the select is not negative, and the end stays within 31 bits. Assumes nothing.
use Prim.Native.Nat.{ℕ, ◌≤◌}
use native.Mathlib.Omega.{arith}
use mathlib.Core.Path.{◌≡◌, ◌∙◌}
use lib.IntN.{pos}
use mir.Syntax.{w32}
use mir.Val.{to_z, of_z}
use mir.Facts.{to_z-of_z}
use Rattle.camera.proofs.ReadyLaws.{between-pos, end_fits, end-value}
use Rattle.camera.proofs.end_of.Goals as goal
use Rattle.camera.proofs.end_of.Goals.{Start}

select-pos : (c : Start) → (k : ℕ) × (c.args.select ≡ pos k) × (0 ≤ k) × (k ≤ 22)
select-pos c = between-pos 0 22 c.args.select c.requires.1

select-as : (c : Start) → to_z w32 (of_z w32 c.args.select) ≡ pos (select-pos c).0
select-as c = to_z-of_z c.ranges.select ∙ (select-pos c).1

pub overflow_cast-result : goal.overflow_cast-result
overflow_cast-result c = rw (select-as c) (tt, record { fits = omega (arith, (select-pos c).3) })

pub overflow_shl-result : goal.overflow_shl-result
overflow_shl-result c = rw (select-as c) (omega (arith, (select-pos c).3))

pub overflow_cast-result-2 : goal.overflow_cast-result-2
overflow_cast-result-2 c = rw (select-as c) (end_fits c.args.last (select-pos c).0 c.requires.0 (select-pos c).3)

pub returns : goal.returns
returns c = rw (select-as c) (end-value c.args.last (select-pos c).0 c.requires.0 (select-pos c).3 (select-pos c).1)
