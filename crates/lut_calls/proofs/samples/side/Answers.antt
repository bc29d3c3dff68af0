-- `lut_calls::samples::side` meets its contract: the two tests are the definition's. Assumes nothing.
use Prim.Native.Nat.{◌≤◌}
use mathlib.Core.Path.{◌≡◌, refl, ap₂, ◌∙◌}
use mathlib.Core.Bool.{Bool, true, false, cond}
use native.Mathlib.Omega.{arith}
use lib.IntN.{ℤ}
use lib.Signed.{le_z, lt_z}
use mir.Syntax.{w32, w64}
use mir.Val.{bool_byte, to_z, of_z}
use mir.Facts.{sfits_widen}
use Rattle.general.proofs.Casts.{cast-value}
use Rattle.general.proofs.NumberLaws.{back64}
use Rattle.lut_calls.specs.StepsLoop.{side_of}
use Rattle.lut_calls.proofs.samples.side.Goals as goal

bit : (b : Bool) → bool_byte b ≡ cond b 1 0
bit true = refl
bit false = refl

bit_le : (b : Bool) → bool_byte b ≤ 1
bit_le true = omega arith
bit_le false = omega arith

pub overflow_add-result : goal.overflow_add-result
overflow_add-result c =
    let s = c.args.s in
    let x = to_z w64 (of_z w64 (to_z w32 (of_z w32 c.args.x))) in
    record { fits = omega (arith, bit_le (le_z (to_z w64 (of_z w64 s.first)) x), bit_le (lt_z (to_z w64 (of_z w64 s.last)) x)) }

pub returns : goal.returns
unfolding side_of
returns c =
    let s = c.args.s in
    let x = to_z w64 (of_z w64 (to_z w32 (of_z w32 c.args.x))) in
    let same : x ≡ c.args.x = cast-value {w' = w64} c.ranges.x (sfits_widen tt c.ranges.x) in
    let first : bool_byte (le_z (to_z w64 (of_z w64 s.first)) x) ≡ cond (le_z s.first c.args.x) 1 0 =
    bit _ ∙ ap₂ (λ (u v : ℤ). cond (le_z u v) 1 0) (back64 s.first c.struct_told-1.given.0.1) same in
    let last : bool_byte (lt_z (to_z w64 (of_z w64 s.last)) x) ≡ cond (lt_z s.last c.args.x) 1 0 =
    bit _ ∙ ap₂ (λ (u v : ℤ). cond (lt_z u v) 1 0) (back64 s.last c.struct_told-2-1.given.1.0.1) same in
    omega (arith, first, last, bit_le (le_z (to_z w64 (of_z w64 s.first)) x), bit_le (lt_z (to_z w64 (of_z w64 s.last)) x))
