-- `quantize::nearest` meets its contract: what is added fits 32 bits, the sum 64, and shifted down it is the nearest number. Assumes nothing.
use Prim.Native.Nat.{ℕ, ◌*◌, ◌%◌, ◌^◌, ◌≤◌}
use native.Mathlib.Omega.{arith}
use mathlib.Core.Path.{◌≡◌, sym, ap, ◌∙◌}
use lib.Pow.{pow_pos}
use lib.IntN.{ℤ, pos, ◌+ℤ◌}
use lib.Signed.{lt_z, shr_z}
use mir.Syntax.{w64}
use mir.Val.{to_z, of_z}
use mir.Facts.{to_z-of_z}
use Rattle.general.proofs.NumberLaws.{one_shl, power_le}
use Rattle.quantize.specs.Quantize.{nearest}
use Rattle.quantize.proofs.NearestLaws.{shifted-above, shifted-below, shifted_sum}
use Rattle.quantize.proofs.nearest.Goals as goal
use Rattle.quantize.proofs.nearest.Goals.{then-z-lt0, else-z-lt0}

pub returns : goal.returns
returns c =
    let a = c.args in
    let z = a.z in
    let m = 2 ^ a.shift in
    let whole_is : 1 * 2 ^ a.shift % 4294967296 ≡ m = one_shl a.shift c.requires.0 in
    let top : m ≤ 2147483648 = power_le a.shift c.requires.0 in
    let more-le : c.if-z-lt0.more ≤ 2147483648 =
    elim c.if-z-lt0.branch [ then-z-lt0 w ↦ omega (arith, w.more-is) | else-z-lt0 w ↦ omega (arith, w.more-is) ] in
    let same : lt_z z (pos 0) ≡ lt_z (to_z w64 (of_z w64 z)) (pos 0) = ap (λ (v : ℤ). lt_z v (pos 0)) (sym (to_z-of_z c.ranges.z)) in
    let shifted : ℕ → ℤ = λ n. shr_z (z +ℤ pos n) m in
    let sum-nearest : shr_z (z +ℤ pos c.if-z-lt0.more) m ≡ nearest z m =
    elim c.if-z-lt0.branch [
      | then-z-lt0 w ↦ ap shifted (omega (arith, w.more-is)) ∙ shifted-below (pow_pos a.shift) z (same ∙ w.if-z-lt0.true)
      | else-z-lt0 w ↦ ap shifted (omega (arith, w.more-is)) ∙ shifted-above (pow_pos a.shift) z (same ∙ w.if-z-lt0.false)
    ] in
    shifted_sum z c.requires.1 more-le m ∙ sum-nearest
