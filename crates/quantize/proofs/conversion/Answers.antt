-- `quantize::conversion` meets its contract: it saturates the rounded number to the limits of its precision, which fit 16 bits, and tells whether the number lies
-- beyond them. Assumes nothing.
use Prim.Native.Nat.{◌^◌}
use mathlib.Core.Path.{◌≡◌, sym, ap, subst, ◌∙◌}
use lib.IntN.{ℤ}
use borrow.Author.Rules.{rules, sfits_of}
use mir.Syntax.{w16, w64}
use mir.Val.{SFits}
use mir.Facts.{to_z-of_z}
use Rattle.general.proofs.Casts.{cast_fits, cast-value}
use Rattle.general.proofs.NumberLaws.{held as back}
use Rattle.quantize.specs.Quantize.{lowest, highest, nearest, rounded, quantized, limited}
use Rattle.quantize.proofs.AnswerLaws.{quantized-fits, saturated-value, beyond-limited}
use Rattle.quantize.proofs.conversion.Goals as goal

-- each argument that a call was handed is read back
rounded-is : (c : goal.After-saturate) → let a = c.args in c.nearest-y.result ≡ rounded a.d a.offset a.scale a.shift
unfolding rounded
rounded-is c =
    let s = c in
    let f = s.ranges in
    let e = simp (to_z-of_z f.d, to_z-of_z f.offset, to_z-of_z f.scale) at s.scaled-z.ensures.0 in
    simp (to_z-of_z {w = w64} {z = s.scaled-z.result} (sfits_of s.scaled-z.type_inv)) at c.nearest-y.ensures ∙ ap (λ (z : ℤ). nearest z (2 ^ s.args.shift)) e

-- the limits and the rounded number, as both calls are handed them
given : (h : goal.After-saturate) → let a = h.args in
    (back h.limits-low.result.0 ≡ lowest a.precision) × (back h.limits-low.result.1 ≡ highest a.precision) × (back h.nearest-y.result ≡ rounded a.d a.offset a.scale a.shift)
given h =
    let l = h in
    let n = l in (
      to_z-of_z {w = w64} (search rules) ∙ l.limits-low.ensures.0,
      to_z-of_z {w = w64} (search rules) ∙ l.limits-low.ensures.1,
      to_z-of_z {w = w64} (sfits_of n.nearest-y.type_inv) ∙ rounded-is n,
    )

value-is : (c : goal.After-saturate) → let a = c.args in c.saturate.result ≡ quantized a.d a.offset a.scale a.shift a.precision
value-is c =
    let a = c.args in
    let g = given c in
    c.saturate.ensures ∙ saturated-value a.d a.offset a.scale a.shift a.precision g.0 g.1 g.2

result_fits : (c : goal.After-saturate) → SFits w16 c.saturate.result
result_fits c = let a = c.args in
    subst (λ (z : ℤ). SFits w16 z) (sym (value-is c)) (quantized-fits a.d a.offset a.scale a.shift a.precision)

held-is : (c : goal.After-beyond) → let a = c.args in c.beyond.result ≡ limited a.d a.offset a.scale a.shift a.precision
held-is c =
    let a = c.args in
    let g = given c.before in
    c.beyond.ensures ∙ beyond-limited a.d a.offset a.scale a.shift a.precision g.0 g.1 g.2

pub overflow_cast-result : goal.overflow_cast-result
overflow_cast-result c = cast_fits {w = w64} (sfits_of c.saturate.type_inv) (result_fits c)

pub returns : goal.returns
returns c =
    let s = c.before in
    let v = cast-value {w = w64} (sfits_of s.saturate.type_inv) (result_fits s) ∙ value-is s in
    λ i. record { value = v i; held = held-is c i }
