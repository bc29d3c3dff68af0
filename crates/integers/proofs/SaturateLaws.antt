-- Laws of saturation. By cases on the definition's two tests. Assumes nothing.
--     saturate-low, saturate-high, saturate-same     the three answers, by the tests
--     saturate-cases                                 what holds of all three holds of the answer
--     saturate-kept                                  a number in low..high stays
--     fits-saturate                                  where the limits fit a type, the answer does
--     within_same, beyond-other                      a number that is not beyond stays, one that is does not
use native.Mathlib.Omega.{arith}
use mathlib.Core.Path.{◌≡◌, refl, sym, ap, subst⁻¹, ◌∙◌}
use mathlib.Core.Bool.{Bool, true, false, ◌||◌, true≢false}
use lib.IntN.{ℤ}
use lib.Signed.{lt_z, ◌≤ℤ◌}
use mir.Syntax.{Width}
use mir.Val.{SFits}
use Rattle.general.proofs.UpDown.{up, dn, lt_z-true, lt_z-false, le-lt_z, le-ud, ud-le}
use Rattle.general.proofs.Ranges.{fits-between}
use Rattle.integers.specs.Saturate.{saturate, beyond}

-- no number is less than itself
before-itself : {a z : ℤ} → a ≡ z → lt_z z a ≡ true → ⊥
before-itself {a} {z} e t = omega (arith, lt_z-true z a t, ap up e, ap dn e)

module _ (low high z : ℤ) where
  pub saturate-low : lt_z z low ≡ true → saturate low high z ≡ low
  unfolding saturate
  saturate-low e = rw e

  pub saturate-high : lt_z z low ≡ false → lt_z high z ≡ true → saturate low high z ≡ high
  unfolding saturate
  saturate-high e f = rw (e, f)

  pub saturate-same : lt_z z low ≡ false → lt_z high z ≡ false → saturate low high z ≡ z
  unfolding saturate
  saturate-same e f = rw (e, f)

  module _ (P : ℤ → Type 0) (lower : P low) (upper : P high) (inside : low ≤ℤ z → z ≤ℤ high → P z) where
    by_high : (t : Bool) → lt_z z low ≡ false → lt_z high z ≡ t → P (saturate low high z)
    by_high true e f = subst⁻¹ P (saturate-high e f) upper
    by_high false e f = subst⁻¹ P (saturate-same e f) (inside (ud-le low z (lt_z-false z low e)) (ud-le z high (lt_z-false high z f)))

    by-low : (t : Bool) → lt_z z low ≡ t → P (saturate low high z)
    by-low true e = subst⁻¹ P (saturate-low e) lower
    by-low false e = by_high (lt_z high z) e refl

    pub saturate-cases : P (saturate low high z)
    saturate-cases = by-low (lt_z z low) refl

  pub saturate-kept : low ≤ℤ z → z ≤ℤ high → saturate low high z ≡ z
  saturate-kept f g = saturate-same (le-lt_z z low (le-ud f)) (le-lt_z high z (le-ud g))

  -- by the two tests
  same_by : (below above : Bool) → lt_z z low ≡ below → lt_z high z ≡ above → below || above ≡ false → saturate low high z ≡ z
  same_by false false e f none = saturate-same e f
  same_by false true e f none = absurd (true≢false none)
  same_by true above e f none = absurd (true≢false none)

  other-by : (below above : Bool) → lt_z z low ≡ below → lt_z high z ≡ above → below || above ≡ true → saturate low high z ≡ z → ⊥
  other-by true above e f some same = before-itself (sym (saturate-low e) ∙ same) e
  other-by false true e f some same = before-itself (sym same ∙ saturate-high e f) f
  other-by false false e f some same = true≢false (sym some)

  pub within_same : beyond low high z ≡ false → saturate low high z ≡ z
  unfolding beyond
  within_same = same_by (lt_z z low) (lt_z high z) refl refl

  pub beyond-other : beyond low high z ≡ true → saturate low high z ≡ z → ⊥
  unfolding beyond
  beyond-other = other-by (lt_z z low) (lt_z high z) refl refl

pub fits-saturate : {w : Width} {low high : ℤ} (z : ℤ) → SFits w low → SFits w high → SFits w (saturate low high z)
fits-saturate {w} {low} {high} z f g = saturate-cases low high z (λ r. SFits w r) f g (fits-between f g)
