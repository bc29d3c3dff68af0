-- The limits of a precision, the range of a converted value, and the checks as the code goes through them. Assumes nothing.
--     limits-zero, limits-other             the limits, by the precision
--     saturated-value, quantized-fits       the converted value from the rounded number; it fits 16 bits
--     beyond-limited                        whether it was held
--     answer-refused, answer-value          the answer, by the checks
--     check-precision .. check-valid        the checks, one after another
--     checked                               what accepted checks tell
use Prim.Native.Nat.{ℕ, zero, suc, ◌≤◌, ◌<◌}
use mathlib.Core.Path.{◌≡◌, sym, refl, ◌∙◌}
use lib.IntN.{ℤ, pos, negsuc}
use borrow.Author.Tests.{lt-ltb, le-ltb, le-leb, lt-leb, ltb-true, leb-true}
use mir.Syntax.{w16}
use mir.Val.{SFits}
use mir.Facts.{sfits_lit}
use Rattle.refusal.specs.declared.Fault.{Fault}
use Rattle.std.specs.Prelude.{Ok, Err}
use Rattle.refusal.specs.declared.Refusal.TheVariants.{Precision, Shift}
use Rattle.refusal.specs.Checks.{in_order, Accepted, Refused}
use Rattle.refusal.proofs.CheckLaws.{Held, in_order-all, require_at-held, in_order-nil, in_order-next, in_order-stop, given-accepted, given-refused}
use Rattle.integers.specs.Saturate.{saturate, beyond}
use Rattle.integers.proofs.SaturateLaws.{fits-saturate}
use Rattle.quantize.specs.Quantize.{lowest, highest, quantize_checks, rounded, quantized, limited, conversion, quantize_answer}

-- ---- the limits

pub limits-zero : {p : ℕ} → p ≡ 0 → (negsuc 127 ≡ lowest p) × (pos 127 ≡ highest p)
unfolding lowest highest
limits-zero e = (rw e, rw e)

pub limits-other : (p : ℕ) → (p ≡ 0 → ⊥) → (negsuc 32767 ≡ lowest p) × (pos 32767 ≡ highest p)
unfolding lowest highest
limits-other zero f = absurd (f refl)
limits-other (suc p) f = (refl, refl)

lowest-fits : (p : ℕ) → SFits w16 (lowest p)
unfolding lowest
lowest-fits zero = sfits_lit tt
lowest-fits (suc p) = sfits_lit tt

highest-fits : (p : ℕ) → SFits w16 (highest p)
unfolding highest
highest-fits zero = sfits_lit tt
highest-fits (suc p) = sfits_lit tt

-- ---- the value, and the checks

module _ (d offset scale : ℤ) (shift precision : ℕ) where
  -- from the rounded number
  module _ {low high y : ℤ} (e : low ≡ lowest precision) (f : high ≡ highest precision) (g : y ≡ rounded d offset scale shift) where
    pub saturated-value : saturate low high y ≡ quantized d offset scale shift precision
    unfolding quantized
    saturated-value = rw (e, f, g)

    pub beyond-limited : beyond low high y ≡ limited d offset scale shift precision
    unfolding limited
    beyond-limited = rw (e, f, g)

  pub quantized-fits : SFits w16 (quantized d offset scale shift precision)
  unfolding quantized
  quantized-fits = fits-saturate (rounded d offset scale shift) (lowest-fits precision) (highest-fits precision)

  pub answer-refused : {f : Fault} → in_order (quantize_checks precision shift) ≡ Err f → Err f ≡ quantize_answer d offset scale shift precision
  unfolding quantize_answer
  answer-refused e = sym (given-refused _ e)

  pub answer-value : in_order (quantize_checks precision shift) ≡ Accepted → Ok (conversion d offset scale shift precision) ≡ quantize_answer d offset scale shift precision
  unfolding quantize_answer
  answer-value e = sym (given-accepted _ e)

-- ---- the checks, one after another

module _ (precision shift : ℕ) where
  pub check-precision : 2 ≤ precision → Refused Precision 0 ≡ in_order (quantize_checks precision shift)
  unfolding quantize_checks
  check-precision h = sym (in_order-stop 0 Precision _ (le-ltb precision 2 h))

  pub check-shift : precision < 2 → 31 < shift → Refused Shift 0 ≡ in_order (quantize_checks precision shift)
  unfolding quantize_checks
  check-shift known h = sym (in_order-next 0 Precision _ (lt-ltb precision 2 known) ∙ in_order-stop 0 Shift _ (lt-leb shift 31 h))

  pub check-valid : precision < 2 → shift ≤ 31 → Accepted ≡ in_order (quantize_checks precision shift)
  unfolding quantize_checks
  check-valid known h = sym (in_order-next 0 Precision _ (lt-ltb precision 2 known) ∙ in_order-next 0 Shift _ (le-leb shift 31 h) ∙ in_order-nil)

  -- what accepted ones tell
  pub checked : in_order (quantize_checks precision shift) ≡ Accepted → (precision < 2) × (shift ≤ 31)
  unfolding quantize_checks Held
  checked e = let held = in_order-all _ e in
      (ltb-true precision 2 (require_at-held _ _ _ held.0), leb-true shift 31 (require_at-held _ _ _ held.1.0))
