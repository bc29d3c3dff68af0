-- The orders of checks (1, 2; then 6, 5, or 9) as the code goes through them, one test after another. Assumes nothing.
--     setting-sizes .. setting-held         1, 2
--     check-setting .. check-valid          6, 5 after them
--     element-setting .. element-held       9 after them
use Prim.Native.Nat.{ℕ, ◌≤◌, ◌<◌}
use mathlib.Core.Path.{◌≡◌, sym, ◌∙◌}
use mathlib.Core.Bool.{true, false}
use mathlib.Core.List.{List, [], ◌∷◌}
use lib.Dec.{leb, ltb, eqb}
use borrow.Author.Tests.{lt-ltb, le-ltb, le-leb, lt-leb, eq-eqb, ne_eqb}
use Rattle.std.specs.Prelude.{Err}
use Rattle.refusal.specs.declared.Fault.{Fault}
use Rattle.refusal.specs.declared.Refusal.TheVariants.{Size, Precision, BufferLength, ElementCount, Bounds}
use Rattle.refusal.specs.Checks.{in_order, require, Answer, Accepted, Refused}
use Rattle.refusal.proofs.CheckLaws.{Held, in_order-all, require_at-held, in_order-nil, in_order-next, in_order-stop, in_order-passed, in_order-refused, in_order-front, in_order-back}
use Rattle.weights.specs.declared.WeightLayout.{WeightLayout}
use Rattle.weights.specs.Geometry.{element_count, surface_bytes}
use Rattle.weights.specs.Rules.{sizes_valid, setting_checks, weight_checks, element_inside, element_checks}

module _ (q : WeightLayout) where
  r2 : List Answer
  r2 = require Precision (ltb q.precision 3) ∷ []

  pub setting-sizes : sizes_valid q ≡ false → Refused Size 0 ≡ in_order (setting_checks q)
  unfolding r2
  setting-sizes e = sym (in_order-stop 0 Size r2 e)

  pub setting-held : in_order (setting_checks q) ≡ Accepted → sizes_valid q ≡ true
  unfolding Held
  setting-held e = require_at-held _ _ _ (in_order-all _ e).0

  module _ (sz : sizes_valid q ≡ true) where
    to-precision : in_order (setting_checks q) ≡ in_order r2
    unfolding r2
    to-precision = in_order-next 0 Size r2 sz

    pub setting-precision : 3 ≤ q.precision → Refused Precision 0 ≡ in_order (setting_checks q)
    unfolding r2
    setting-precision h = sym (to-precision ∙ in_order-stop 0 Precision [] (le-ltb q.precision 3 h))

    pub setting-valid : q.precision < 3 → Accepted ≡ in_order (setting_checks q)
    unfolding r2
    setting-valid h = sym (to-precision ∙ in_order-next 0 Precision [] (lt-ltb q.precision 3 h) ∙ in_order-nil)

module _ (q : WeightLayout) (given len : ℕ) where
  r4 : List Answer
  r4 = require BufferLength (leb (surface_bytes q) len) ∷ []

  r3 : List Answer
  unfolding r4
  r3 = require ElementCount (eqb given (element_count q)) ∷ r4

  pub check-setting : {f : Fault} → in_order (setting_checks q) ≡ Err f → in_order (weight_checks q given len) ≡ Err f
  unfolding weight_checks r3 r4
  check-setting e = in_order-refused (setting_checks q) r3 e

  module _ (passed : in_order (setting_checks q) ≡ Accepted) where
    to-count : in_order (weight_checks q given len) ≡ in_order r3
    unfolding weight_checks r3 r4
    to-count = in_order-passed (setting_checks q) r3 passed

    pub check-count : (given ≡ element_count q → ⊥) → Refused ElementCount 0 ≡ in_order (weight_checks q given len)
    unfolding r3
    check-count f = sym (to-count ∙ in_order-stop 0 ElementCount r4 (ne_eqb given (element_count q) f))

    module _ (count : given ≡ element_count q) where
      to_room : in_order (weight_checks q given len) ≡ in_order r4
      unfolding r3
      to_room = to-count ∙ in_order-next 0 ElementCount r4 (eq-eqb given (element_count q) count)

      pub check-room : len < surface_bytes q → Refused BufferLength 0 ≡ in_order (weight_checks q given len)
      unfolding r4
      check-room h = sym (to_room ∙ in_order-stop 0 BufferLength [] (lt-leb (surface_bytes q) len h))

      pub check-valid : surface_bytes q ≤ len → Accepted ≡ in_order (weight_checks q given len)
      unfolding r4
      check-valid h = sym (to_room ∙ in_order-next 0 BufferLength [] (le-leb (surface_bytes q) len h) ∙ in_order-nil)

module _ (q : WeightLayout) (k c r s : ℕ) where
  r9 : List Answer
  r9 = require Bounds (element_inside q k c r s) ∷ []

  pub element-setting : {f : Fault} → in_order (setting_checks q) ≡ Err f → in_order (element_checks q k c r s) ≡ Err f
  unfolding element_checks r9
  element-setting e = in_order-refused (setting_checks q) r9 e

  module _ (passed : in_order (setting_checks q) ≡ Accepted) where
    to-bounds : in_order (element_checks q k c r s) ≡ in_order r9
    unfolding element_checks r9
    to-bounds = in_order-passed (setting_checks q) r9 passed

    pub element-outside : element_inside q k c r s ≡ false → Refused Bounds 0 ≡ in_order (element_checks q k c r s)
    unfolding r9
    element-outside e = sym (to-bounds ∙ in_order-stop 0 Bounds [] e)

    pub element-valid : element_inside q k c r s ≡ true → Accepted ≡ in_order (element_checks q k c r s)
    unfolding r9
    element-valid e = sym (to-bounds ∙ in_order-next 0 Bounds [] e ∙ in_order-nil)

  -- an accepted element: its setting was accepted, and the tensor has it
  pub element-held : in_order (element_checks q k c r s) ≡ Accepted → (sizes_valid q ≡ true) × (element_inside q k c r s ≡ true)
  unfolding element_checks r9 Held
  element-held e = (setting-held q (in_order-front (setting_checks q) r9 e), require_at-held _ _ _ (in_order-all _ (in_order-back (setting_checks q) r9 e)).0)
