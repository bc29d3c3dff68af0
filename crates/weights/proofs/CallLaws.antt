-- What an accepted call tells, and what each call answers and leaves, by the answers of its checks. Assumes nothing.
--     Admitted, admitted             what checks 1, 2, 6, 5 tell
--     pack-admitted, pack-values     what an accepted packing tells
--     pack-refused, pack-outside, pack-valid, unpack-refused, unpack-valid     answer and contents by the checks
use Prim.Native.Nat.{ℕ, ◌≤◌, ◌<◌}
use mathlib.Core.Path.{◌≡◌, sym, ◌∙◌}
use mathlib.Core.Bool.{true}
use mathlib.Core.List.{List}
use lib.ListN.{length}
use lib.IntN.{ℤ}
use borrow.Author.Tests.{leb-true, ltb-true, eqb-true}
use Rattle.std.specs.Prelude.{Err}
use Rattle.refusal.specs.declared.Fault.{Fault}
use Rattle.refusal.specs.Checks.{in_order, Answer, Accepted}
use Rattle.refusal.proofs.CheckLaws.{Held, in_order-all, require_at-held, in_order-front, in_order-back, in_order-passed, in_order-refused, leaves-done, leaves-before}
use Rattle.elements.specs.Values.{value_checks}
use Rattle.weights.specs.declared.WeightLayout.{WeightLayout}
use Rattle.weights.specs.Geometry.{element_count, surface_bytes}
use Rattle.weights.specs.Rules.{sizes_valid, weight_checks}
use Rattle.weights.specs.Contents.{packed, unpacked}
use Rattle.weights.specs.Calls.{pack_answer, pack_buffer, unpack_answer, unpack_elements}
use Rattle.weights.proofs.Valid.{Valid, valid}

-- an accepted call: the sizes are valid, the elements are as many as the tensor has, the buffer holds the surface
pub record Admitted (q : WeightLayout) (given len : ℕ) : Type 0 where
  pub sizes : sizes_valid q ≡ true
  pub precision_lt : q.precision < 3
  pub layout : Valid q
  pub count : given ≡ element_count q
  pub room : surface_bytes q ≤ len

pub admitted : (q : WeightLayout) (given len : ℕ) → in_order (weight_checks q given len) ≡ Accepted → Admitted q given len
unfolding weight_checks Held
admitted q given len e =
    let held = in_order-all _ e in
    let s = require_at-held _ _ _ held.0 in
    record {
      sizes = s;
      precision_lt = ltb-true q.precision 3 (require_at-held _ _ _ held.1.0);
      layout = valid q s;
      count = eqb-true given (element_count q) (require_at-held _ _ _ held.1.1.0);
      room = leb-true (surface_bytes q) len (require_at-held _ _ _ held.1.1.1.0);
    }

module _ (q : WeightLayout) (raw : List ℤ) (before : List ℕ) where
  pub pack-admitted : pack_answer q raw (length before) ≡ Accepted → Admitted q (length raw) (length before)
  unfolding pack_answer
  pack-admitted e = admitted q (length raw) (length before) (in_order-front (weight_checks q (length raw) (length before)) (value_checks q.precision raw) e)

  pub pack-values : pack_answer q raw (length before) ≡ Accepted → in_order (value_checks q.precision raw) ≡ Accepted
  unfolding pack_answer
  pack-values e = in_order-back (weight_checks q (length raw) (length before)) (value_checks q.precision raw) e

  abbrev Pack : Answer → List ℕ → Type 0
  Pack answer after = (answer ≡ pack_answer q raw (length before)) × (after ≡ pack_buffer q raw before)

  by-refusal : {f : Fault} → pack_answer q raw (length before) ≡ Err f → Pack (Err f) before
  unfolding pack_buffer
  by-refusal e = (sym e, sym (leaves-before (packed q raw before) before e))

  pub pack-refused : {f : Fault} → in_order (weight_checks q (length raw) (length before)) ≡ Err f → Pack (Err f) before
  pack-refused e = by-refusal (unfold pack_answer in in_order-refused (weight_checks q (length raw) (length before)) (value_checks q.precision raw) e)

  module _ (passed : in_order (weight_checks q (length raw) (length before)) ≡ Accepted) where
    to_values : pack_answer q raw (length before) ≡ in_order (value_checks q.precision raw)
    unfolding pack_answer
    to_values = in_order-passed (weight_checks q (length raw) (length before)) (value_checks q.precision raw) passed

    pub pack-outside : {f : Fault} → in_order (value_checks q.precision raw) ≡ Err f → Pack (Err f) before
    pack-outside e = by-refusal (to_values ∙ e)

    pub pack-valid : in_order (value_checks q.precision raw) ≡ Accepted → Pack Accepted (packed q raw before)
    unfolding pack_buffer
    pack-valid e = (sym (to_values ∙ e), sym (leaves-done (packed q raw before) before (to_values ∙ e)))

module _ (q : WeightLayout) (buffer : List ℕ) (before : List ℤ) where
  abbrev Unpack : Answer → List ℤ → Type 0
  Unpack answer after = (answer ≡ unpack_answer q (length before) (length buffer)) × (after ≡ unpack_elements q buffer before)

  pub unpack-refused : {f : Fault} → in_order (weight_checks q (length before) (length buffer)) ≡ Err f → Unpack (Err f) before
  unfolding unpack_answer unpack_elements
  unpack-refused e = (sym e, sym (leaves-before (unpacked q buffer) before e))

  pub unpack-valid : in_order (weight_checks q (length before) (length buffer)) ≡ Accepted → Unpack Accepted (unpacked q buffer)
  unfolding unpack_answer unpack_elements
  unpack-valid e = (sym e, sym (leaves-done (unpacked q buffer) before e))
