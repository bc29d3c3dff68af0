-- No NaN in an fp16 raw tensor: every element is one that the precision takes, from the packing on and after every call. Assumes nothing.
--     no_nan          in the model's raw tensor, at every moment
--     no-nan-read     in the elements of an accepted read
use Prim.Native.Nat.{ℕ, ◌≤◌, ◌<◌}
use native.Mathlib.Decide.{dec_lt}
use native.Mathlib.Omega.{arith}
use mathlib.Core.Path.{◌≡◌, refl, sym, ap, ◌∙◌, subst, subst⁻¹}
use mathlib.Core.Bool.{Bool, true, false, not}
use mathlib.Core.List.{List}
use lib.ListN.{length, get_or, get_or-eq_default}
use lib.IntN.{ℤ, pos}
use Rattle.refusal.specs.Checks.{Accepted}
use Rattle.refusal.proofs.CheckLaws.{leaves-done}
use Rattle.elements.specs.Bytes.{byte_of}
use Rattle.elements.specs.Values.{is_nan, value_valid}
use Rattle.elements.proofs.TabulateLaws.{length-tabulate, get_d_tabulate}
use Rattle.elements.proofs.ElementLaws.{value_valid-fp16}
use Rattle.layout.specs.declared.CubeLayout.{CubeLayout}
use Rattle.layout.specs.declared.ElementBox.{ElementBox}
use Rattle.layout.specs.Geometry.{raw_index}
use Rattle.layout.specs.Boxes.{box_count, channel_at, row_at, column_at}
use Rattle.layout.specs.Calls.{pack_answer}
use Rattle.regions.specs.Rules.{region_box}
use Rattle.history.specs.Program.{Call, read, SixteenBit, Lends_sixteen_bit, step, moment}
use Rattle.history.specs.Model.{box_read, Plain, named, plain_answer, plain_step, model_to, given}
use Rattle.history.proofs.TensorLaws.{Fits}
use Rattle.history.proofs.Agreement.{same-reply, same-elements}
use Rattle.history.proofs.Simulation.{agrees_at}

not-true : (b : Bool) → not b ≡ true → b ≡ false
not-true true e = sym e
not-true false e = refl

-- a list of which no element, in it or missing, is NaN
abbrev NoNan : List ℤ → Type 0
NoNan xs = (i : ℕ) → is_nan (get_or xs i (pos 0)) ≡ false

-- a missing element is 0, which is no NaN
each : (xs : List ℤ) (n : ℕ) → length xs ≡ n → ((i : ℕ) → i < n → is_nan (get_or xs i (pos 0)) ≡ false) → NoNan xs
unfolding is_nan byte_of
each xs n long h i = elim (dec_lt i n) [
  | yes k ↦ h i k
  | no k ↦ ap is_nan (get_or-eq_default xs (pos 0) (subst⁻¹ (λ (m : ℕ). m ≤ i) long (omega arith)))
]

module _ (q : CubeLayout) (fp16 : q.precision ≡ 2) where
  taken-no-nan : (raw : List ℤ) → Fits q raw → NoNan raw
  taken-no-nan raw f =
      each raw (length raw) refl
      (λ i h.
      let taken : value_valid 2 (get_or raw i (pos 0)) ≡ true = subst (λ (p : ℕ). value_valid p (get_or raw i (pos 0)) ≡ true) fp16 (f.valid i h) in
      not-true (is_nan (get_or raw i (pos 0))) (sym (value_valid-fp16 0 (get_or raw i (pos 0))) ∙ taken))

  box-no-nan : (raw : List ℤ) (box : ElementBox) → NoNan raw → NoNan (box_read q box raw)
  unfolding box_read
  box-no-nan raw box none =
      each (box_read q box raw) (box_count box) (length-tabulate _ (box_count box))
      (λ i h. ap is_nan (get_d_tabulate _ (box_count box) i (pos 0) h) ∙ none (raw_index q (channel_at box i) (row_at box i) (column_at box i)))

module _ (q : CubeLayout) (raw : List ℤ) (before : List ℕ) (accepted : pack_answer q raw (length before) ≡ Accepted) (sixteen : SixteenBit raw) (calls : List Call) (lent : Lends_sixteen_bit calls)
    (fp16 : q.precision ≡ 2) where
  abbrev plain : Plain
  plain = model_to q (length before) (given raw) calls

  pub no_nan : (i : ℕ) → is_nan (get_or plain.raw i (pos 0)) ≡ false
  no_nan = taken-no-nan q fp16 plain.raw (agrees_at q raw before accepted sixteen calls lent).fits

  pub no-nan-read : (n id : ℕ) (b : ElementBox) (ys : List ℤ) → (step (moment q raw before calls) (read n id b ys)).reply.answer ≡ Accepted
      → (i : ℕ) → is_nan (get_or (step (moment q raw before calls) (read n id b ys)).elements i (pos 0)) ≡ false
  unfolding plain_step
  no-nan-read n id b ys ok =
      let s = moment q raw before calls in
      let a = agrees_at q raw before accepted sixteen calls lent in
      let box = region_box (named q (length before) plain n id) b in
      let told : plain_answer q (length before) plain (read n id b ys) ≡ Accepted = sym (λ i. (same-reply q before s plain a (read n id b ys) i).answer) ∙ ok in
      let given-elements : (step s (read n id b ys)).elements ≡ box_read q box plain.raw = same-elements q before s plain a (read n id b ys) ∙ leaves-done (box_read q box plain.raw) ys told in
      subst⁻¹ NoNan given-elements (box-no-nan q fp16 plain.raw box no_nan)
