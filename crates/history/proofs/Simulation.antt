-- Program and model start in step and stay so over every list of calls; packing the model's raw tensor is accepted at every moment, so that the buffer is
-- what packing it would have left. By induction on the list. Assumes nothing.
--     still-packs, buffer-packed    the model's raw tensor packs, and the buffer is it packed
--     same-list, agrees-run         every list of calls
--     in_step                       the beginning
--     agrees_at, packs-at, every-list   from the beginning on
use Prim.Native.Nat.{ℕ}
use mathlib.Core.Path.{◌≡◌, refl, sym, ap, ◌∙◌}
use mathlib.Core.List.{List, [], ◌∷◌, map}
use lib.ListN.{length}
use lib.IntN.{ℤ}
use Rattle.refusal.specs.Checks.{in_order, Accepted}
use Rattle.refusal.proofs.CheckLaws.{in_order-front, in_order-passed, leaves-done}
use Rattle.elements.specs.Values.{value_checks}
use Rattle.elements.proofs.ValueLaws.{value_checks-all}
use Rattle.layout.specs.declared.CubeLayout.{CubeLayout}
use Rattle.layout.specs.Geometry.{element_count}
use Rattle.layout.specs.Rules.{cube_checks}
use Rattle.layout.specs.Contents.{packed}
use Rattle.layout.specs.Calls.{pack_answer, pack_buffer}
use Rattle.layout.proofs.BoxLaws.{whole-count}
use Rattle.layout.proofs.CallLaws.{pack-admitted, pack-values}
use Rattle.regions.specs.Slots.{slot_of, slots_of, empty_slots}
use Rattle.history.specs.Program.{Call, SixteenBit, Lends_sixteen_bit, State, beginning, step, program, run_to, moment}
use Rattle.history.specs.Model.{Plain, plain_step, model, model_to, shown, given}
use Rattle.history.proofs.TensorLaws.{checked-fits}
use Rattle.history.proofs.Agreement.{Agrees, same-reply, same-elements, agrees_after}

module _ (q : CubeLayout) (before : List ℕ) where
  pub agrees-run : (s : State) (m : Plain) → Agrees q before s m → (calls : List Call) → Lends_sixteen_bit calls → Agrees q before (run_to s calls) (model_to q (length before) m calls)
  unfolding run_to model_to Lends_sixteen_bit
  agrees-run s m a [] lent = a
  agrees-run s m a (c ∷ calls) lent = agrees-run (step s c).state (plain_step q (length before) m c).state (agrees_after q before s m a c lent.0) calls lent.1

  module _ (room : in_order (cube_checks q (element_count q) (length before)) ≡ Accepted) where
    pub still-packs : (s : State) (m : Plain) → Agrees q before s m → pack_answer q m.raw (length before) ≡ Accepted
    unfolding pack_answer
    still-packs s m a =
        in_order-passed (cube_checks q (length m.raw) (length before)) (value_checks q.precision m.raw) (ap (λ (n : ℕ). in_order (cube_checks q n (length before))) a.count ∙ room)
        ∙ value_checks-all q.precision m.raw a.fits.valid

    buffer-packed : (s : State) (m : Plain) → Agrees q before s m → s.buffer ≡ pack_buffer q m.raw before
    unfolding pack_buffer
    buffer-packed s m a = a.bytes ∙ sym (leaves-done (packed q m.raw before) before (still-packs s m a))

    pub same-list : (s : State) (m : Plain) → Agrees q before s m → (calls : List Call) → Lends_sixteen_bit calls → program s calls ≡ map (shown q before) (model q (length before) m calls)
    unfolding program model Lends_sixteen_bit shown
    same-list s m a [] lent = refl
    same-list s m a (c ∷ calls) lent =
        let s' = (step s c).state in
        let m' = (plain_step q (length before) m c).state in
        let next = agrees_after q before s m a c lent.0 in
        let tail = same-list s' m' next calls lent.1 in
        λ i. record { reply = same-reply q before s m a c i; elements = same-elements q before s m a c i; buffer = buffer-packed s' m' next i } ∷ tail i

-- ---- the beginning
module _ (q : CubeLayout) (raw : List ℤ) (before : List ℕ) (accepted : pack_answer q raw (length before) ≡ Accepted) where
  count : length raw ≡ element_count q
  count = (pack-admitted q raw (length before) accepted).count ∙ whole-count q

  pub room : in_order (cube_checks q (element_count q) (length before)) ≡ Accepted
  unfolding pack_answer
  room =
      sym (ap (λ (n : ℕ). in_order (cube_checks q n (length before))) count)
      ∙ in_order-front (cube_checks q (length raw) (length before)) (value_checks q.precision raw) accepted

  pub in_step : SixteenBit raw → Agrees q before (beginning q raw before).state (given raw)
  unfolding pack_buffer slots_of slot_of empty_slots
  in_step sixteen =
      record {
        layout = refl;
        slots = refl;
        count = count;
        fits = checked-fits q raw sixteen (pack-values q raw (length before) accepted);
        bytes = leaves-done (packed q raw before) before accepted;
      }

  -- ---- every moment
  module _ (sixteen : SixteenBit raw) (calls : List Call) (lent : Lends_sixteen_bit calls) where
    pub agrees_at : Agrees q before (moment q raw before calls) (model_to q (length before) (given raw) calls)
    agrees_at = agrees-run q before (beginning q raw before).state (given raw) (in_step sixteen) calls lent

    pub packs-at : pack_answer q (model_to q (length before) (given raw) calls).raw (length before) ≡ Accepted
    packs-at = still-packs q before room (moment q raw before calls) (model_to q (length before) (given raw) calls) agrees_at

    pub every-list : program (beginning q raw before).state calls ≡ map (shown q before) (model q (length before) (given raw) calls)
    every-list = same-list q before room (beginning q raw before).state (given raw) (in_step sixteen) calls lent
