-- What an accepted packing comes to (Claims.antt): the checks that passed tell the sizes, the count and the room, and the laws of `packed` do the
-- rest. Assumes nothing.
use Prim.Native.Nat.{ℕ, ◌+◌, ◌*◌, ◌%◌, ◌≤◌, ◌<◌}
use native.Mathlib.Omega.{arith}
use native.Mathlib.Decide.{dec_lt}
use mathlib.Core.Path.{◌≡◌, sym, ap, ◌∙◌}
use mathlib.Core.Logic.{◌⊎◌, inl, inr}
use mathlib.Core.List.{List}
use lib.ListN.{length, get_or}
use lib.IntN.{ℤ, pos}
use Rattle.std.specs.Prelude.{Ok}
use Rattle.refusal.specs.Checks.{in_order, Accepted}
use Rattle.refusal.proofs.CheckLaws.{in_order-front, leaves-done, given-accepted}
use Rattle.elements.specs.Bytes.{byte_of}
use Rattle.elements.specs.Values.{SixteenBit, value_checks}
use Rattle.weights.specs.declared.WeightLayout.{WeightLayout}
use Rattle.weights.specs.Geometry.{size_of, element_count, raw_index, element_position, surface_bytes, raw_at, number_at}
use Rattle.weights.specs.Places.{Element, ElementByte, FillByte}
use Rattle.weights.specs.Rules.{setting_checks, weight_checks}
use Rattle.weights.specs.Contents.{packed, unpacked}
use Rattle.weights.specs.Calls.{pack_answer, pack_buffer, unpack_answer, unpack_elements, count_quantity, extent_quantity, position_quantity}
use Rattle.weights.proofs.Valid.{inside}
use Rattle.weights.proofs.RuleLaws.{element-valid}
use Rattle.weights.proofs.CallLaws.{Admitted, pack-admitted}
use Rattle.weights.proofs.IndexLaws.{raw_at-lt, number_at-raw_at, raw_at-number_at}
use Rattle.weights.proofs.PositionLaws as positions
use Rattle.weights.proofs.SurfaceLaws as surface
use Rattle.weights.proofs.RoundTrip as round_trip

module _ (q : WeightLayout) (raw : List ℤ) (before : List ℕ) (accepted : pack_answer q raw (length before) ≡ Accepted) where
  adm : Admitted q (length raw) (length before)
  adm = pack-admitted q raw before accepted

  -- checks 1, 2 passed
  setting : in_order (setting_checks q) ≡ Accepted
  unfolding pack_answer weight_checks
  setting = in_order-front (setting_checks q) _ (in_order-front (weight_checks q (length raw) (length before)) (value_checks q.precision raw) accepted)

  pub position-given : (k c r s : ℕ) → Element q k c r s → position_quantity q k c r s ≡ Ok (element_position q k c r s)
  unfolding position_quantity
  position-given k c r s x = given-accepted (element_position q k c r s) (sym (element-valid q k c r s setting (inside q k c r s x)))

  pub counts-given : (count_quantity q ≡ Ok (length raw)) × (extent_quantity q ≡ Ok (surface_bytes q))
  unfolding count_quantity extent_quantity
  counts-given = (given-accepted (element_count q) setting ∙ ap (λ (n : ℕ). Ok n) (sym adm.count), given-accepted (surface_bytes q) setting)

  -- what packing leaves
  left : pack_buffer q raw before ≡ packed q raw before
  unfolding pack_buffer
  left = leaves-done (packed q raw before) before accepted

  at : (p n : ℕ) → get_or (packed q raw before) p 0 ≡ n → get_or (pack_buffer q raw before) p 0 ≡ n
  at p n e = ap (λ (l : List ℕ). get_or l p 0) left ∙ e

  pub element-own : (k c r s b k' c' r' s' b' : ℕ) → Element q k c r s → Element q k' c' r' s' → b < size_of q → b' < size_of q
      → element_position q k c r s + b ≡ element_position q k' c' r' s' + b' → (k ≡ k') × (c ≡ c') × (r ≡ r') × (s ≡ s') × (b ≡ b')
  element-own = positions.position-own q

  pub element-aligned : (k c r s : ℕ) → element_position q k c r s % size_of q ≡ 0
  element-aligned = positions.position-aligned q

  pub element-inside : (k c r s : ℕ) → Element q k c r s → element_position q k c r s + size_of q ≤ length before
  element-inside k c r s x = omega (arith, positions.position-inside q k c r s x, adm.room)

  pub element-written : (k c r s b : ℕ) → Element q k c r s → b < size_of q
      → get_or (pack_buffer q raw before) (element_position q k c r s + b) 0 ≡ byte_of (get_or raw (raw_index q k c r s) (pos 0)) b
  element-written k c r s b x hb =
      at (element_position q k c r s + b) (byte_of (get_or raw (raw_index q k c r s) (pos 0)) b) (positions.packing-writes q raw before adm.room k c r s b x hb)

  pub fill-zero : (p : ℕ) → FillByte q p → get_or (pack_buffer q raw before) p 0 ≡ 0
  fill-zero p f = at p 0 (surface.packed-fill q raw before p f.from f.to (omega (arith, f.to, adm.room)))

  pub later-kept : (p : ℕ) → surface_bytes q ≤ p → get_or (pack_buffer q raw before) p 0 ≡ get_or before p 0
  later-kept p h = at p (get_or before p 0) (surface.packed-past q raw before p h)

  pub no-fourth : (p : ℕ) → ElementByte q p ⊎ (FillByte q p ⊎ (surface_bytes q ≤ p))
  no-fourth p = elim (dec_lt p (element_count q * size_of q)) [
    | yes lt ↦ inl (positions.element-byte q adm.layout p lt)
    | no f ↦ inr (elim (dec_lt p (surface_bytes q)) [ yes lt ↦ inl (record { from = omega arith; to = lt }) | no g ↦ inr (omega arith) ])
  ]

  pub surface-whole : (surface_bytes q % 128 ≡ 0) × (surface_bytes q ≤ length before)
  surface-whole = (surface.surface-whole q, adm.room)

  pub length-kept : length (pack_buffer q raw before) ≡ length before
  length-kept = ap length left ∙ surface.packed-length q raw before

  pub number-of-raw : (i : ℕ) → i < element_count q → (raw_at q i < element_count q) × (number_at q (raw_at q i) ≡ i) × (raw_at q (number_at q i) ≡ i)
  number-of-raw i h = (raw_at-lt q adm.layout i h, number_at-raw_at q adm.layout i h, raw_at-number_at q adm.layout i h)

  -- unpacking is checked as packing was, without 7 and 26
  unpacks : (cells : List ℤ) → length cells ≡ length raw → unpack_answer q (length cells) (length (pack_buffer q raw before)) ≡ Accepted
  unfolding pack_answer unpack_answer
  unpacks cells e = rw (e, length-kept) (in_order-front (weight_checks q (length raw) (length before)) (value_checks q.precision raw) accepted)

  pub read_back : SixteenBit raw → (cells : List ℤ) → length cells ≡ length raw
      → (unpack_answer q (length cells) (length (pack_buffer q raw before)) ≡ Accepted) × (unpack_elements q (pack_buffer q raw before) cells ≡ raw)
  unfolding unpack_elements
  read_back sixteen cells e =
      (unpacks cells e, leaves-done (unpacked q (pack_buffer q raw before)) cells (unpacks cells e) ∙ ap (unpacked q) left ∙ round_trip.read_back q raw before sixteen.each accepted)
