-- The claims about packed weights, of the calls themselves (demand 2; scope paper, "Weights"). Packing was accepted. Then each element has its own
-- aligned place inside the buffer, which `position` gives, and `count` and `extent` give the elements lent and the bytes packed; packing writes the elements' bytes, fills with 0 up to a multiple of 128 bytes and keeps every later byte, and
-- there is no fourth kind; unpacking what packing left is accepted and fills the caller's elements with the raw weights. The words are those of
-- specs/Places.antt. Once over the element size and the group size. Assumes nothing.
use Prim.Native.Nat.{ℕ, ◌+◌, ◌%◌, ◌≤◌, ◌<◌}
use mathlib.Core.Path.{◌≡◌}
use mathlib.Core.Logic.{◌⊎◌}
use mathlib.Core.List.{List}
use lib.ListN.{length, get_or}
use lib.IntN.{ℤ, pos}
use Rattle.std.specs.Prelude.{Ok}
use Rattle.refusal.specs.Checks.{Accepted}
use Rattle.elements.specs.Bytes.{byte_of}
use Rattle.elements.specs.Values.{SixteenBit}
use Rattle.weights.specs.declared.WeightLayout.{WeightLayout}
use Rattle.weights.specs.Geometry.{size_of, element_count, raw_index, element_position, surface_bytes, raw_at, number_at}
use Rattle.weights.specs.Places.{Element, ElementByte, FillByte}
use Rattle.weights.specs.Calls.{pack_answer, pack_buffer, unpack_answer, unpack_elements, count_quantity, extent_quantity, position_quantity}
use Rattle.weights.proofs.PackLaws as pack

module _ (q : WeightLayout) (raw : List ℤ) (before : List ℕ) (accepted : pack_answer q raw (length before) ≡ Accepted) where
  pub element-own : (k c r s b k' c' r' s' b' : ℕ) → Element q k c r s → Element q k' c' r' s' → b < size_of q → b' < size_of q
      → element_position q k c r s + b ≡ element_position q k' c' r' s' + b' → (k ≡ k') × (c ≡ c') × (r ≡ r') × (s ≡ s') × (b ≡ b')
  element-own = pack.element-own q raw before accepted

  pub element-aligned : (k c r s : ℕ) → element_position q k c r s % size_of q ≡ 0
  element-aligned = pack.element-aligned q raw before accepted

  pub element-inside : (k c r s : ℕ) → Element q k c r s → element_position q k c r s + size_of q ≤ length before
  element-inside = pack.element-inside q raw before accepted

  pub position-given : (k c r s : ℕ) → Element q k c r s → position_quantity q k c r s ≡ Ok (element_position q k c r s)
  position-given = pack.position-given q raw before accepted

  pub counts-given : (count_quantity q ≡ Ok (length raw)) × (extent_quantity q ≡ Ok (surface_bytes q))
  counts-given = pack.counts-given q raw before accepted

  pub element-written : (k c r s b : ℕ) → Element q k c r s → b < size_of q
      → get_or (pack_buffer q raw before) (element_position q k c r s + b) 0 ≡ byte_of (get_or raw (raw_index q k c r s) (pos 0)) b
  element-written = pack.element-written q raw before accepted

  pub fill-zero : (p : ℕ) → FillByte q p → get_or (pack_buffer q raw before) p 0 ≡ 0
  fill-zero = pack.fill-zero q raw before accepted

  pub later-kept : (p : ℕ) → surface_bytes q ≤ p → get_or (pack_buffer q raw before) p 0 ≡ get_or before p 0
  later-kept = pack.later-kept q raw before accepted

  pub no-fourth : (p : ℕ) → ElementByte q p ⊎ (FillByte q p ⊎ (surface_bytes q ≤ p))
  no-fourth = pack.no-fourth q raw before accepted

  pub surface-whole : (surface_bytes q % 128 ≡ 0) × (surface_bytes q ≤ length before)
  surface-whole = pack.surface-whole q raw before accepted

  pub length-kept : length (pack_buffer q raw before) ≡ length before
  length-kept = pack.length-kept q raw before accepted

  -- the numbering of the definitions is one to one: each number below the count is one raw index's, and back
  pub number-of-raw : (i : ℕ) → i < element_count q → (raw_at q i < element_count q) × (number_at q (raw_at q i) ≡ i) × (raw_at q (number_at q i) ≡ i)
  number-of-raw = pack.number-of-raw q raw before accepted

  pub read_back : SixteenBit raw → (cells : List ℤ) → length cells ≡ length raw
      → (unpack_answer q (length cells) (length (pack_buffer q raw before)) ≡ Accepted) × (unpack_elements q (pack_buffer q raw before) cells ≡ raw)
  read_back = pack.read_back q raw before accepted
