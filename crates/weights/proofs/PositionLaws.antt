-- The bytes of the elements: each element has its own, aligned, inside the surface, and every byte below the last element's end is one of them.
-- A byte's position is a number of two digits, the element's number and the byte. Assumes nothing.
--     position-own, position-aligned, position-inside     an element's place
--     ElementByte, element-byte                           a byte of an element, exactly below the last one's end
--     packing-writes                                      the byte there after packing
use Prim.Native.Nat.{ℕ, suc, ◌+◌, ◌*◌, ◌/◌, ◌%◌, ◌≤◌, ◌<◌}
use native.Mathlib.Nat.{mul-mod_left, mul-le-mul_right, mod-lt, div-add-mod', div-lt_iff_lt-mul}
use native.Mathlib.Omega.{arith}
use mathlib.Core.Path.{◌≡◌, sym, ap, ◌∙◌}
use mathlib.Core.List.{List}
use lib.Arith.{digits_div, digits_mod}
use lib.ListN.{length, get_or}
use lib.IntN.{ℤ, pos}
use Rattle.elements.specs.Bytes.{byte_of}
use Rattle.elements.proofs.ByteLaws.{element_bytes-pos}
use Rattle.weights.specs.declared.WeightLayout.{WeightLayout}
use Rattle.weights.specs.Geometry.{size_of, element_count, raw_index, element_number, element_position, surface_bytes}
use Rattle.weights.specs.Contents.{packed}
use Rattle.weights.proofs.Valid.{Valid}
use Rattle.weights.proofs.ElementLaws.{Element, number_lt, number-inj, raw_at-number}
use Rattle.weights.proofs.IndexLaws.{number-reached}
use Rattle.weights.proofs.SurfaceLaws.{surface_ge, byte-within, packed-byte}
use Rattle.weights.specs.Places.{ElementByte}

module _ (q : WeightLayout) (k c r s b : ℕ) (hb : b < size_of q) where
  position-number : (element_position q k c r s + b) / size_of q ≡ element_number q k c r s
  unfolding element_position
  position-number = digits_div (element_number q k c r s) hb

  position-byte : (element_position q k c r s + b) % size_of q ≡ b
  unfolding element_position
  position-byte = digits_mod (element_number q k c r s) hb

module _ (q : WeightLayout) where
  pub position-own : (k c r s b k' c' r' s' b' : ℕ) → Element q k c r s → Element q k' c' r' s' → b < size_of q → b' < size_of q
      → element_position q k c r s + b ≡ element_position q k' c' r' s' + b' → (k ≡ k') × (c ≡ c') × (r ≡ r') × (s ≡ s') × (b ≡ b')
  position-own k c r s b k' c' r' s' b' x x' hb hb' e =
      let number : element_number q k c r s ≡ element_number q k' c' r' s' = sym (position-number q k c r s b hb) ∙ ap (λ (p : ℕ). p / size_of q) e ∙ position-number q k' c' r' s' b' hb' in
      let same = number-inj q k c r s k' c' r' s' x x' number in
      (same.0, same.1, same.2, same.3, sym (position-byte q k c r s b hb) ∙ ap (λ (p : ℕ). p % size_of q) e ∙ position-byte q k' c' r' s' b' hb')

  pub position-aligned : (k c r s : ℕ) → element_position q k c r s % size_of q ≡ 0
  unfolding element_position
  position-aligned k c r s = mul-mod_left (element_number q k c r s) (size_of q)

  pub position-inside : (k c r s : ℕ) → Element q k c r s → element_position q k c r s + size_of q ≤ surface_bytes q
  unfolding element_position
  position-inside k c r s x =
      omega (arith, surface_ge q, mul-le-mul_right {m = suc (element_number q k c r s)} {n = element_count q} (size_of q) (number_lt q k c r s x))

  pub element-byte : Valid q → (p : ℕ) → p < element_count q * size_of q → ElementByte q p
  unfolding element_position
  element-byte ok p h =
      let e = size_of q in
      let pos-e = element_bytes-pos q.precision in
      let i = p / e in
      let x = number-reached q ok i ((div-lt_iff_lt-mul pos-e).1 h) in
      record {
        k = x.k;
        c = x.c;
        r = x.r;
        s = x.s;
        b = p % e;
        element = x.element;
        byte_lt = mod-lt p pos-e;
        place = sym (div-add-mod' p e) ∙ ap (λ (n : ℕ). n * e + p % e) (sym x.number);
      }

  pub packing-writes : (raw : List ℤ) (before : List ℕ) → surface_bytes q ≤ length before → (k c r s b : ℕ) → Element q k c r s → b < size_of q
      → get_or (packed q raw before) (element_position q k c r s + b) 0 ≡ byte_of (get_or raw (raw_index q k c r s) (pos 0)) b
  unfolding element_position
  packing-writes raw before room k c r s b x hb =
      packed-byte q raw before (element_number q k c r s) b (number_lt q k c r s x) hb
      (omega (arith, room, surface_ge q, byte-within q (element_number q k c r s) b (number_lt q k c r s x) hb))
      ∙ ap (λ (n : ℕ). byte_of (get_or raw n (pos 0)) b) (raw_at-number q k c r s x)
