-- The packed surface: whole in 128 bytes, and its bytes after packing (specs/Contents.antt), each at the byte of an element, in the fill or past
-- the surface. Assumes nothing.
--     surface-whole, surface_ge, surface_lt     the surface's length
--     packed-length, packed-at, packed-byte, packed-fill, packed-past     the bytes after packing
use Prim.Native.Nat.{ℕ, suc, ◌+◌, ◌*◌, ◌%◌, ◌≤◌, ◌<◌}
use native.Mathlib.Nat.{mul-le-mul_right}
use native.Mathlib.Decide.{dec_lt}
use native.Mathlib.Omega.{arith}
use mathlib.Core.Path.{◌≡◌, sym, ◌∙◌, subst}
use mathlib.Core.List.{List}
use lib.Arith.{digits_div, digits_mod}
use lib.ListN.{length, get_or, get_or-eq_default}
use lib.IntN.{ℤ, pos}
use borrow.Author.Tests.{lt-ltb, le-ltb}
use Rattle.elements.specs.Bytes.{byte_of}
use Rattle.elements.proofs.ListLaws.{length-remade, get_or-remade}
use Rattle.weights.specs.declared.WeightLayout.{WeightLayout}
use Rattle.weights.specs.Geometry.{size_of, element_count, surface_bytes, raw_at}
use Rattle.weights.specs.Contents.{packed_byte, packed}

module _ (q : WeightLayout) where
  pub surface-whole : surface_bytes q % 128 ≡ 0
  unfolding surface_bytes
  surface-whole = omega arith

  pub surface_ge : element_count q * size_of q ≤ surface_bytes q
  unfolding surface_bytes
  surface_ge = omega arith

  pub surface_lt : surface_bytes q < element_count q * size_of q + 128
  unfolding surface_bytes
  surface_lt = omega arith

  -- byte b of the element with number k is one of the elements' bytes
  pub byte-within : (k b : ℕ) → k < element_count q → b < size_of q → k * size_of q + b < element_count q * size_of q
  byte-within k b hk hb = omega (arith, mul-le-mul_right {m = suc k} {n = element_count q} (size_of q) hk)

module _ (q : WeightLayout) (raw : List ℤ) (before : List ℕ) where
  pub packed-length : length (packed q raw before) ≡ length before
  unfolding packed
  packed-length = length-remade (packed_byte q raw) before

  pub packed-at : (p : ℕ) → p < length before → get_or (packed q raw before) p 0 ≡ packed_byte q raw p (get_or before p 0)
  unfolding packed
  packed-at p h = get_or-remade (packed_byte q raw) before p 0 h

  pub packed-byte : (k b : ℕ) → k < element_count q → b < size_of q → k * size_of q + b < length before
      → get_or (packed q raw before) (k * size_of q + b) 0 ≡ byte_of (get_or raw (raw_at q k) (pos 0)) b
  unfolding packed_byte
  packed-byte k b hk hb h =
      packed-at (k * size_of q + b) h
      ∙ rw (lt-ltb (k * size_of q + b) (element_count q * size_of q) (byte-within q k b hk hb), digits_div k {m = size_of q} {r = b} hb, digits_mod k {m = size_of q} {r = b} hb)

  pub packed-fill : (p : ℕ) → element_count q * size_of q ≤ p → p < surface_bytes q → p < length before → get_or (packed q raw before) p 0 ≡ 0
  unfolding packed_byte
  packed-fill p from to h =
      packed-at p h ∙ rw (le-ltb p (element_count q * size_of q) from, lt-ltb p (surface_bytes q) to)

  pub packed-past : (p : ℕ) → surface_bytes q ≤ p → get_or (packed q raw before) p 0 ≡ get_or before p 0
  unfolding packed_byte
  packed-past p past =
      let from : element_count q * size_of q ≤ p = omega (arith, surface_ge q) in
      elim (dec_lt p (length before)) [
        | yes h ↦ packed-at p h ∙ rw (le-ltb p (element_count q * size_of q) from, le-ltb p (surface_bytes q) past)
        | no f ↦ get_or-eq_default (packed q raw before) 0 (subst (λ (n : ℕ). n ≤ p) (sym packed-length) (omega arith)) ∙ sym (get_or-eq_default before 0 (omega arith))
      ]
