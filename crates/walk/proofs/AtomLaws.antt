-- The bytes of an atom by its walk are those that packing writes. An atom holds 32 bytes of channels, so byte k of surface s is byte k mod e of channel
-- s times the elements of an atom and k / e. Once over the element size. Assumes nothing.
--     channel-at, byte_at      channel and byte of an atom's byte
--     channel-before           it is before the last channel's end
--     atom_byte-packed          the byte
use Prim.Native.Nat.{ℕ, suc, ◌+◌, ◌-◌, ◌*◌, ◌/◌, ◌%◌}
use native.Mathlib.Nat.{mul-le-mul_right, mod-lt, div-add-mod'}
use native.Mathlib.Decide.{dec_lt}
use native.Mathlib.Omega.{arith}
use mathlib.Core.Path.{◌≡◌, refl, sym, ap, ◌∙◌}
use mathlib.Core.Bool.{Bool, true, false, cond}
use mathlib.Core.List.{List}
use lib.Arith.{digits_div, digits_mod}
use lib.Dec.{ltb}
use lib.IntN.{ℤ, pos}
use lib.ListN.{get_or}
use borrow.Author.Tests.{lt-ltb, le-ltb}
use Rattle.elements.specs.Bytes.{byte_of}
use Rattle.elements.proofs.ByteLaws.{element_bytes-pos}
use Rattle.layout.specs.declared.CubeLayout.{CubeLayout}
use Rattle.layout.specs.Geometry.{size_of, raw_index}
use Rattle.layout.specs.Owners.{element, padding, atom_owner}
use Rattle.layout.specs.Contents.{packed_byte}
use Rattle.walk.specs.Walks.{atom_elements, atom_byte}
use Rattle.walk.proofs.SizeLaws.{atom_elements-bytes}

module _ (q : CubeLayout) (s : ℕ) where
  abbrev e : ℕ
  e = size_of q

  -- the first channel of the surface
  abbrev c : ℕ
  c = s * atom_elements q.precision

  digits : (k : ℕ) → 32 * s + k ≡ (c + k / e) * e + k % e
  digits k = omega (arith, div-add-mod' k e, ap (λ (x : ℕ). s * x) (atom_elements-bytes q.precision))

  pub channel-at : (k : ℕ) → (32 * s + k) / e ≡ c + k / e
  channel-at k = ap (λ (x : ℕ). x / e) (digits k) ∙ digits_div (c + k / e) (mod-lt k (element_bytes-pos q.precision))

  pub byte_at : (k : ℕ) → (32 * s + k) % e ≡ k % e
  byte_at k = ap (λ (x : ℕ). x % e) (digits k) ∙ digits_mod (c + k / e) (mod-lt k (element_bytes-pos q.precision))

  -- bytes before the end of the last channel are those of channels before the last one's end
  pub channel-before : (k : ℕ) → ltb (32 * s + k) (q.channels * e) ≡ ltb (k / e) (q.channels - c)
  channel-before k =
      elim (dec_lt (k / e) (q.channels - c)) [
        | yes h ↦
            lt-ltb (32 * s + k) (q.channels * e) (omega (arith, digits k, mod-lt k (element_bytes-pos q.precision), mul-le-mul_right {m = suc (c + k / e)} {n = q.channels} e (omega arith)))
            ∙ sym (lt-ltb (k / e) (q.channels - c) h)
        | no f ↦
            le-ltb (32 * s + k) (q.channels * e) (omega (arith, digits k, mul-le-mul_right {m = q.channels} {n = c + k / e} e (omega arith)))
            ∙ sym (le-ltb (k / e) (q.channels - c) (omega arith))
      ]

  module _ (raw : List ℤ) (h w : ℕ) where
    -- a channel's element lies a plane behind the one before
    channel-index : (n : ℕ) → raw_index q c h w + n * (q.height * q.width) ≡ raw_index q (c + n) h w
    unfolding raw_index
    channel-index n = omega arith

    pub atom_byte-packed : (k : ℕ) → atom_byte e (q.channels - c) (raw_index q c h w) (q.height * q.width) raw k ≡ packed_byte q raw (atom_owner q s h w k) 0
    unfolding atom_byte packed_byte atom_owner
    atom_byte-packed k = rw (channel-before k, channel-at k, byte_at k) (go (ltb (k / e) (q.channels - c)))
      where
        go : (t : Bool)
            → cond t (byte_of (get_or raw (raw_index q c h w + k / e * (q.height * q.width)) (pos 0)) (k % e)) 0 ≡ packed_byte q raw (cond t (element (c + k / e) h w (k % e)) padding) 0
        go true = ap (λ (i : ℕ). byte_of (get_or raw i (pos 0)) (k % e)) (channel-index (k / e))
        go false = refl
