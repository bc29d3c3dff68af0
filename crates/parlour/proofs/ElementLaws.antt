-- The elements that a picture becomes: how many, and that each is one of the precision's and of 16 bits. Assumes nothing.
--     converted-valid, converted-mag      a converted component: int8 and int16 take it
--     painted-length, painted-at          a picture's elements
--     painted-valid, painted-sixteen      each is one of the precision's, and of 16 bits
use Prim.Native.Nat.{ℕ, zero, suc, ◌/◌, ◌^◌, ◌≤◌, ◌<◌}
use native.Mathlib.Decide.{dec_lt}
use native.Mathlib.Omega.{arith}
use mathlib.Core.Path.{◌≡◌, subst, subst⁻¹}
use mathlib.Core.Bool.{true}
use mathlib.Core.List.{List}
use lib.ListN.{length, get_or, get_or-eq_default}
use lib.IntN.{ℤ, pos}
use lib.Signed.{mag}
use mir.Syntax.{w8}
use mir.Facts.{sfits_lit}
use Rattle.refusal.specs.Checks.{in_order, Accepted}
use Rattle.elements.specs.Bytes.{element_bytes}
use Rattle.elements.specs.Values.{SixteenBit, value_valid, value_checks}
use Rattle.elements.proofs.TabulateLaws.{length-tabulate, get_d_tabulate}
use Rattle.elements.proofs.ElementLaws.{fits-value_valid}
use Rattle.elements.proofs.ValueLaws.{value_checks-all}
use Rattle.integers.proofs.SaturateLaws.{fits-saturate}
use Rattle.layout.specs.Boxes.{box_count, channel_at, row_at, column_at}
use Rattle.pixels.specs.declared.PixelSetting.{PixelSetting}
use Rattle.quantize.specs.Quantize.{lowest, highest, rounded, quantized}
use Rattle.quantize.proofs.AnswerLaws.{quantized-fits}
use Rattle.parlour.specs.declared.Conversion.{Conversion}
use Rattle.parlour.specs.Components.{component, converted, image_box, painted_elements}

-- ---- one component

module _ (k : Conversion) (d : ℤ) where
  converted-fits : (p : ℕ) → mag (converted k p d) < 256 ^ element_bytes p / 2
  unfolding element_bytes quantized lowest highest
  converted-fits zero = (fits-saturate {w = w8} (rounded d k.offset k.scale k.shift) (sfits_lit tt) (sfits_lit tt)).sfits
  converted-fits (suc p) = (quantized-fits d k.offset k.scale k.shift (suc p)).sfits

  pub converted-valid : (p : ℕ) → p < 2 → value_valid p (converted k p d) ≡ true
  converted-valid p h = fits-value_valid p (converted k p d) h (converted-fits p)

  pub converted-mag : (p : ℕ) → mag (converted k p d) < 32768
  converted-mag p = (quantized-fits d k.offset k.scale k.shift p).sfits

-- ---- a picture

module _ (image : PixelSetting) (pixels : List ℕ) (k : Conversion) (p : ℕ) where
  pub painted-length : length (painted_elements image pixels k p) ≡ box_count (image_box image)
  unfolding painted_elements
  painted-length = length-tabulate _ (box_count (image_box image))

  pub painted-at : (i : ℕ) → i < box_count (image_box image)
      → let b = image_box image in get_or (painted_elements image pixels k p) i (pos 0) ≡ converted k p (component image pixels (channel_at b i) (column_at b i) (row_at b i))
  unfolding painted_elements
  painted-at i h = get_d_tabulate _ (box_count (image_box image)) i (pos 0) h

  -- what holds of every converted component, and of 0, holds of every element
  each : (P : ℤ → Type 0) → P (pos 0) → ((d : ℤ) → P (converted k p d)) → (i : ℕ) → P (get_or (painted_elements image pixels k p) i (pos 0))
  each P none some i =
      elim (dec_lt i (box_count (image_box image))) [
        | yes h ↦ subst⁻¹ P (painted-at i h) (some _)
        | no f ↦ subst⁻¹ P (get_or-eq_default (painted_elements image pixels k p) (pos 0) (subst⁻¹ (λ (n : ℕ). n ≤ i) painted-length (omega arith))) none
      ]

  pub painted-valid : p < 2 → in_order (value_checks p (painted_elements image pixels k p)) ≡ Accepted
  painted-valid h =
      value_checks-all p (painted_elements image pixels k p)
      (λ i b. subst⁻¹ (λ (z : ℤ). value_valid p z ≡ true) (painted-at i (subst (λ (n : ℕ). i < n) painted-length b)) (converted-valid k _ p h))

  pub painted-sixteen : SixteenBit (painted_elements image pixels k p)
  painted-sixteen = record { each = each (λ (z : ℤ). mag z < 32768) (omega arith) (λ d. converted-mag k d p) }
