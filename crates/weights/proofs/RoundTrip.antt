-- What is packed is read back: each element is made of the bytes that packing left at its number. Assumes nothing.
--     read-back     unpacking what was packed
use Prim.Native.Nat.{ℕ, ◌*◌, ◌<◌}
use native.Mathlib.Omega.{arith}
use mathlib.Core.Path.{◌≡◌, sym, ap, ◌∙◌, subst}
use mathlib.Core.List.{List}
use lib.ListN.{length, get_or}
use lib.Seq.{ext_get_or}
use lib.IntN.{ℤ, pos}
use lib.Signed.{mag}
use Rattle.refusal.specs.Checks.{Accepted}
use Rattle.elements.specs.Bytes.{element_at}
use Rattle.elements.proofs.ByteLaws.{element_at-byte_of}
use Rattle.elements.proofs.TabulateLaws.{length-tabulate, get_d_tabulate}
use Rattle.elements.proofs.ElementLaws.{value_valid-fits}
use Rattle.elements.proofs.ValueLaws.{value_checks-valid}
use Rattle.weights.specs.declared.WeightLayout.{WeightLayout}
use Rattle.weights.specs.Geometry.{size_of, element_count, raw_at, number_at}
use Rattle.weights.specs.Contents.{packed, unpacked}
use Rattle.weights.specs.Calls.{pack_answer}
use Rattle.weights.proofs.IndexLaws.{raw_at-lt, number_at-lt, raw_at-number_at}
use Rattle.weights.proofs.SurfaceLaws.{surface_ge, byte-within, packed-byte}
use Rattle.weights.proofs.CallLaws.{Admitted, pack-admitted, pack-values}

module _ (q : WeightLayout) (raw : List ℤ) (before : List ℕ) (sixteen : (i : ℕ) → mag (get_or raw i (pos 0)) < 32768) (accepted : pack_answer q raw (length before) ≡ Accepted) where
  adm : Admitted q (length raw) (length before)
  adm = pack-admitted q raw before accepted

  number-back : (k : ℕ) → k < element_count q → element_at (size_of q) (packed q raw before) (k * size_of q) ≡ get_or raw (raw_at q k) (pos 0)
  number-back k h =
      let z = get_or raw (raw_at q k) (pos 0) in
      let index : raw_at q k < length raw = omega (arith, adm.count, raw_at-lt q adm.layout k h) in
      element_at-byte_of (size_of q) z (packed q raw before) (k * size_of q)
      (value_valid-fits q.precision z (value_checks-valid q.precision raw (pack-values q raw before accepted) (raw_at q k) index) (sixteen (raw_at q k)))
      (λ b hb. packed-byte q raw before k b h hb (omega (arith, adm.room, surface_ge q, byte-within q k b h hb)))

  pub read_back : unpacked q (packed q raw before) ≡ raw
  unfolding unpacked
  read_back =
      let f : ℕ → ℤ = λ (i : ℕ). element_at (size_of q) (packed q raw before) (number_at q i * size_of q) in
      let long : length (unpacked q (packed q raw before)) ≡ element_count q = length-tabulate f (element_count q) in
      ext_get_or (pos 0) (unpacked q (packed q raw before)) raw (long ∙ sym adm.count)
      (λ i h.
      let hi : i < element_count q = subst (λ (n : ℕ). i < n) long h in
      get_d_tabulate f (element_count q) i (pos 0) hi
      ∙ number-back (number_at q i) (number_at-lt q adm.layout i hi)
      ∙ ap (λ (n : ℕ). get_or raw n (pos 0)) (raw_at-number_at q adm.layout i hi))
