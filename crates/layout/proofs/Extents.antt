-- Places lie inside the start and the extent, each element at a multiple of its size, and all within 64 bits. Assumes nothing.
--     atom-within         an atom's bytes end within the start and the extent
--     element-within      so do an element's
--     element-aligned     an element begins at a multiple of its size
--     element-column      along a row elements lie 32 bytes apart
--     surfaces-pos, surfaces-le, extent-lt     bounds
use Prim.Native.Nat.{ℕ, ◌+◌, ◌-◌, ◌*◌, ◌/◌, ◌%◌, ◌^◌, ◌≤◌, ◌<◌}
use native.Mathlib.Nat.{mul-le-mul_right, mul-le-mul, div-add-mod'}
use native.Mathlib.Omega.{arith}
use mathlib.Core.Path.{◌≡◌, ap, subst⁻¹}
use mathlib.Core.Logic.{◌⊎◌, ⊎_elim}
use Rattle.elements.proofs.ByteLaws.{element_bytes-cases, element_bytes-pos, element_bytes-le}
use Rattle.layout.specs.declared.CubeLayout.{CubeLayout}
use Rattle.layout.specs.Geometry.{size_of, surfaces, element_position, atom_position, cube_extent}
use Rattle.layout.proofs.Valid.{Valid}
use Rattle.layout.proofs.Views.{element-atom, element-surface}

pub element-column : (q : CubeLayout) (c h w i : ℕ) → element_position q c h (w + i) ≡ element_position q c h w + 32 * i
unfolding element_position
element-column q c h w i = omega arith

module _ (q : CubeLayout) (ok : Valid q) where
  pub atom-within : (s h w k : ℕ) → s < surfaces q → h < q.height → w < q.width → k ≤ 32 → atom_position q s h w k ≤ q.start + cube_extent q
  unfolding atom_position cube_extent
  atom-within s h w k hs hh hw hk =
      omega (
        arith,
        mul-le-mul_right {m = s} {n = surfaces q - 1} q.surface (omega arith),
        mul-le-mul_right {m = h} {n = q.height - 1} q.line (omega arith),
      )

  size-cases : (size_of q ≡ 1) ⊎ (size_of q ≡ 2)
  size-cases = element_bytes-cases q.precision

  -- the last byte of a channel, too, is in its atom
  channel-end : (c : ℕ) → c * size_of q % 32 + size_of q ≤ 32
  channel-end c = ⊎_elim (λ i. omega (arith, ap (λ (x : ℕ). c * x) i)) (λ i. omega (arith, ap (λ (x : ℕ). c * x) i)) size-cases

  pub element-within : (c h w : ℕ) → c < q.channels → h < q.height → w < q.width → element_position q c h w + size_of q ≤ q.start + cube_extent q
  element-within c h w hc hh hw =
      subst⁻¹ (λ (n : ℕ). n ≤ q.start + cube_extent q) (element-atom q c h w (size_of q))
      (atom-within (c * size_of q / 32) h w (c * size_of q % 32 + size_of q) (element-surface q ok c hc) hh hw (channel-end c))

  -- a multiple of 32, times any number
  scaled : (s n : ℕ) → n % 32 ≡ 0 → s * n ≡ s * (n / 32) * 32
  scaled s n e =
      let whole : n ≡ n / 32 * 32 = omega (arith, div-add-mod' n 32) in
      omega (arith, ap (λ (x : ℕ). s * x) whole)

  pub element-aligned : (c h w : ℕ) → element_position q c h w % size_of q ≡ 0
  unfolding element_position
  element-aligned c h w =
      let s = c * size_of q / 32 in
      let es = scaled s q.surface ok.surface_atoms in
      let el = scaled h q.line ok.line_atoms in
      let st = ok.start_atoms in
      let n = q.start + s * q.surface + h * q.line + w * 32 + c * size_of q % 32 in
      ⊎_elim
      (λ i. subst⁻¹ (λ (x : ℕ). n % x ≡ 0) i (omega arith))
      (λ i. subst⁻¹ (λ (x : ℕ). n % x ≡ 0) i (omega (arith, es, el, st, ap (λ (x : ℕ). c * x) i)))
      size-cases

  pub surfaces-pos : 0 < surfaces q
  unfolding surfaces
  surfaces-pos = omega (arith, mul-le-mul ok.channels_pos (element_bytes-pos q.precision))

  pub surfaces-le : surfaces q ≤ 512
  unfolding surfaces
  surfaces-le = omega (arith, mul-le-mul ok.channels_le (element_bytes-le q.precision))

  pub extent-lt : q.line < 2 ^ 32 → q.surface < 2 ^ 32 → cube_extent q < 2 ^ 46
  unfolding cube_extent
  extent-lt hl hs =
      let a : (surfaces q - 1) * q.surface ≤ 512 * 2 ^ 32 = mul-le-mul {n₂ = 512} {m₂ = 2 ^ 32} (omega (arith, surfaces-le)) (omega arith) in
      let b : (q.height - 1) * q.line ≤ 8192 * 2 ^ 32 = mul-le-mul {n₂ = 8192} {m₂ = 2 ^ 32} (omega (arith, ok.height_le)) (omega arith) in
      omega (arith, a, b, ok.width_le)
