-- `cube::runs::position_of` meets its contract: its sum is the definition's, below 2 ^ 47. Assumes nothing.
use Prim.Native.Nat.{ℕ, ◌+◌, ◌*◌, ◌/◌, ◌%◌, ◌^◌, ◌≤◌, ◌<◌}
use native.Mathlib.Omega.{arith}
use mathlib.Core.Path.{◌≡◌, ap, subst⁻¹}
use Rattle.layout.specs.declared.CubeLayout.{CubeLayout}
use Rattle.layout.specs.Geometry.{size_of, element_position}
use Rattle.layout.proofs.Valid.{Valid, valid}
use Rattle.cube.proofs.RunLaws.{position_lt, channel-bytes}
use Rattle.cube.proofs.runs.position_of.Goals as goal

-- the whole sum, with the element size as it was returned
parts : (q : CubeLayout) → Valid q → q.line < 2 ^ 32 → q.surface < 2 ^ 32 → q.start < 2 ^ 32 → (c h w : ℕ) → c < q.channels → h < q.height → w < q.width → (e : ℕ) → e ≡ size_of q
    → q.start + (c * e / 32) * q.surface + h * q.line + w * 32 + c * e % 32 < 2 ^ 47
unfolding element_position
parts q ok hl hs ht c h w hc hh hw e is =
    subst⁻¹ (λ (e : ℕ). q.start + (c * e / 32) * q.surface + h * q.line + w * 32 + c * e % 32 < 2 ^ 47) is (position_lt q ok hl hs ht c h w hc hh hw)

pub overflow_mul-bytes : goal.overflow_mul-bytes
overflow_mul-bytes c =
    let a = c.args in
    let bytes : a.channel * c.element_bytes.result ≤ 16384 =
    subst⁻¹ (λ (e : ℕ). a.channel * e ≤ 16384) c.element_bytes.ensures
    (channel-bytes a.layout (valid a.layout c.requires.layout_value) a.channel c.requires.channel_lt_channels.0) in
    omega (arith, bytes)

pub overflow_mul-surface : goal.overflow_mul-surface
overflow_mul-surface c =
    let a = c.args in
    let lt = c.requires.channel_lt_channels in
    omega (
      arith,
      parts a.layout (valid a.layout c.requires.layout_value) (omega arith) (omega arith) (omega arith) a.channel a.row a.column lt.0 lt.1 lt.2 c.element_bytes.result c.element_bytes.ensures,
    )

pub overflow_add-result : goal.overflow_add-result
overflow_add-result c =
    let a = c.args in
    let lt = c.requires.channel_lt_channels in
    omega (
      arith,
      parts a.layout (valid a.layout c.requires.layout_value) (omega arith) (omega arith) (omega arith) a.channel a.row a.column lt.0 lt.1 lt.2 c.element_bytes.result c.element_bytes.ensures,
    )

pub overflow_add-result-2 : goal.overflow_add-result-2
overflow_add-result-2 c =
    let a = c.args in
    let lt = c.requires.channel_lt_channels in
    omega (
      arith,
      parts a.layout (valid a.layout c.requires.layout_value) (omega arith) (omega arith) (omega arith) a.channel a.row a.column lt.0 lt.1 lt.2 c.element_bytes.result c.element_bytes.ensures,
    )

pub overflow_add-result-3 : goal.overflow_add-result-3
overflow_add-result-3 c =
    let a = c.args in
    let lt = c.requires.channel_lt_channels in
    omega (
      arith,
      parts a.layout (valid a.layout c.requires.layout_value) (omega arith) (omega arith) (omega arith) a.channel a.row a.column lt.0 lt.1 lt.2 c.element_bytes.result c.element_bytes.ensures,
    )

pub overflow_add-result-4 : goal.overflow_add-result-4
overflow_add-result-4 c =
    let a = c.args in
    let lt = c.requires.channel_lt_channels in
    omega (
      arith,
      parts a.layout (valid a.layout c.requires.layout_value) (omega arith) (omega arith) (omega arith) a.channel a.row a.column lt.0 lt.1 lt.2 c.element_bytes.result c.element_bytes.ensures,
    )

pub overflow_mul-result : goal.overflow_mul-result
overflow_mul-result c = omega (arith, c.requires.channel_lt_channels.2, (valid c.args.layout c.requires.layout_value).width_le)

pub returns : goal.returns
unfolding element_position
returns c =
    let a = c.args in
    ap (λ (e : ℕ). a.layout.start + (a.channel * e / 32) * a.layout.surface + a.row * a.layout.line + a.column * 32 + a.channel * e % 32) c.element_bytes.ensures
