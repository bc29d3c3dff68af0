-- `weights_calls::element::number_of` meets its contract: its sum is the definition's, part by part, and each part is small. Assumes nothing.
use Prim.Native.Nat.{ℕ, ◌+◌, ◌-◌, ◌*◌, ◌/◌, ◌%◌, ◌<◌, min}
use native.Mathlib.Nat.{div-add-mod', mod-lt}
use native.Mathlib.Omega.{arith}
use mathlib.Core.Bool.{true}
use mathlib.Core.Path.{◌≡◌, sym, subst}
use lib.Arith.{digits_lt}
use Rattle.weights.specs.declared.WeightLayout.{WeightLayout}
use Rattle.weights.specs.Geometry.{group_of, group_size, group_kernels, block_channels, offset_number, element_number}
use Rattle.weights.specs.Places.{Element}
use Rattle.weights.specs.Rules.{sizes_valid}
use Rattle.weights.proofs.Valid.{valid}
use Rattle.weights.proofs.NumberLaws.{group_size-pos, group_size-le}
use Rattle.weights.proofs.BoundLaws.{pixels_le, Pieces, groups-le, blocks-le, pixel-kernels-le, within-le, before-le}
use Rattle.weights_calls.proofs.element.number_of.Goals as goal

-- a group has kernels
some : (p : ℕ) {group : ℕ} → group ≡ group_size p → 0 < group
some p e = subst (λ (g : ℕ). 0 < g) (sym e) (group_size-pos p)

-- the first kernel of the group is not behind the kernel, and rows and columns give a pixel
pieces : (q : WeightLayout) {k ch r s group kernels channels : ℕ}
    → sizes_valid q ≡ true → Element q k ch r s → group ≡ group_of q → kernels ≡ min (group_of q) (q.kernels - k / group * group) → channels ≡ min 64 (q.channels - ch / 64 * 64)
    → Pieces (k / group * group) (ch / 64 * 64) kernels channels (r * q.columns + s) (k % group) q.channels (q.rows * q.columns)
pieces q {k} {ch} {r} {s} {group} v x g n m =
    let ok = valid q v in
    let full = group_size-le q.precision in
    record {
      first_le = omega (arith, div-add-mod' k group, x.kernel_lt, ok.kernels.most_le);
      begin_le = omega (arith, x.channel_lt, ok.channels.most_le);
      kernels_le = omega (arith, n, full);
      channels_le = omega (arith, m);
      pixel_le = omega (arith, digits_lt x.row_lt x.column_lt, pixels_le q ok);
      kernel_le = omega (arith, mod-lt k (some q.precision g), g, full);
      all_le = ok.channels.most_le;
      pixels_le = pixels_le q ok;
    }

-- the sum by its parts, which are the definition's
joined : (q : WeightLayout) (k c r s g n m : ℕ) → g ≡ group_of q → n ≡ min (group_of q) (q.kernels - k / g * g) → m ≡ min 64 (q.channels - c / 64 * 64)
    → (k / g * g * q.channels + c / 64 * 64 * n) * (q.rows * q.columns) + (((r * q.columns + s) * n + k % g) * m + c % 64) ≡ element_number q k c r s
unfolding element_number offset_number group_kernels block_channels
joined q k c r s g n m group kernels channels = rw (kernels, channels, group) (omega arith)

pub nonzero_div-first : goal.nonzero_div-first
nonzero_div-first c = omega (arith, some c.args.tensor.layout.precision c.group_size-group.ensures)

pub overflow_mul-pixel : goal.overflow_mul-pixel
overflow_mul-pixel c =
    let p = pieces c.args.tensor.layout c.args.tensor.sizes c.requires c.group_size-group.ensures c.group_kernels-kernels.ensures c.least-channels.ensures in
    omega (arith, p.pixel_le)

pub overflow_add-pixel : goal.overflow_add-pixel
overflow_add-pixel c =
    let p = pieces c.args.tensor.layout c.args.tensor.sizes c.requires c.group_size-group.ensures c.group_kernels-kernels.ensures c.least-channels.ensures in
    omega (arith, p.pixel_le)

pub overflow_mul-before : goal.overflow_mul-before
overflow_mul-before c =
    let p = pieces c.args.tensor.layout c.args.tensor.sizes c.requires c.group_size-group.ensures c.group_kernels-kernels.ensures c.least-channels.ensures in
    omega (arith, groups-le p)

pub overflow_mul-before-2 : goal.overflow_mul-before-2
overflow_mul-before-2 c =
    let p = pieces c.args.tensor.layout c.args.tensor.sizes c.requires c.group_size-group.ensures c.group_kernels-kernels.ensures c.least-channels.ensures in
    omega (arith, blocks-le p)

pub overflow_add-before : goal.overflow_add-before
overflow_add-before c =
    let p = pieces c.args.tensor.layout c.args.tensor.sizes c.requires c.group_size-group.ensures c.group_kernels-kernels.ensures c.least-channels.ensures in
    omega (arith, groups-le p, blocks-le p)

pub overflow_mul-within : goal.overflow_mul-within
overflow_mul-within c =
    let p = pieces c.args.tensor.layout c.args.tensor.sizes c.requires c.group_size-group.ensures c.group_kernels-kernels.ensures c.least-channels.ensures in
    omega (arith, pixel-kernels-le p)

pub nonzero_rem-within : goal.nonzero_rem-within
nonzero_rem-within c = omega (arith, some c.args.tensor.layout.precision c.group_size-group.ensures)

pub overflow_add-within : goal.overflow_add-within
overflow_add-within c =
    let p = pieces c.args.tensor.layout c.args.tensor.sizes c.requires c.group_size-group.ensures c.group_kernels-kernels.ensures c.least-channels.ensures in
    omega (arith, pixel-kernels-le p, p.kernel_le)

pub overflow_mul-within-2 : goal.overflow_mul-within-2
overflow_mul-within-2 c =
    let p = pieces c.args.tensor.layout c.args.tensor.sizes c.requires c.group_size-group.ensures c.group_kernels-kernels.ensures c.least-channels.ensures in
    omega (arith, within-le p)

pub overflow_add-within-2 : goal.overflow_add-within-2
overflow_add-within-2 c =
    let p = pieces c.args.tensor.layout c.args.tensor.sizes c.requires c.group_size-group.ensures c.group_kernels-kernels.ensures c.least-channels.ensures in
    omega (arith, within-le p)

pub overflow_cast-result : goal.overflow_cast-result
overflow_cast-result c =
    let p = pieces c.args.tensor.layout c.args.tensor.sizes c.requires c.group_size-group.ensures c.group_kernels-kernels.ensures c.least-channels.ensures in
    omega (arith, groups-le p, blocks-le p)

pub overflow_mul-result : goal.overflow_mul-result
overflow_mul-result c =
    let p = pieces c.args.tensor.layout c.args.tensor.sizes c.requires c.group_size-group.ensures c.group_kernels-kernels.ensures c.least-channels.ensures in
    omega (arith, p.pixels_le)

pub overflow_mul-result-2 : goal.overflow_mul-result-2
overflow_mul-result-2 c =
    let p = pieces c.args.tensor.layout c.args.tensor.sizes c.requires c.group_size-group.ensures c.group_kernels-kernels.ensures c.least-channels.ensures in
    omega (arith, before-le p)

pub overflow_cast-result-3 : goal.overflow_cast-result-3
overflow_cast-result-3 c =
    let p = pieces c.args.tensor.layout c.args.tensor.sizes c.requires c.group_size-group.ensures c.group_kernels-kernels.ensures c.least-channels.ensures in
    omega (arith, within-le p)

pub overflow_add-result : goal.overflow_add-result
overflow_add-result c =
    let p = pieces c.args.tensor.layout c.args.tensor.sizes c.requires c.group_size-group.ensures c.group_kernels-kernels.ensures c.least-channels.ensures in
    omega (arith, before-le p, within-le p)

pub returns : goal.returns
returns c =
    let a = c.args in
    joined a.tensor.layout a.index.kernel a.index.channel a.index.row a.index.column c.group_size-group.result c.group_kernels-kernels.result c.least-channels.result c.group_size-group.ensures c.group_kernels-kernels.ensures c.least-channels.ensures
