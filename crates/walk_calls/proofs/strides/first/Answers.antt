-- `walk_calls::strides::first` meets its contract: in a valid layout its products and differences are numbers of 64 bits. Assumes nothing.
use Prim.Native.Nat.{◌-◌, ◌*◌, ◌≤◌}
use native.Mathlib.Nat.{mul-le-mul}
use native.Mathlib.Omega.{arith}
use Rattle.layout.proofs.Valid.{valid}
use Rattle.walk.specs.Walks.{first_walk}
use Rattle.walk.proofs.SizeLaws.{atom_elements-pos, atom_elements-le}
use Rattle.walk_calls.proofs.strides.first.Goals as goal

pub overflow_sub-across : goal.overflow_sub-across
overflow_sub-across c =
    let q = c.args.layout in
    let ok = valid q c.requires in
    omega (arith, ok.width_pos)

pub overflow_sub-down : goal.overflow_sub-down
overflow_sub-down c =
    let q = c.args.layout in
    let ok = valid q c.requires in
    omega (arith, ok.height_pos)

pub overflow_sub-result : goal.overflow_sub-result
overflow_sub-result c =
    let q = c.args.layout in
    let ok = valid q c.requires in
    omega (arith, ok.line_ge)

pub overflow_sub-result-2 : goal.overflow_sub-result-2
overflow_sub-result-2 c =
    let q = c.args.layout in
    let ok = valid q c.requires in
    omega (arith, ok.surface_ge)

pub overflow_sub-result-3 : goal.overflow_sub-result-3
overflow_sub-result-3 c =
    let q = c.args.layout in
    let ok = valid q c.requires in
    omega (arith, ok.surface_ge)

pub overflow_sub-result-4 : goal.overflow_sub-result-4
overflow_sub-result-4 c = omega (arith, c.full.ensures, atom_elements-pos c.args.layout.precision)

pub overflow_mul-result : goal.overflow_mul-result
overflow_mul-result c =
    let q = c.args.layout in
    let ok = valid q c.requires in
    -- elements of a channel, and from a surface to the next
    let plane : q.height * q.width ≤ 67108864 = mul-le-mul {n₁ = q.height} {m₁ = q.width} {n₂ = 8192} {m₂ = 8192} ok.height_le ok.width_le in
    let full : c.full.result - 1 ≤ 31 = omega (arith, c.full.ensures, atom_elements-le q.precision) in
    let group : (c.full.result - 1) * (q.height * q.width) ≤ 2080374784 =
    mul-le-mul {n₁ = c.full.result - 1} {m₁ = q.height * q.width} {n₂ = 31} {m₂ = 67108864} full plane in
    omega (arith, group)

pub overflow_add-result : goal.overflow_add-result
overflow_add-result c =
    let q = c.args.layout in
    let ok = valid q c.requires in
    -- elements of a channel, and from a surface to the next
    let plane : q.height * q.width ≤ 67108864 = mul-le-mul {n₁ = q.height} {m₁ = q.width} {n₂ = 8192} {m₂ = 8192} ok.height_le ok.width_le in
    let full : c.full.result - 1 ≤ 31 = omega (arith, c.full.ensures, atom_elements-le q.precision) in
    let group : (c.full.result - 1) * (q.height * q.width) ≤ 2080374784 =
    mul-le-mul {n₁ = c.full.result - 1} {m₁ = q.height * q.width} {n₂ = 31} {m₂ = 67108864} full plane in
    omega (arith, group)

pub returns : goal.returns
unfolding first_walk
returns c = rw c.full.ensures
