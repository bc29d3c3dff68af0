-- `regions_calls::count` meets its contract: past check 9 it is the count of the box that was found, whose factors are at most 8192. Assumes nothing.
use Prim.Native.Nat.{◌*◌, ◌≤◌}
use native.Mathlib.Omega.{arith}
use native.Mathlib.Nat.{mul-le-mul}
use mathlib.Core.Path.{sym, ◌∙◌}
use Rattle.refusal.proofs.CheckLaws.{handed-on}
use Rattle.regions.specs.Rules.{access_of, whole_region}
use Rattle.regions_calls.proofs.StepLaws.{count-refused, count-found, found-counts}
use Rattle.regions_calls.proofs.count.Goals as goal

pub returns-in_err-whole : goal.returns-in_err-whole
returns-in_err-whole c =
    let a = c.args in
    handed-on c.from_residual.result c.from_residual.ensures.1 ∙ count-refused a.table a.slot a.id (sym c.find_box.ensures ∙ c.in_err-whole.was)

pub overflow_mul-elements-2 : goal.overflow_mul-elements-2
overflow_mul-elements-2 c =
    let b = c.in_ok-whole.whole in
    let a = access_of c.args.table c.args.slot c.args.id in
    let small : (b.channels ≤ 8192) × (b.rows ≤ 8192) × (b.columns ≤ 8192) = found-counts a (whole_region a) (sym c.find_box.ensures ∙ c.in_ok-whole.was) in
    let lines : b.channels * b.rows ≤ 67108864 = mul-le-mul {n₁ = b.channels} {m₁ = b.rows} {n₂ = 8192} {m₂ = 8192} small.0 small.1 in
    omega (arith, mul-le-mul {n₁ = b.channels * b.rows} {m₁ = b.columns} {n₂ = 67108864} {m₂ = 8192} lines small.2)

pub returns : goal.returns
returns c = let a = c.args in count-found a.table a.slot a.id (sym c.find_box.ensures ∙ c.in_ok-whole.was)
