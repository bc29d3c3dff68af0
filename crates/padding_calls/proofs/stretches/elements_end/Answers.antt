-- `padding_calls::stretches::elements_end` meets its contract: the surfaces before the last one have fewer bytes than the channels. Assumes nothing.
use Prim.Native.Nat.{ℕ, ◌*◌, ◌≤◌}
use native.Mathlib.Nat.{mul-le-mul}
use native.Mathlib.Omega.{arith}
use mathlib.Core.Path.{ap}
use Rattle.elements.proofs.ByteLaws.{element_bytes-le}
use Rattle.layout.proofs.Valid.{valid}
use Rattle.padding_calls.specs.Steps.{elements_end}
use Rattle.padding_calls.proofs.StretchLaws.{before-lt}
use Rattle.padding_calls.proofs.stretches.elements_end.Goals as goal

-- the bytes counted, and those before
bytes : (c : goal.After-surfaces_before) → let q = c.args.layout in
    (32 * c.surfaces_before.result ≤ q.channels * c.element_bytes.result) × (q.channels * c.element_bytes.result ≤ 16384)
bytes c =
    let q = c.args.layout in
    let e = ap (λ (e : ℕ). q.channels * e) c.element_bytes.ensures in (
      omega (arith, before-lt q (valid q c.requires), c.surfaces_before.ensures, e),
      omega (arith, mul-le-mul (valid q c.requires).channels_le (element_bytes-le q.precision), e),
    )

pub overflow_mul-bytes : goal.overflow_mul-bytes
overflow_mul-bytes c = let q = c.args.layout in record { fits = omega (arith, mul-le-mul (valid q c.requires).channels_le (element_bytes-le q.precision), ap (λ (e : ℕ). q.channels * e) c.element_bytes.ensures) }

pub overflow_mul-result : goal.overflow_mul-result
overflow_mul-result c = record { fits = omega (arith, bytes c) }

pub overflow_sub-result : goal.overflow_sub-result
overflow_sub-result c = omega (arith, bytes c)

pub returns : goal.returns
unfolding elements_end
returns c = let q = c.args.layout in omega (arith, c.surfaces_before.ensures, ap (λ (e : ℕ). q.channels * e) c.element_bytes.ensures)
