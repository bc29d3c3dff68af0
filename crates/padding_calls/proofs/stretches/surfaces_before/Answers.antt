-- `padding_calls::stretches::surfaces_before` meets its contract: the channels have at least one byte and at most 16384. Assumes nothing.
use native.Mathlib.Nat.{mul-le-mul}
use native.Mathlib.Omega.{arith}
use mathlib.Core.Path.{ap, ◌∙◌}
use Prim.Native.Nat.{ℕ, ◌-◌, ◌*◌, ◌/◌}
use Rattle.elements.proofs.ByteLaws.{element_bytes-le}
use Rattle.layout.proofs.Valid.{valid}
use Rattle.padding_calls.proofs.StretchLaws.{surfaces-before, channels_pos}
use Rattle.padding_calls.proofs.stretches.surfaces_before.Goals as goal

pub overflow_mul-result : goal.overflow_mul-result
overflow_mul-result c = let q = c.args.layout in record { fits = omega (arith, c.element_bytes.ensures, mul-le-mul (valid q c.requires).channels_le (element_bytes-le q.precision), ap (λ (e : ℕ). q.channels * e) c.element_bytes.ensures) }

pub overflow_sub-result : goal.overflow_sub-result
overflow_sub-result c = let q = c.args.layout in omega (arith, channels_pos q (valid q c.requires), ap (λ (e : ℕ). q.channels * e) c.element_bytes.ensures)

pub returns : goal.returns
returns c = let q = c.args.layout in ap (λ (e : ℕ). (q.channels * e - 1) / 32) c.element_bytes.ensures ∙ surfaces-before q (valid q c.requires)
