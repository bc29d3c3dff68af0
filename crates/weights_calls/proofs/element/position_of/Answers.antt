-- `weights_calls::element::position_of` meets its contract: a number below the count, times the element's bytes. Assumes nothing.
use Prim.Native.Nat.{ℕ, ◌*◌}
use native.Mathlib.Omega.{arith}
use mathlib.Core.Path.{◌≡◌, ap₂}
use Rattle.weights.specs.declared.WeightLayout.{WeightLayout}
use Rattle.weights.specs.Geometry.{size_of, element_number, element_position}
use Rattle.weights.proofs.Valid.{valid}
use Rattle.weights.proofs.BoundLaws.{position_lt}
use Rattle.weights_calls.proofs.element.position_of.Goals as goal

-- the product of the two results is the definition's
product : (q : WeightLayout) (k c r s : ℕ) {number size : ℕ} → number ≡ element_number q k c r s → size ≡ size_of q → number * size ≡ element_position q k c r s
unfolding element_position
product q k c r s n e = ap₂ (λ (n e : ℕ). n * e) n e

pub overflow_mul-result : goal.overflow_mul-result
overflow_mul-result c =
    let a = c.args in
    let p = product a.tensor.layout a.index.kernel a.index.channel a.index.row a.index.column c.number_of.ensures c.element_bytes.ensures in
    omega (arith, p, position_lt a.tensor.layout (valid a.tensor.layout c.args.tensor.sizes) a.index.kernel a.index.channel a.index.row a.index.column c.requires)

pub returns : goal.returns
returns c =
    let a = c.args in
    product a.tensor.layout a.index.kernel a.index.channel a.index.row a.index.column c.number_of.ensures c.element_bytes.ensures
