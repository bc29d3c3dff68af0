-- `weights_calls::measure::Tensor::element_count` meets its contract: its product is the definition's, at most 2 ^ 36. Assumes nothing.
use native.Mathlib.Omega.{arith}
use Rattle.weights.specs.Geometry.{element_count}
use Rattle.weights.proofs.Valid.{Valid, valid}
use Rattle.weights.proofs.BoundLaws.{channels-product-le, pixels_le, count_le}
use Rattle.weights_calls.proofs.measure.Tensor.element_count.Goals as goal

pub overflow_mul-result : goal.overflow_mul-result
overflow_mul-result c =
    let sizes : Valid c.args.self.layout = valid c.args.self.layout c.args.self.sizes in
    omega (arith, channels-product-le c.args.self.layout sizes)

pub overflow_mul-result-2 : goal.overflow_mul-result-2
overflow_mul-result-2 c =
    let sizes : Valid c.args.self.layout = valid c.args.self.layout c.args.self.sizes in
    let s = c in omega (arith, pixels_le s.args.self.layout sizes)

pub overflow_mul-result-3 : goal.overflow_mul-result-3
unfolding element_count
overflow_mul-result-3 c =
    let sizes : Valid c.args.self.layout = valid c.args.self.layout c.args.self.sizes in
    let s = c in omega (arith, count_le s.args.self.layout sizes)

pub returns : goal.returns
unfolding element_count
returns c = omega arith
