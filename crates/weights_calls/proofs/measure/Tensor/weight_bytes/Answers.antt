-- `weights_calls::measure::Tensor::weight_bytes` meets its contract: the product is at most 2 ^ 37. Assumes nothing.
use Prim.Native.Nat.{ℕ, ◌*◌}
use native.Mathlib.Omega.{arith}
use mathlib.Core.Path.{◌≡◌, ap₂}
use Rattle.weights.specs.Geometry.{size_of, element_count}
use Rattle.weights.proofs.Valid.{valid}
use Rattle.weights.proofs.BoundLaws.{bytes_le}
use Rattle.weights_calls.proofs.measure.Tensor.weight_bytes.Goals as goal

-- the product of the two results is the definition's
product : (c : goal.After-element_bytes) → c.element_count.result * c.element_bytes.result ≡ element_count c.args.self.layout * size_of c.args.self.layout
product c = ap₂ (λ (n e : ℕ). n * e) c.element_count.ensures c.element_bytes.ensures

pub overflow_mul-result : goal.overflow_mul-result
overflow_mul-result c = let s = c in
    omega (arith, product c, bytes_le s.args.self.layout (valid s.args.self.layout s.args.self.sizes))
