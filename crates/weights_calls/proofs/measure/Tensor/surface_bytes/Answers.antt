-- `weights_calls::measure::Tensor::surface_bytes` meets its contract: its sum is the definition's, at most 2 ^ 37. Assumes nothing.
use Prim.Native.Nat.{ℕ, ◌+◌, ◌*◌, ◌/◌}
use native.Mathlib.Omega.{arith}
use mathlib.Core.Path.{ap}
use Rattle.weights.specs.Geometry.{surface_bytes}
use Rattle.weights.proofs.Valid.{valid}
use Rattle.weights.proofs.BoundLaws.{bytes_le}
use Rattle.weights_calls.proofs.measure.Tensor.surface_bytes.Goals as goal

pub overflow_add-result : goal.overflow_add-result
overflow_add-result c = let s = c in
    omega (arith, c.weight_bytes.ensures, bytes_le s.args.self.layout (valid s.args.self.layout s.args.self.sizes))

pub overflow_mul-result : goal.overflow_mul-result
overflow_mul-result c = let s = c in
    omega (arith, c.weight_bytes.ensures, bytes_le s.args.self.layout (valid s.args.self.layout s.args.self.sizes))

pub returns : goal.returns
unfolding surface_bytes
returns c = ap (λ (n : ℕ). (n + 127) / 128 * 128) c.weight_bytes.ensures
