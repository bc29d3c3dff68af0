-- Which weight settings are valid, and the order in which they are checked (scope paper, "Weights", "Refusal numbers"). Assumes nothing.
use Rattle.std.specs.Prelude.{ℕ, Bool, ◌&&◌, List, [], ◌∷◌, ◌++◌, leb, ltb, eqb}
use Rattle.refusal.specs.declared.Refusal.TheVariants.{Size, Precision, BufferLength, ElementCount, Bounds}
use Rattle.refusal.specs.Checks.{require, Answer}
use Rattle.refusal.specs.Sizes.{size_valid}
use Rattle.weights.specs.declared.WeightLayout.{WeightLayout}
use Rattle.weights.specs.Geometry.{element_count, surface_bytes}

-- kernels and channels 1 to 8192, rows and columns 1 to 32
unfoldable pub sizes_valid : WeightLayout → Bool
sizes_valid q = size_valid 8192 q.kernels && size_valid 8192 q.channels && size_valid 32 q.rows && size_valid 32 q.columns

-- 1, 2: sizes, precision
abbrev pub setting_checks : WeightLayout → List Answer
setting_checks q = require Size (sizes_valid q) ∷ require Precision (ltb q.precision 3) ∷ []

-- 1, 2, 6, 5: a setting, `given` elements, a buffer of `len` bytes
unfoldable pub weight_checks : WeightLayout → ℕ → ℕ → List Answer
weight_checks q given len =
    setting_checks q
    ++ require ElementCount (eqb given (element_count q))
    ∷ require BufferLength (leb (surface_bytes q) len)
    ∷ []

-- the tensor has element (k, c, r, s)
unfoldable pub element_inside : WeightLayout → ℕ → ℕ → ℕ → ℕ → Bool
element_inside q k c r s = ltb k q.kernels && ltb c q.channels && ltb r q.rows && ltb s q.columns

-- 1, 2, 9: a setting, an element
unfoldable pub element_checks : WeightLayout → ℕ → ℕ → ℕ → ℕ → List Answer
element_checks q k c r s = setting_checks q ++ require Bounds (element_inside q k c r s) ∷ []
