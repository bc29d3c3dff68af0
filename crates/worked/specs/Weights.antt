-- The starred cases of weights (scope paper, "Worked on squared paper"). Assumes nothing.
use Rattle.std.specs.Prelude.{ℕ, List, [], ◌∷◌}
use Rattle.weights.specs.declared.WeightLayout.{WeightLayout}
use Rattle.weights.specs.Geometry.{element_count, element_position, surface_bytes}
use Rattle.worked.specs.Cases.{Case, number}

-- K C R S precision
abbrev pub weights_of : ℕ → ℕ → ℕ → ℕ → ℕ → WeightLayout
weights_of k c r s p = record { kernels = k; channels = c; rows = r; columns = s; precision = p }

unfoldable pub weight_cases : List Case
weight_cases =
    -- int8, K 3, R 1, S 2, C 65: (k 1, c 64, s 1) at byte 388, (k 2, c 5, s 0) at 133; 390 bytes filled to 512
    number (element_position (weights_of 3 65 1 2 0) 1 64 0 1) 388
    ∷ number (element_position (weights_of 3 65 1 2 0) 2 5 0 0) 133
    ∷ number (element_count (weights_of 3 65 1 2 0)) 390
    ∷ number (surface_bytes (weights_of 3 65 1 2 0)) 512
    -- int16, K 17, R = S = C = 1: kernel 16 at byte 32
    ∷ number (element_position (weights_of 17 1 1 1 1) 16 0 0 0) 32
    ∷ []
