-- Whole numbers kept within limits (the scope paper's "held to"). Assumes nothing.
use Rattle.std.specs.Prelude.{Bool, cond, ◌||◌, ℤ}
use Rattle.std.specs.Int.Signed.{lt_z}

-- z where it lies in low..high, else the limit that it passed
unfoldable pub saturate : ℤ → ℤ → ℤ → ℤ
saturate low high z = cond (lt_z z low) low (cond (lt_z high z) high z)

-- z lies beyond a limit: it is not in low..high
unfoldable pub beyond : ℤ → ℤ → ℤ → Bool
beyond low high z = lt_z z low || lt_z high z
