-- A size in its range (scope paper, "Refusal numbers", 1). Assumes nothing.
use Rattle.std.specs.Prelude.{ℕ, Bool, ◌&&◌, leb}

-- 1 to `most`
unfoldable pub size_valid : ℕ → ℕ → Bool
size_valid most n = leb 1 n && leb n most
