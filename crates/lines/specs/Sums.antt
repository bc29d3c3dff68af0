-- A checksum of bytes, by which a program that keeps no list of what it wrote says what it was. Assumes nothing.
use Rattle.std.specs.Prelude.{ℕ, ◌+◌, ◌*◌, ◌%◌, List, [], ◌∷◌}

-- one byte more
unfoldable pub mixed : ℕ → ℕ → ℕ
mixed sum b = (sum % 4294967296 * 65599 + b + 1) % 4294967296

-- more bytes, one after another
unfoldable pub checksum : ℕ → List ℕ → ℕ
checksum sum [] = sum
checksum sum (b ∷ bytes) = checksum (mixed sum b) bytes
