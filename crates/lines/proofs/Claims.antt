-- The claim about numbers in a text: a number's digits are read as that number. Assumes nothing.
use Prim.Native.Nat.{ℕ, ◌≤◌}
use mathlib.Core.Path.{◌≡◌}
use mathlib.Core.Bool.{false}
use Rattle.lines.specs.Digits.{digits}
use Rattle.lines.specs.Numbers.{number, number_of}
use Rattle.lines.proofs.DecimalLaws.{digits-read}

pub read_back : (n : ℕ) → n ≤ 4294967295 → number_of (digits n) ≡ number false n
read_back = digits-read
