-- The two entries that a hit lies between (scope paper, "Two tables": "A hit lies between its two entries"). Assumes nothing.
use Rattle.std.specs.Prelude.{ℕ, suc, ◌+◌, ◌-◌, ◌*◌, ◌/◌, ◌^◌, ◌<◌, min, ◌≡◌, true, List, ◌⊎◌, ℤ, pos, negsuc, nat_abs, ◌-ℤ◌, ◌≤ℤ◌}
use Rattle.lut.specs.declared.XMode.{XMode}
use Rattle.lut.specs.declared.XMode.TheVariants.{Linear, Exponential}
use Rattle.lut.specs.declared.XSettings.{XSettings}
use Rattle.lut.specs.declared.YSettings.{YSettings}
use Rattle.lut.specs.Numbers.{between, log_below}
use Rattle.lut.specs.Tables.{entry}

-- v lies between a and b, whichever is larger
abbrev pub Amid : ℤ → ℤ → ℤ → Type 0
Amid a b v = ((a ≤ℤ v) × (v ≤ℤ b)) ⊎ ((b ≤ℤ v) × (v ≤ℤ a))

-- v lies between entries i and i + 1 of a table with last entry N
pub record Enclosed (table : List ℤ) (last i : ℕ) (v : ℤ) : Type 0 where
  pub index_lt : i < last
  pub amid : Amid (entry table i) (entry table (i + 1)) v

-- linear, last entry N, select s, d = x − start: i = floor(d / 2^s), for s ≤ 0 the entry's own number d·2^(−s); held to N − 1
unfoldable pub linear_index : ℕ → ℤ → ℕ → ℕ
linear_index last (pos k) d = min (d / 2 ^ k) (last - 1)
linear_index last (negsuc k) d = min (d * 2 ^ suc k) (last - 1)

-- exponential, offset o: i = p − o, p = floor(log2 d)
unfoldable pub exponential_index : ℤ → ℕ → ℕ
exponential_index offset d = nat_abs (pos (log_below 32 d) -ℤ offset)

-- the first of a hit's two entries, in the X table
unfoldable pub index_x : XSettings → ℤ → ℕ
index_x s x = by_mode s.mode
  where
    by_mode : XMode → ℕ
    by_mode (Linear select) = linear_index 64 select (nat_abs (x -ℤ s.start))
    by_mode (Exponential offset) = exponential_index offset (nat_abs (x -ℤ s.start))

-- and in the Y table
unfoldable pub index_y : YSettings → ℤ → ℕ
index_y s x = linear_index 256 s.select (nat_abs (x -ℤ s.start))

-- samples, starts and ends are 32-bit signed numbers
abbrev pub Signed32 : ℤ → Type 0
Signed32 z = between (negsuc 2147483647) (pos 2147483647) z ≡ true
