-- What the code of the lookup goes by in its loop: the pair of sides of a sample, its row, and the counters. No public promise rests on it. Assumes
-- nothing.
use Rattle.std.specs.Prelude.{ℕ, ◌+◌, ◌*◌, ◌^◌, ◌≤◌, ◌<◌, ◌≡◌, Bool, true, false, cond, List, [], ◌∷◌, eqb, ℤ, pos, ◌+ℤ◌, length, get_or}
use Rattle.std.specs.Int.Signed.{mag, lt_z, le_z}
use Rattle.std.specs.Int.{w32}
use Rattle.std.proofs.Common.{SFits}
use Rattle.general.proofs.UpDown.{up}
use Rattle.lut.specs.declared.XMode.{XMode}
use Rattle.lut.specs.declared.XMode.TheVariants.{Linear, Exponential}
use Rattle.lut.specs.declared.XSettings.{XSettings}
use Rattle.lut.specs.declared.LutSettings.{LutSettings}
use Rattle.lut.specs.declared.Counters.{Counters}
use Rattle.lut_calls.specs.declared.Row.{Row}
use Rattle.lut_calls.specs.declared.Span.{Span}
use Rattle.lut_calls.specs.declared.Bounds.{Bounds}
use Rattle.lut_calls.specs.StepsRows.{row_answer, Inside, Powered, row_power}

-- the number of a sample's side: 0 below, 1 hit, 2 above
unfoldable pub side_of : Span → ℤ → ℕ
side_of s x = cond (le_z s.first x) 1 0 + cond (lt_z s.last x) 1 0

-- the number of its pair of sides
unfoldable pub pair_of : Bounds → ℤ → ℕ
pair_of b x = 3 * side_of b.x x + side_of b.y x

-- the first sample that is not below X
unfoldable pub first_x : XSettings → ℤ
first_x s = by_mode s.mode
  where
    by_mode : XMode → ℤ
    by_mode (Linear select) = s.start
    by_mode (Exponential offset) = s.start +ℤ pos (2 ^ up offset)

-- the spans of both tables
unfoldable pub bounds_of : LutSettings → Bounds
bounds_of s = record { x = record { first = first_x s.x; last = s.x.end }; y = record { first = s.y.start; last = s.y.end } }

-- the settings' numbers are of their types
pub record SettingsFit (s : LutSettings) : Type 0 where
  pub x_start : SFits w32 s.x.start
  pub x_end : SFits w32 s.x.end
  pub y_start : SFits w32 s.y.start
  pub y_end : SFits w32 s.y.end

-- whether rows can be exponential
unfoldable pub wide_of : XMode → Bool
wide_of (Linear select) = false
wide_of (Exponential offset) = true

-- ---- the loop

-- the row of a sample's pair of sides
unfoldable pub row_for : List Row → Bounds → ℤ → Row
row_for rows b x = get_or rows (pair_of b x) (record { origin = pos 0; size = pos 0; shift = 0; on = pos 0; base = 0; wide = pos 0 })

-- the answer to a sample
unfoldable pub pair_answer : List Row → Bounds → List ℤ → List ℤ → Bool → ℤ → ℤ
pair_answer rows b firsts rises wide x = row_answer (row_for rows b x) firsts rises (row_power wide (row_for rows b x) x) x

-- how many samples f gives k for
unfoldable pub count_at : (ℤ → ℕ) → ℕ → List ℤ → ℕ
count_at f k [] = 0
count_at f k (x ∷ samples) = cond (eqb k (f x)) 1 0 + count_at f k samples

-- seen holds how many of the samples f gives each number for
abbrev pub Tally : (ℤ → ℕ) → List ℤ → List ℕ → Type 0
Tally f samples seen = (k : ℕ) → get_or seen k 0 ≡ count_at f k samples

-- each sample's row can answer it
abbrev pub All_ready : List Row → Bounds → Bool → Type 0
All_ready rows b wide = (x : ℤ) → mag x < 2147483648 → Powered (row_for rows b x) x × Inside (row_for rows b x) (row_power wide (row_for rows b x) x) x

-- the samples are numbers of 32 bits
abbrev pub Ranged : List ℤ → Type 0
Ranged samples = (i : ℕ) → i < length samples → mag (get_or samples i (pos 0)) < 2147483648

-- the counters and the samples of each pair of sides together
abbrev pub summed : Counters → List ℕ → Counters
summed c seen =
    record {
      x = c.x + get_or seen 3 0 + get_or seen 5 0;
      y = c.y + get_or seen 1 0 + get_or seen 7 0;
      underflow = c.underflow + get_or seen 0 0;
      overflow = c.overflow + get_or seen 8 0;
      priority = c.priority + get_or seen 2 0 + get_or seen 4 0 + get_or seen 6 0;
    }

-- they stay within 32 bits
pub record Roomy (c : Counters) (seen : List ℕ) : Type 0 where
  pub x_room : c.x + get_or seen 3 0 + get_or seen 5 0 ≤ 4294967295
  pub y_room : c.y + get_or seen 1 0 + get_or seen 7 0 ≤ 4294967295
  pub underflow_room : c.underflow + get_or seen 0 0 ≤ 4294967295
  pub overflow_room : c.overflow + get_or seen 8 0 ≤ 4294967295
  pub priority_room : c.priority + get_or seen 2 0 + get_or seen 4 0 + get_or seen 6 0 ≤ 4294967295
