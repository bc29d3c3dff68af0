-- What the code of the lookup goes by for its samples: each pair of sides has a row of numbers, and each answer is the row's point at the sample, on the
-- line from a first number that rises by so much. No public promise rests on it. Assumes nothing.
use Rattle.std.specs.Prelude.{ℕ, ◌+◌, ◌*◌, ◌/◌, ◌^◌, ◌≤◌, ◌<◌, ◌≡◌, Bool, cond, List, [], ◌∷◌, ℤ, pos, negsuc, nat_abs, ◌+ℤ◌, ◌-ℤ◌, ◌*ℤ◌}
use Rattle.std.specs.Int.Signed.{shr_z}
use Rattle.general.proofs.UpDown.{up, dn}
use Rattle.integers.specs.Saturate.{saturate}
use Rattle.lut.specs.declared.XMode.{XMode}
use Rattle.lut.specs.declared.XMode.TheVariants.{Linear, Exponential}
use Rattle.lut.specs.declared.XSettings.{XSettings}
use Rattle.lut.specs.declared.YSettings.{YSettings}
use Rattle.lut.specs.declared.LutSettings.{LutSettings}
use Rattle.lut.specs.declared.Table.{Table}
use Rattle.lut.specs.declared.Table.TheVariants.{X, Y}
use Rattle.lut.specs.Numbers.{log_below}
use Rattle.lut.specs.Tables.{entry, linear_x}
use Rattle.lut_calls.specs.declared.Row.{Row}
use Rattle.lut_calls.specs.declared.TableRows.{TableRows}

-- ---- what a row answers

-- at f of m steps on the line from a first number that rises by so much, rounded down and held to 32 bits
unfoldable pub on_line : ℤ → ℤ → ℤ → ℕ → ℤ
on_line first rise f m = saturate (negsuc 2147483647) (pos 2147483647) (first +ℤ shr_z (rise *ℤ f) m)

-- a sample's distance from the row's origin
unfoldable pub row_far : Row → ℤ → ℤ
row_far r x = (x -ℤ r.origin) *ℤ r.size

-- the whole steps of 2^(shift + p) in it, where they count; p is the power of 2 at or below it where the row is exponential, else 0
unfoldable pub row_steps : Row → ℕ → ℤ → ℕ
row_steps r p x = nat_abs (row_far r x *ℤ r.on) / 2 ^ (r.shift + p)

-- the point's number
unfoldable pub row_point : Row → ℕ → ℤ → ℕ
row_point r p x = r.base + p + row_steps r p x

-- what is left of the distance
unfoldable pub row_rest : Row → ℕ → ℤ → ℤ
row_rest r p x = row_far r x -ℤ pos (row_steps r p x * 2 ^ (r.shift + p))

-- the answer: on the line of that point, at what is left
unfoldable pub row_answer : Row → List ℤ → List ℤ → ℕ → ℤ → ℤ
row_answer r firsts rises p x = on_line (entry firsts (row_point r p x)) (entry rises (row_point r p x)) (row_rest r p x) (2 ^ (r.shift + p))

-- the row's numbers for a sample stay within their types
pub record Inside (r : Row) (p : ℕ) (x : ℤ) : Type 0 where
  pub far_le : nat_abs (row_far r x) ≤ 4294967295
  pub on_is : row_far r x *ℤ r.on ≡ pos (nat_abs (row_far r x *ℤ r.on))
  pub on_le : nat_abs (row_far r x *ℤ r.on) ≤ 4294967295
  pub shift_le : r.shift + p ≤ 31
  pub point_lt : row_point r p x < 324
  pub rest_le : nat_abs (row_rest r p x) ≤ 4294967295

-- the distance whose power of 2 counts where the row is exponential
unfoldable pub row_wide : Row → ℤ → ℤ
row_wide r x = (x -ℤ r.origin) *ℤ r.wide

-- that distance is above 0, and within 32 bits
pub record Powered (r : Row) (x : ℤ) : Type 0 where
  pub wide_is : row_wide r x ≡ pos (nat_abs (row_wide r x))
  pub wide_le : nat_abs (row_wide r x) ≤ 4294967295

-- the power of 2 at or below it where rows can be exponential and this one is, else 0
unfoldable pub row_power : Bool → Row → ℤ → ℕ
row_power wide r x = cond wide (log_below 32 (nat_abs (row_wide r x))) 0

-- ---- the rows of a table

-- past an end: no step counts, and the distance is divided by 2^shift
unfoldable pub slope_row : ℤ → ℤ → ℕ → Row
slope_row origin shift base = record { origin = origin; size = pos 1; shift = up shift; on = pos 0; base = base; wide = pos 0 }

-- the hits of a linear table, its points from base on: a step of 2^select each, or 2^(−select) points a step
unfoldable pub line_row : ℤ → ℤ → ℕ → Row
line_row start select base = record { origin = start; size = pos (2 ^ dn select); shift = up select; on = pos 1; base = base; wide = pos 0 }

-- the hits of the exponential X table, its points from 258 on: one step of 2^p leads to point p − offset
unfoldable pub power_row : ℤ → ℤ → Row
power_row start offset = record { origin = start; size = pos 1; shift = 0; on = pos 1; base = nat_abs (pos 257 -ℤ offset); wide = pos 1 }

-- a linear table, last entry N, its points from base on: N + 1 for its hits, the last of them also for the slope above, then one for the slope below
unfoldable pub linear_rows : YSettings → ℕ → ℕ → TableRows
linear_rows t base last =
    record {
      below = slope_row t.start t.below.shift (base + last + 1);
      hit = line_row t.start t.select base;
      above = slope_row t.end t.above.shift (base + last);
    }

-- the rows of the X table, its points from 258 on
unfoldable pub rows_x : XSettings → TableRows
rows_x s = by_mode s.mode
  where
    by_mode : XMode → TableRows
    by_mode (Linear select) = linear_rows (linear_x s select) 258 64
    by_mode (Exponential offset) =
        record {
          below = slope_row s.start s.below.shift 323;
          hit = power_row s.start offset;
          above = slope_row s.end s.above.shift 322;
        }

-- ---- the rows of all pairs of sides

-- the row of the table that answers
unfoldable pub picked : Table → Row → Row → Row
picked X x y = x
picked Y x y = y

-- the row of each pair of sides, by X's side and then Y's: below, hit, above
unfoldable pub rows_of : LutSettings → TableRows → TableRows → List Row
rows_of s x y =
    picked s.underflow x.below y.below ∷ y.hit ∷ picked s.priority x.below y.above ∷ x.hit ∷ picked s.priority x.hit y.hit
    ∷ x.hit ∷ picked s.priority x.above y.below ∷ y.hit ∷ picked s.overflow x.above y.above ∷ []
