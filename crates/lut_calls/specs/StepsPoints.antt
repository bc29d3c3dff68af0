-- The points that the rows of the lookup lead to, as the code writes them. No public promise rests on it. Assumes nothing.
use Rattle.std.specs.Prelude.{ℕ, ◌+◌, ◌^◌, ◌≤◌, ◌<◌, ◌≡◌, List, ℤ, pos, ◌-ℤ◌, ◌*ℤ◌, length}
use Rattle.std.specs.Int.Signed.{mag}
use Rattle.general.proofs.UpDown.{dn}
use Rattle.lut.specs.declared.Slope.{Slope}
use Rattle.lut.specs.Tables.{entry}

-- how far a slope rises at each step of its row
unfoldable pub slope_rise : Slope → ℤ
slope_rise s = s.scale *ℤ pos (2 ^ dn s.shift)

-- a table's points from base on: each entry rises to the next, the last as the slope above
pub record Stored (firsts rises table : List ℤ) (base last : ℕ) (below above : Slope) : Type 0 where
  pub first : (i : ℕ) → i ≤ last → entry firsts (base + i) ≡ entry table i
  pub rise : (i : ℕ) → i < last → entry rises (base + i) ≡ entry table (i + 1) -ℤ entry table i
  pub fits : (i : ℕ) → i ≤ last → mag (entry table i) < 32768
  pub first_below : entry firsts (base + last + 1) ≡ entry table 0
  pub rise_below : entry rises (base + last + 1) ≡ slope_rise below
  pub rise_above : entry rises (base + last) ≡ slope_rise above

-- a table's points are written, and those before base stay
pub record Filled (firsts₀ rises₀ firsts rises table : List ℤ) (base last : ℕ) (below above : Slope) : Type 0 where
  pub stored : Stored firsts rises table base last below above
  pub firsts_kept : (j : ℕ) → j < base → entry firsts j ≡ entry firsts₀ j
  pub rises_kept : (j : ℕ) → j < base → entry rises j ≡ entry rises₀ j
  pub firsts_long : length firsts ≡ 324
  pub rises_long : length rises ≡ 324
