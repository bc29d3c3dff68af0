-- The rows of a run: a sample's pair of sides finds the row that answers it as the definitions say. Assumes nothing.
--     serve-linear                     a linear table's rows answer, with its last entry a parameter: X and Y alike
--     serve-x, serve-y                 the two tables
--     side-le, pair_lt, pair_is        the number of a sample's pair of sides, by four tests
--     planned-ready, planned-answer    the rows of a run, for its loop
use Prim.Native.Nat.{ℕ, ◌+◌, ◌*◌, ◌^◌, ◌≤◌, ◌<◌}
use native.Mathlib.Omega.{arith}
use mathlib.Core.Path.{◌≡◌, refl, ap₂}
use mathlib.Core.Bool.{Bool, true, false, cond}
use mathlib.Core.List.{List}
use lib.IntN.{ℤ, pos, negsuc, ◌+ℤ◌, ◌-ℤ◌}
use lib.ListN.{get_or}
use lib.Signed.{mag, lt_z, le_z}
use mir.Syntax.{w32}
use mir.Val.{SFits}
use Rattle.general.proofs.UpDown.{up, dn, add-ud, take-ud, lt_z-true, lt_z-false, le_z-true, le_z-false, le-lt_z, le-le_z, lt-le_z}
use Rattle.general.proofs.TestLaws.{and_right}
use Rattle.general.proofs.NumberLaws.{fits-up}
use Rattle.lut.specs.declared.XMode.{XMode}
use Rattle.lut.specs.declared.XMode.TheVariants.{Linear, Exponential}
use Rattle.lut.specs.declared.XSettings.{XSettings}
use Rattle.lut.specs.declared.YSettings.{YSettings}
use Rattle.lut.specs.declared.LutSettings.{LutSettings}
use Rattle.lut.specs.declared.Table.{Table}
use Rattle.lut.specs.declared.Table.TheVariants.{X, Y}
use Rattle.lut.specs.declared.Side.{Side}
use Rattle.lut.specs.declared.Side.TheVariants.{Below, Hit, Above}
use Rattle.lut.specs.Numbers.{scaled}
use Rattle.lut.specs.Tables.{entry, linear_side, linear_answer, linear_x, reaches, exponential_side, side_x, hit_x, answer_x, side_y, answer_y}
use Rattle.lut.specs.Samples.{kind_of, sample_kind, answering, answer_of, sample_answer}
use Rattle.lut.specs.Rules.{same_z}
use Rattle.lut.specs.Steps.{x_valid, y_valid}
use Rattle.lut.proofs.SideLaws.{Sound, sound_y, sound_x, x_valid-below, x_valid-offset, x_valid-end}
use Rattle.lut_calls.specs.declared.Row.{Row}
use Rattle.lut_calls.specs.declared.TableRows.{TableRows}
use Rattle.lut_calls.specs.declared.Span.{Span}
use Rattle.lut_calls.specs.declared.Bounds.{Bounds}
use Rattle.lut_calls.specs.StepsRows.{linear_rows, rows_x, picked, rows_of}
use Rattle.lut_calls.specs.StepsPoints.{Stored}
use Rattle.lut_calls.specs.StepsLoop.{side_of, pair_of, first_x, bounds_of, wide_of, SettingsFit, row_for, pair_answer, All_ready}
use Rattle.lut_calls.proofs.ServeLaws.{Serves, serve-slope, serve-line, serve-power}

-- the row of a side
abbrev pub row_at : TableRows → Side → Row
row_at t Below = t.below
row_at t Hit = t.hit
row_at t Above = t.above

-- ---- a linear table

module _ (wide : Bool) {firsts rises table : List ℤ} (base last : ℕ) (t : YSettings) (sound : Sound last t) (h : Stored firsts rises table base last t.below t.above)
    (room : base + last ≤ 322) (short : last ≤ 256) (x : ℤ) (fx : SFits w32 x) where
  linear-by : (a b : Bool) → lt_z x t.start ≡ a → lt_z t.end x ≡ b
      → Serves wide (row_at (linear_rows t base last) (linear_side t.start t.end x)) firsts rises x (linear_answer t last table x)
  unfolding linear_rows linear_side
  linear-by true b e f =
      rw e
      (serve-slope wide firsts rises t.start t.below (base + last + 1) x (entry table 0) fx sound.start_fits sound.below_in (omega arith) h.first_below h.rise_below)
  linear-by false true e f =
      rw (e, f)
      (serve-slope wide firsts rises t.end t.above (base + last) x (entry table last) fx sound.end_fits sound.above_in (omega arith) (h.first last (omega arith)) h.rise_above)
  linear-by false false e f =
      rw (e, f) (serve-line wide h (omega arith) short t.start x t.end t.select fx sound.start_fits sound.select_in sound.end_is e f)

  serve-linear : Serves wide (row_at (linear_rows t base last) (linear_side t.start t.end x)) firsts rises x (linear_answer t last table x)
  serve-linear = linear-by (lt_z x t.start) (lt_z t.end x) refl refl

-- ---- the two tables

module _ {firsts rises : List ℤ} (x : ℤ) (fx : SFits w32 x) where
  serve-y : (wide : Bool) (s : YSettings) (ys : List ℤ) → Sound 256 s → Stored firsts rises ys 0 256 s.below s.above
      → Serves wide (row_at (linear_rows s 0 256) (side_y s x)) firsts rises x (answer_y s ys x)
  unfolding side_y answer_y
  serve-y wide s ys sound h = serve-linear wide 0 256 s sound h (omega arith) (omega arith) x fx

  module _ (s : XSettings) (xs : List ℤ) (valid : x_valid s ≡ true) (fs : SFits w32 s.start) (fe : SFits w32 s.end)
      (h : Stored firsts rises xs 258 64 s.below s.above) where
    abbrev Served : Type 0
    Served = Serves (wide_of s.mode) (row_at (rows_x s) (side_x s x)) firsts rises x (answer_x s xs x)

    exponential-by : (z : ℤ) → s.mode ≡ Exponential z → (t : Bool) → reaches z (x -ℤ s.start) ≡ t → Served
    unfolding rows_x side_x hit_x answer_x exponential_side wide_of
    exponential-by z m true e = rw (m, e) (serve-power h s.start z x fx fs (x_valid-offset s valid z m) e)
    exponential-by z m false e =
        rw (m, e) (serve-slope true firsts rises s.start s.below 323 x (entry xs 0) fx fs (x_valid-below s valid) (omega arith) h.first_below h.rise_below)

    x-by : (mode : XMode) → s.mode ≡ mode → Served
    unfolding rows_x side_x hit_x answer_x
    x-by (Linear z) m = rw m (serve-linear (wide_of (Linear z)) 258 64 (linear_x s z) (sound_x s valid z m fs fe) h (omega arith) (omega arith) x fx)
    x-by (Exponential z) m = exponential-by z m (reaches z (x -ℤ s.start)) refl

    serve-x : Served
    serve-x = x-by s.mode refl

-- ---- the number of a side

abbrev pub side_number : Side → ℕ
side_number Below = 0
side_number Hit = 1
side_number Above = 2

abbrev pub pair_number : LutSettings → ℤ → ℕ
pair_number s x = 3 * side_number (side_x s.x x) + side_number (side_y s.y x)

pub side-le : (s : Span) (x : ℤ) → side_of s x ≤ 2
unfolding side_of
side-le s x = two (le_z s.first x) (lt_z s.last x)
  where
    two : (a b : Bool) → cond a 1 0 + cond b 1 0 ≤ 2
    two true true = omega arith
    two true false = omega arith
    two false true = omega arith
    two false false = omega arith

pub pair_lt : (b : Bounds) (x : ℤ) → pair_of b x < 9
unfolding pair_of
pair_lt b x = omega (arith, side-le b.x x, side-le b.y x)

module _ (last : ℕ) (t : YSettings) (sound : Sound last t) (x : ℤ) where
  ordered : up t.start + dn t.end ≤ up t.end + dn t.start
  unfolding same_z
  ordered =
      let n = scaled last t.select in
      let e = and_right (le_z t.end (t.start +ℤ pos n)) (le_z (t.start +ℤ pos n) t.end) sound.end_is in
      omega (arith, le_z-true (t.start +ℤ pos n) t.end e, add-ud t.start (pos n))

  side-by : (a b : Bool) → lt_z x t.start ≡ a → lt_z t.end x ≡ b
      → side_of (record { first = t.start; last = t.end }) x ≡ side_number (linear_side t.start t.end x)
  unfolding side_of linear_side
  side-by true b e f =
      rw (e, lt-le_z t.start x (omega (arith, lt_z-true x t.start e)), le-lt_z t.end x (omega (arith, ordered, lt_z-true x t.start e))) refl
  side-by false true e f = rw (e, f, le-le_z t.start x (omega (arith, lt_z-false x t.start e))) refl
  side-by false false e f = rw (e, f, le-le_z t.start x (omega (arith, lt_z-false x t.start e))) refl

  side-linear : side_of (record { first = t.start; last = t.end }) x ≡ side_number (linear_side t.start t.end x)
  side-linear = side-by (lt_z x t.start) (lt_z t.end x) refl refl

-- the first sample that reaches
first_by : (start x : ℤ) (n : ℕ) (t : Bool) → le_z (pos n) (x -ℤ start) ≡ t → le_z (start +ℤ pos n) x ≡ t
first_by start x n true e = le-le_z (start +ℤ pos n) x (omega (arith, le_z-true (pos n) (x -ℤ start) e, take-ud x start, add-ud start (pos n)))
first_by start x n false e = lt-le_z (start +ℤ pos n) x (omega (arith, le_z-false (pos n) (x -ℤ start) e, take-ud x start, add-ud start (pos n)))

first-reaches : (start x z : ℤ) → le_z (start +ℤ pos (2 ^ up z)) x ≡ reaches z (x -ℤ start)
unfolding reaches
first-reaches start x (pos k) = first_by start x (2 ^ k) (le_z (pos (2 ^ k)) (x -ℤ start)) refl
first-reaches start x (negsuc k) = first_by start x 1 (le_z (pos 1) (x -ℤ start)) refl

module _ (s : XSettings) (x : ℤ) (fx : SFits w32 x) (valid : x_valid s ≡ true) (fs : SFits w32 s.start) (fe : SFits w32 s.end) where
  abbrev Numbered : Type 0
  Numbered = side_of (record { first = first_x s; last = s.end }) x ≡ side_number (side_x s x)

  -- nothing is above an exponential table
  never : (z : ℤ) → s.mode ≡ Exponential z → lt_z s.end x ≡ false
  unfolding same_z
  never z m =
      let e = and_right (le_z s.end (pos 2147483647)) (le_z (pos 2147483647) s.end) (x_valid-end s valid z m) in
      le-lt_z s.end x (omega (arith, le_z-true (pos 2147483647) s.end e, fits-up fx))

  exponential-side : (z : ℤ) → s.mode ≡ Exponential z → (t : Bool) → reaches z (x -ℤ s.start) ≡ t → Numbered
  unfolding side_of first_x side_x exponential_side
  exponential-side z m true e = rw (m, first-reaches s.start x z, e, never z m) refl
  exponential-side z m false e = rw (m, first-reaches s.start x z, e, never z m) refl

  side-x-by : (mode : XMode) → s.mode ≡ mode → Numbered
  unfolding first_x side_x
  side-x-by (Linear z) m = rw m (side-linear 64 (linear_x s z) (sound_x s valid z m fs fe) x)
  side-x-by (Exponential z) m = exponential-side z m (reaches z (x -ℤ s.start)) refl

-- ---- the rows of a run

pub ready_by : {rows rows₁ : List Row} {b b₁ : Bounds} {wide wide₁ : Bool} → rows ≡ rows₁ → b ≡ b₁ → wide ≡ wide₁ → All_ready rows₁ b₁ wide₁ → All_ready rows b wide
ready_by e f g h = rw (e, f, g) h

rows_of-at : (s : LutSettings) (x y : TableRows) (p q : Side) (r : Row)
    → get_or (rows_of s x y) (3 * side_number p + side_number q) r ≡ picked (answering s (kind_of p q)) (row_at x p) (row_at y q)
unfolding rows_of kind_of answering picked
rows_of-at s x y Below Below r = refl
rows_of-at s x y Below Hit r = refl
rows_of-at s x y Below Above r = refl
rows_of-at s x y Hit Below r = refl
rows_of-at s x y Hit Hit r = refl
rows_of-at s x y Hit Above r = refl
rows_of-at s x y Above Below r = refl
rows_of-at s x y Above Hit r = refl
rows_of-at s x y Above Above r = refl

module _ (s : LutSettings) (fits : SettingsFit s) (valid_x : x_valid s.x ≡ true) (valid_y : y_valid s.y ≡ true) where
  sound-y : Sound 256 s.y
  sound-y = sound_y s.y valid_y fits.y_start fits.y_end

  pub pair_is : (x : ℤ) → mag x < 2147483648 → pair_of (bounds_of s) x ≡ pair_number s x
  unfolding pair_of bounds_of side_y
  pair_is x m =
      ap₂ (λ (p q : ℕ). 3 * p + q)
      (side-x-by s.x x (record { sfits = m }) valid_x fits.x_start fits.x_end s.x.mode refl)
      (side-linear 256 s.y sound-y x)

  module _ (xs ys firsts rises : List ℤ) (hx : Stored firsts rises xs 258 64 s.x.below s.x.above) (hy : Stored firsts rises ys 0 256 s.y.below s.y.above) where
    abbrev rows : List Row
    rows = rows_of s (rows_x s.x) (linear_rows s.y 0 256)

    abbrev wide : Bool
    wide = wide_of s.x.mode

    row_of : ℤ → Table → Row
    row_of x t = picked t (row_at (rows_x s.x) (side_x s.x x)) (row_at (linear_rows s.y 0 256) (side_y s.y x))

    by-table : (x : ℤ) → SFits w32 x → (t : Table) → Serves wide (row_of x t) firsts rises x (answer_of s xs ys t x)
    unfolding row_of picked answer_of
    by-table x fx X = serve-x x fx s.x xs valid_x fits.x_start fits.x_end hx
    by-table x fx Y = serve-y x fx wide s.y ys sound-y hy

    planned : (x : ℤ) → mag x < 2147483648 → row_for rows (bounds_of s) x ≡ row_of x (answering s (sample_kind s x))
    unfolding row_for row_of sample_kind
    planned x m = rw (pair_is x m) (rows_of-at s (rows_x s.x) (linear_rows s.y 0 256) (side_x s.x x) (side_y s.y x) _)

    served : (x : ℤ) → mag x < 2147483648 → Serves wide (row_for rows (bounds_of s) x) firsts rises x (sample_answer s xs ys x)
    unfolding sample_answer
    served x m = rw (planned x m) (by-table x (record { sfits = m }) (answering s (sample_kind s x)))

    pub planned-ready : All_ready rows (bounds_of s) wide
    planned-ready x m = ((served x m).powered, (served x m).inside)

    pub planned-answer : (x : ℤ) → mag x < 2147483648 → pair_answer rows (bounds_of s) firsts rises wide x ≡ sample_answer s xs ys x
    unfolding pair_answer
    planned-answer x m = (served x m).answers
