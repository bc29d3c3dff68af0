-- The points of a table written: a slope's rise within 32 bits, and the loop over the entries. Assumes nothing.
--     shift-ud, rise-le, rise-fits, rise-value     a slope's rise
--     step_fits, step_value                        the step between two entries
--     Begun, begun, begun-next, filled             the first i entries' points, and the whole table's
use Prim.Native.Nat.{ℕ, ◌+◌, ◌^◌, ◌≤◌, ◌<◌}
use native.Mathlib.Nat.{pow-le-pow_right, mul-le-mul}
use native.Mathlib.Decide.{ℕ_discrete}
use native.Mathlib.Omega.{arith}
use mathlib.Core.Path.{◌≡◌, refl, ap, ◌∙◌}
use mathlib.Core.Bool.{true}
use mathlib.Core.List.{List}
use lib.Dec.{lit<}
use lib.IntN.{ℤ, pos, negsuc, ◌-ℤ◌, ◌*ℤ◌}
use lib.ListN.{length, set, length-set}
use lib.Seq.{get_or-set_same, get_or-set_other}
use lib.Signed.{mag}
use mir.Syntax.{w16, w32}
use mir.Val.{SFits, to_z, of_z}
use mir.Facts.{sfits_widen, to_z-of_z, to_z_pos}
use Rattle.general.proofs.UpDown.{up, dn, up-times, dn-times}
use Rattle.general.proofs.Ranges.{within-take, fits-within, within-fits}
use Rattle.general.proofs.Casts.{cast-value}
use Rattle.general.proofs.NumberLaws.{nat-within, ud-fits}
use Rattle.lut.specs.declared.Slope.{Slope}
use Rattle.lut.specs.Tables.{entry}
use Rattle.lut.specs.Rules.{shift_valid}
use Rattle.lut.proofs.BetweenLaws.{between-abs}
use Rattle.lut_calls.specs.StepsPoints.{slope_rise, Stored, Filled}

-- ---- a slope's rise

pub shift-ud : (shift : ℤ) → shift_valid shift ≡ true → (up shift ≤ 15) × (dn shift ≤ 16)
unfolding shift_valid
shift-ud shift t = between-abs 15 15 shift t

pub rise-le : (shift : ℤ) → shift_valid shift ≡ true → 2 ^ dn shift ≤ 65536
rise-le shift t = pow-le-pow_right {n = 2} (lit< tt) {i = dn shift} {j = 16} (shift-ud shift t).1

abbrev from : ℤ → ℤ
from z = to_z w32 (of_z w32 (to_z w16 (of_z w16 z)))

pub count_fits : {m : ℕ} → m ≤ 65536 → SFits w32 (pos m)
count_fits h = within-fits (nat-within h) (lit< tt)

scale-ud : (scale : ℤ) → SFits w16 scale → (up scale ≤ 32767) × (dn scale ≤ 32768)
scale-ud (pos n) f = (omega (arith, f.sfits), omega arith)
scale-ud (negsuc n) f = (omega arith, omega (arith, f.sfits))

module _ {scale : ℤ} {m : ℕ} (f : SFits w16 scale) (h : m ≤ 65536) where
  rise-is : from scale *ℤ to_z w32 m ≡ scale *ℤ pos m
  rise-is = rw (cast-value f (sfits_widen tt f), to_z_pos w32 {n = m} (omega arith))

  pub rise-fits : SFits w32 (from scale *ℤ to_z w32 m)
  rise-fits =
      let s = scale-ud scale f in
      rw rise-is
      (ud-fits (scale *ℤ pos m) (omega (arith, up-times scale m, mul-le-mul s.0 h)) (omega (arith, dn-times scale m, mul-le-mul s.1 h)))

pub rise-value : (s : Slope) {m : ℕ} → SFits w16 s.scale → m ≤ 65536 → m ≡ 2 ^ dn s.shift → to_z w32 (of_z w32 (from s.scale *ℤ to_z w32 m)) ≡ slope_rise s
unfolding slope_rise
rise-value s f h e = to_z-of_z (rise-fits f h) ∙ rise-is f h ∙ ap (λ (n : ℕ). s.scale *ℤ pos n) e

-- ---- the step between two entries

module _ {a b : ℤ} (fa : SFits w16 a) (fb : SFits w16 b) where
  step_is : from b -ℤ from a ≡ b -ℤ a
  step_is = rw (cast-value fa (sfits_widen tt fa), cast-value fb (sfits_widen tt fb))

  pub step_fits : SFits w32 (from b -ℤ from a)
  step_fits = rw step_is (within-fits (within-take (fits-within fb) (fits-within fa)) (lit< tt))

  pub step_value : to_z w32 (of_z w32 (from b -ℤ from a)) ≡ b -ℤ a
  step_value = to_z-of_z step_fits ∙ step_is

-- ---- the points written

module _ (l : List ℤ) (at : ℕ) (v : ℤ) where
  entry-same : at < length l → entry (set l at v) at ≡ v
  unfolding entry
  entry-same h = get_or-set_same l at v (pos 0) h

  entry_other : (j : ℕ) → (j ≡ at → ⊥) → entry (set l at v) j ≡ entry l j
  unfolding entry
  entry_other j f = get_or-set_other l at j v (pos 0) f

-- what holds of the numbers before i holds of i too
step_by : (l : List ℤ) (base i : ℕ) (v : ℤ) (f : ℕ → ℤ) → base + i < length l → ((j : ℕ) → j < i → entry l (base + j) ≡ f j) → v ≡ f i
    → (j : ℕ) → j < i + 1 → entry (set l (base + i) v) (base + j) ≡ f j
step_by l base i v f h before e j k = elim (ℕ_discrete j i) [
  | yes q ↦ rw q (entry-same l (base + i) v h ∙ e)
  | no g ↦ entry_other l (base + i) v (base + j) (λ q. g (omega arith)) ∙ before j (omega (arith, g))
]

fits_by : (table : List ℤ) (i : ℕ) → ((j : ℕ) → j < i → mag (entry table j) < 32768) → mag (entry table i) < 32768 → (j : ℕ) → j < i + 1 → mag (entry table j) < 32768
fits_by table i before m j k = elim (ℕ_discrete j i) [ yes q ↦ rw q m | no g ↦ before j (omega (arith, g)) ]

-- the points of the first i entries are written, and those before base stay
pub record Begun (firsts₀ rises₀ firsts rises table : List ℤ) (base i : ℕ) : Type 0 where
  pub first : (j : ℕ) → j < i → entry firsts (base + j) ≡ entry table j
  pub rise : (j : ℕ) → j < i → entry rises (base + j) ≡ entry table (j + 1) -ℤ entry table j
  pub fits : (j : ℕ) → j < i → mag (entry table j) < 32768
  pub firsts_kept : (j : ℕ) → j < base → entry firsts j ≡ entry firsts₀ j
  pub rises_kept : (j : ℕ) → j < base → entry rises j ≡ entry rises₀ j
  pub firsts_long : length firsts ≡ 324
  pub rises_long : length rises ≡ 324

pub begun : (firsts rises table : List ℤ) (base : ℕ) → length firsts ≡ 324 → length rises ≡ 324 → Begun firsts rises firsts rises table base 0
begun firsts rises table base h k =
    record {
      first = λ j l. absurd (omega arith);
      rise = λ j l. absurd (omega arith);
      fits = λ j l. absurd (omega arith);
      firsts_kept = λ j l. refl;
      rises_kept = λ j l. refl;
      firsts_long = h;
      rises_long = k;
    }

module _ {firsts₀ rises₀ firsts rises table : List ℤ} {base i : ℕ} (h : Begun firsts₀ rises₀ firsts rises table base i) (a b : ℤ) where
  pub begun-next : base + i < 324 → a ≡ entry table i → b ≡ entry table (i + 1) -ℤ entry table i → mag (entry table i) < 32768
      → Begun firsts₀ rises₀ (set firsts (base + i) a) (set rises (base + i) b) table base (i + 1)
  begun-next l e f m =
      record {
        first = step_by firsts base i a (entry table) (omega (arith, h.firsts_long)) h.first e;
        rise = step_by rises base i b (λ j. entry table (j + 1) -ℤ entry table j) (omega (arith, h.rises_long)) h.rise f;
        fits = fits_by table i h.fits m;
        firsts_kept = λ j k. entry_other firsts (base + i) a j (λ q. omega arith) ∙ h.firsts_kept j k;
        rises_kept = λ j k. entry_other rises (base + i) b j (λ q. omega arith) ∙ h.rises_kept j k;
        firsts_long = length-set firsts (base + i) a ∙ h.firsts_long;
        rises_long = length-set rises (base + i) b ∙ h.rises_long;
      }

-- the last entry's point, and the slope below's
module _ {firsts₀ rises₀ firsts rises table : List ℤ} {base last : ℕ} (h : Begun firsts₀ rises₀ firsts rises table base last) (start end : ℤ) (below above : Slope)
    (room : base + last ≤ 322) (s : start ≡ entry table 0) (e : end ≡ entry table last) (m : mag (entry table last) < 32768) where
  module _ (l : List ℤ) (a b : ℤ) (long : length l ≡ 324) where
    abbrev two : List ℤ
    two = set (set l (base + last) a) (base + last + 1) b

    two-before : (j : ℕ) → j < base + last → entry two j ≡ entry l j
    two-before j k = entry_other (set l (base + last) a) (base + last + 1) b j (λ q. omega arith) ∙ entry_other l (base + last) a j (λ q. omega arith)

    two-long : length two ≡ 324
    two-long = length-set (set l (base + last) a) (base + last + 1) b ∙ length-set l (base + last) a ∙ long

    two-first : entry two (base + last) ≡ a
    two-first = entry_other (set l (base + last) a) (base + last + 1) b (base + last) (λ q. omega arith) ∙ entry-same l (base + last) a (omega (arith, long))

    two-second : entry two (base + last + 1) ≡ b
    two-second = entry-same (set l (base + last) a) (base + last + 1) b (omega (arith, long, length-set l (base + last) a))

  pub filled : Filled firsts₀ rises₀ (two firsts end start h.firsts_long) (two rises (slope_rise above) (slope_rise below) h.rises_long) table base last below above
  filled =
      let f = h.firsts_long in
      let r = h.rises_long in
      let up = slope_rise above in
      let down = slope_rise below in
      record {
        stored = record {
          first = λ i l. entry_other (set firsts (base + last) end) (base + last + 1) start (base + i) (λ q. omega arith)
              ∙ step_by firsts base last end (entry table) (omega (arith, f)) h.first e i (omega arith);
          rise = λ i l. two-before rises up down r (base + i) (omega arith) ∙ h.rise i l;
          fits = λ i l. fits_by table last h.fits m i (omega arith);
          first_below = two-second firsts end start f ∙ s;
          rise_below = two-second rises up down r;
          rise_above = two-first rises up down r;
        };
        firsts_kept = λ j l. two-before firsts end start f j (omega arith) ∙ h.firsts_kept j l;
        rises_kept = λ j l. two-before rises up down r j (omega arith) ∙ h.rises_kept j l;
        firsts_long = two-long firsts end start f;
        rises_long = two-long rises up down r;
      }

-- a table's points stay where later ones are written
pub stored-kept : {firsts₀ rises₀ firsts rises table : List ℤ} {base last : ℕ} {below above : Slope} → Stored firsts₀ rises₀ table base last below above
    → ((j : ℕ) → j < base + last + 2 → entry firsts j ≡ entry firsts₀ j) → ((j : ℕ) → j < base + last + 2 → entry rises j ≡ entry rises₀ j)
    → Stored firsts rises table base last below above
stored-kept {base = base} {last = last} h f g =
    record {
      first = λ i l. f (base + i) (omega arith) ∙ h.first i l;
      rise = λ i l. g (base + i) (omega arith) ∙ h.rise i l;
      fits = h.fits;
      first_below = f (base + last + 1) (omega arith) ∙ h.first_below;
      rise_below = g (base + last + 1) (omega arith) ∙ h.rise_below;
      rise_above = g (base + last) (omega arith) ∙ h.rise_above;
    }
