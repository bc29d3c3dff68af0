-- The rows of a table answer what the scope paper's definitions say: the slope past an end, the linear hit and the exponential hit. Assumes nothing.
--     Serves                                   a row answers v to a sample, and stays within its types
--     serve-slope, serve-line, serve-power     the three kinds of rows
use Prim.Native.Nat.{ℕ, ◌+◌, ◌-◌, ◌*◌, ◌/◌, ◌%◌, ◌^◌, ◌≤◌, ◌<◌}
use native.Mathlib.Nat.{mul-one, zero-add, div-add-mod', mod-lt, div-lt_iff_lt-mul}
use native.Mathlib.Omega.{arith}
use mathlib.Core.Path.{◌≡◌, refl, sym, ap, subst, ◌∙◌}
use mathlib.Core.Bool.{Bool, true, false}
use mathlib.Core.List.{List}
use lib.Pow.{pow_pos}
use lib.IntN.{ℤ, pos, negsuc, nat_abs, ◌+ℤ◌, ◌-ℤ◌, ◌*ℤ◌, *ℤ-zero}
use lib.Signed.{lt_z}
use mir.Syntax.{w32}
use mir.Val.{SFits}
use Rattle.general.proofs.UpDown.{up, dn, take-ud}
use Rattle.general.proofs.NumberLaws.{times-one, within-abs}
use Rattle.lut.specs.declared.Slope.{Slope}
use Rattle.lut.specs.Numbers.{between, scaled, log_below}
use Rattle.lut.specs.Tables.{entry, interpolated, linear_hit, reaches, exponential_hit, sloped}
use Rattle.lut.specs.Rules.{same_z, shift_valid}
use Rattle.lut.proofs.BetweenLaws.{between-abs}
use Rattle.lut.proofs.HeldLaws.{apart-within}
use Rattle.lut.proofs.AnswerLaws.{hit-distance, not-below, hit-far}
use Rattle.lut.proofs.HitLaws.{fine, unit, line-le, line_step, line-last, linear_hit-is}
use Rattle.lut.proofs.LogLaws.{log-le, hit-range, hit-index}
use Rattle.lut_calls.specs.declared.Row.{Row}
use Rattle.lut_calls.specs.StepsRows.{row_far, row_wide, row_power, row_answer, Inside, Powered, slope_row, line_row, power_row}
use Rattle.lut_calls.specs.StepsPoints.{slope_rise, Stored}
use Rattle.lut_calls.proofs.LineLaws.{on_line-slope, stored-hit}
use Rattle.lut_calls.proofs.RowLaws.{off-inside, off-answer, on-inside, on-answer}

pub record Serves (wide : Bool) (r : Row) (firsts rises : List ℤ) (x v : ℤ) : Type 0 where
  pub powered : Powered r x
  pub inside : Inside r (row_power wide r x) x
  pub answers : row_answer r firsts rises (row_power wide r x) x ≡ v

-- the power of a row, by the distance that counts
module _ (wide : Bool) (r : Row) (firsts rises : List ℤ) (x v : ℤ) (d : ℕ) (e : row_wide r x ≡ pos d) (h : d ≤ 4294967295) (p : ℕ) (power : row_power wide r x ≡ p) where
  serves_by : Inside r p x → row_answer r firsts rises p x ≡ v → Serves wide r firsts rises x v
  serves_by i a =
      record {
        powered = record { wide_is = rw e refl; wide_le = rw e h };
        inside = rw power i;
        answers = rw power a;
      }

-- a row that is not exponential
module _ (wide : Bool) (r : Row) (firsts rises : List ℤ) (x v : ℤ) (quiet : r.wide ≡ pos 0) where
  flat : row_wide r x ≡ pos 0
  unfolding row_wide
  flat = ap (λ (w : ℤ). (x -ℤ r.origin) *ℤ w) quiet ∙ *ℤ-zero (x -ℤ r.origin)

  quiet-power : (w : Bool) → row_power w r x ≡ 0
  unfolding row_power log_below
  quiet-power true = ap (λ (z : ℤ). log_below 32 (nat_abs z)) flat
  quiet-power false = refl

  quiet-serves : Inside r 0 x → row_answer r firsts rises 0 x ≡ v → Serves wide r firsts rises x v
  quiet-serves = serves_by wide r firsts rises x v 0 flat (omega arith) 0 (quiet-power wide)

-- ---- past an end

pub serve-slope : (wide : Bool) (firsts rises : List ℤ) (origin : ℤ) (s : Slope) (base : ℕ) (x from : ℤ) → SFits w32 x → SFits w32 origin
    → shift_valid s.shift ≡ true → base < 324 → entry firsts base ≡ from → entry rises base ≡ slope_rise s
    → Serves wide (slope_row origin s.shift base) firsts rises x (sloped from (x -ℤ origin) s)
unfolding slope_row row_far shift_valid
serve-slope wide firsts rises origin s base x from fx fo t l e f =
    let r : Row = slope_row origin s.shift base in
    let far = times-one (x -ℤ origin) in
    let shift : up s.shift + 0 ≤ 31 = omega (arith, (between-abs 15 15 s.shift t).0) in
    quiet-serves wide r firsts rises x (sloped from (x -ℤ origin) s) refl
    (off-inside r 0 x refl (subst (λ (z : ℤ). nat_abs z ≤ 4294967295) (sym far) (within-abs (x -ℤ origin) (apart-within fx fo))) shift (omega arith))
    (off-answer r 0 x refl firsts rises ∙ rw (far, add-zero base, add-zero (up s.shift), e, f) (on_line-slope from (x -ℤ origin) s))
  where
    add-zero : (n : ℕ) → n + 0 ≡ n
    add-zero n = omega arith

-- ---- hits

module _ {firsts rises table : List ℤ} {base last : ℕ} {below above : Slope} (h : Stored firsts rises table base last below above) (r : Row) (x : ℤ) (on : r.on ≡ pos 1) where
  -- a row whose steps lead to a table's entry
  hit-at : (p d i k : ℕ) → row_far r x ≡ pos d → r.shift + p ≡ k → r.base + p + d / 2 ^ k ≡ base + i → i ≤ last → (i ≡ last → d % 2 ^ k ≡ 0)
      → row_answer r firsts rises p x ≡ interpolated table i (d % 2 ^ k) (2 ^ k)
  hit-at p d i k far shift point l e =
      on-answer r p x d on far firsts rises ∙ rw (shift, point) (stored-hit h i (d % 2 ^ k) k l (mod-lt d (pow_pos k)) e)

module _ (wide : Bool) {firsts rises table : List ℤ} {base last : ℕ} {below above : Slope} (h : Stored firsts rises table base last below above) (room : base + last < 324)
    (short : last ≤ 256) (start : ℤ) (x : ℤ) where
  line_at : (select : ℤ) (d : ℕ) → between (negsuc 7) (pos 25) select ≡ true → x -ℤ start ≡ pos d → d ≤ 4294967295 → d ≤ scaled last select
      → fine d select ≤ 4294967295 → Serves wide (line_row start select base) firsts rises x (linear_hit table last select d)
  unfolding line_row row_far
  line_at select d b far small l fits =
      let r : Row = line_row start select base in
      let n = fine d select in
      let m = unit select in
      let k = up select in
      let reach : row_far r x ≡ pos n = ap (λ (z : ℤ). z *ℤ pos (2 ^ dn select)) far in
      let all = line-le last select d l in
      let i = line_step last n k all in
      let same : k + 0 ≡ k = omega arith in
      let point : base + 0 + n / m ≡ base + n / m = omega arith in
      quiet-serves wide r firsts rises x (linear_hit table last select d) refl
      (on-inside r 0 x n refl reach fits (omega (arith, (between-abs 7 25 select b).0)) (rw (same, point) (omega (arith, i))))
      (hit-at h r x refl 0 n (n / m) k reach same point i (line-last last n m all) ∙ sym (linear_hit-is table last select d l))

  fine_le : (select : ℤ) (d : ℕ) → d ≤ 4294967295 → d ≤ scaled last select → fine d select ≤ 4294967295
  fine_le (pos k) d small l = omega (arith, mul-one d)
  fine_le (negsuc k) d small l = omega (arith, line-le last (negsuc k) d l, mul-one last)

  pub serve-line : (end select : ℤ) → SFits w32 x → SFits w32 start → between (negsuc 7) (pos 25) select ≡ true → same_z end (start +ℤ pos (scaled last select)) ≡ true
      → lt_z x start ≡ false → lt_z end x ≡ false → Serves wide (line_row start select base) firsts rises x (linear_hit table last select (nat_abs (x -ℤ start)))
  serve-line end select fx fs b e f g =
      let d = not-below fx fs f in
      let n = ap nat_abs d.1 in
      let l = subst (λ (k : ℕ). k ≤ scaled last select) n (hit-distance start end x (scaled last select) e f g) in
      subst (λ (k : ℕ). Serves wide (line_row start select base) firsts rises x (linear_hit table last select k)) (sym n)
      (line_at select d.0 b d.1 d.2 l (fine_le select d.0 d.2 l))

module _ {firsts rises table : List ℤ} {below above : Slope} (h : Stored firsts rises table 258 64 below above) (start offset : ℤ) (x : ℤ)
    (valid : between (negsuc 31) (pos 31) offset ≡ true) (d : ℕ) (far : x -ℤ start ≡ pos d) (small : d ≤ 4294967295) (hit : reaches offset (pos d) ≡ true) where
  abbrev r : Row
  r = power_row start offset

  abbrev p : ℕ
  p = log_below 32 d

  abbrev range : (2 ^ p ≤ d) × (d < 2 * 2 ^ p)
  range = hit-range offset valid d small hit

  abbrev index : (n : ℕ) × (pos p -ℤ offset ≡ pos n) × (n ≤ 63)
  index = hit-index offset valid d small hit

  one-step : d / 2 ^ p ≡ 1
  one-step =
      let m = 2 ^ p in
      let some : d / m < 1 → ⊥ = λ l. omega (arith, (div-lt_iff_lt-mul {k = m} {x = d} {y = 1} (pow_pos p)).0 l, range.0) in
      omega (arith, some, (div-lt_iff_lt-mul {k = m} {x = d} {y = 2} (pow_pos p)).1 range.1)

  rest-is : d % 2 ^ p ≡ d - 2 ^ p
  rest-is = omega (arith, div-add-mod' d (2 ^ p), ap (λ (n : ℕ). n * 2 ^ p) one-step)

  -- 257 - offset + p + 1 is 258 + the index
  point-is : nat_abs (pos 257 -ℤ offset) + p + d / 2 ^ p ≡ 258 + index.0
  point-is =
      let b = between-abs 31 31 offset valid in
      let base = base-by (pos 257 -ℤ offset) (omega (arith, take-ud (pos 257) offset, b.0)) in
      omega (arith, one-step, base, take-ud (pos 257) offset, take-ud (pos p) offset, ap up index.1, ap dn index.1)
    where
      base-by : (z : ℤ) → dn z < up z → nat_abs z + dn z ≡ up z
      base-by (pos n) l = omega arith
      base-by (negsuc n) l = absurd (omega arith)

  power_at : Serves true r firsts rises x (exponential_hit table offset d)
  unfolding power_row row_far row_wide row_power exponential_hit
  power_at =
      let n = index.0 in
      let reach = times-one (x -ℤ start) ∙ far in
      let same : 0 + p ≡ p = zero-add p in
      serves_by true r firsts rises x (exponential_hit table offset d) d reach small p (ap (λ (z : ℤ). log_below 32 (nat_abs z)) reach)
      (on-inside r p x d refl reach small (omega (arith, log-le 31 d)) (rw (same, point-is) (omega (arith, index.2))))
      (hit-at h r x refl p d n p reach same point-is (omega (arith, index.2)) (λ e. absurd (omega (arith, index.2)))
      ∙ rw (rest-is, ap nat_abs index.1) refl)

pub serve-power : {firsts rises table : List ℤ} {below above : Slope} → Stored firsts rises table 258 64 below above → (start offset x : ℤ) → SFits w32 x → SFits w32 start
    → between (negsuc 31) (pos 31) offset ≡ true → reaches offset (x -ℤ start) ≡ true
    → Serves true (power_row start offset) firsts rises x (exponential_hit table offset (nat_abs (x -ℤ start)))
serve-power {firsts} {rises} {table} h start offset x fx fs valid e =
    let d = hit-far fx fs offset e in
    subst (λ (k : ℕ). Serves true (power_row start offset) firsts rises x (exponential_hit table offset k)) (sym (ap nat_abs d.1))
    (power_at h start offset x valid d.0 d.1 d.2 d.3)
