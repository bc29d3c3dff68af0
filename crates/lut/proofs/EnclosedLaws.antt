-- A hit lies between its two entries, and no answer depends on anything past the last entry. A hit is interpolated at a quotient that is at most the last
-- entry's number, and at the last there is no rest. Assumes nothing.
--     linear-enclosed, x-enclosed, y-enclosed     a hit of a linear table with any last entry, of X and of Y
--     linear-agree, x-agree, y-agree              two tables that agree up to the last entry
use Prim.Native.Nat.{ℕ, suc, ◌+◌, ◌-◌, ◌*◌, ◌/◌, ◌%◌, ◌^◌, ◌≤◌, ◌<◌, min}
use native.Mathlib.Nat.{mul-one, div-one, mod-lt, min-eq_left, min-eq_right}
use native.Mathlib.Decide.{ℕ_discrete}
use native.Mathlib.Omega.{arith}
use mathlib.Core.Path.{◌≡◌, refl, sym, ap, subst, ◌∙◌}
use mathlib.Core.Bool.{Bool, true, false, cond}
use mathlib.Core.List.{List}
use mathlib.Core.Logic.{inl, inr}
use lib.Dec.{lit<}
use lib.Pow.{pow_pos}
use lib.IntN.{ℤ, pos, negsuc, nat_abs, ◌+ℤ◌, ◌-ℤ◌}
use lib.Signed.{lt_z, le_z}
use mir.Syntax.{w32}
use mir.Val.{SFits}
use Rattle.general.proofs.UpDown.{up, le_z-true, le_z-false, ud-le}
use Rattle.lut.specs.declared.XMode.{XMode}
use Rattle.lut.specs.declared.XMode.TheVariants.{Linear, Exponential}
use Rattle.lut.specs.declared.Side.TheVariants.{Below, Hit, Above}
use Rattle.lut.specs.declared.XSettings.{XSettings}
use Rattle.lut.specs.declared.YSettings.{YSettings}
use Rattle.lut.specs.Numbers.{between, scaled, log_below}
use Rattle.lut.specs.Tables.{entry, interpolated, linear_side, linear_hit, reaches, exponential_side, exponential_hit, linear_answer, linear_x, sloped, side_x, hit_x, answer_x, side_y, answer_y}
use Rattle.lut.specs.Rules.{same_z}
use Rattle.lut.specs.Steps.{x_valid}
use Rattle.lut.specs.Hits.{Amid, Enclosed, linear_index, exponential_index, index_x, index_y}
use Rattle.lut.proofs.HitLaws.{interpolated-rising, interpolated-falling, interpolated-first, fine, unit, line-le, line_step, line-last, linear_hit-is}
use Rattle.lut.proofs.LogLaws.{hit-range, hit-index}
use Rattle.lut.proofs.AnswerLaws.{linear-hit, hit-distance, hit-far}
use Rattle.lut.proofs.SideLaws.{x_valid-offset, x_valid-linear}

-- ---- an interpolated number

-- the larger number itself, or the smaller
amid-next : (a b : ℤ) (t : Bool) → le_z a b ≡ t → Amid a b b
amid-next a b true e = inl (ud-le a b (le_z-true a b e), ud-le b b (omega arith))
amid-next a b false e = inr (ud-le b b (omega arith), ud-le b a (omega (arith, le_z-false a b e)))

module _ (table : List ℤ) where
  interpolated-amid : (i f m : ℕ) (t : Bool) → 0 < m → f < m → le_z (entry table i) (entry table (i + 1)) ≡ t
      → Amid (entry table i) (entry table (i + 1)) (interpolated table i f m)
  interpolated-amid i f m true hm hf e =
      inl (interpolated-rising table i f m hm hf (ud-le (entry table i) (entry table (i + 1)) (le_z-true (entry table i) (entry table (i + 1)) e)))
  interpolated-amid i f m false hm hf e =
      inr (interpolated-falling table i f m hm hf (ud-le (entry table (i + 1)) (entry table i) (omega (arith, le_z-false (entry table i) (entry table (i + 1)) e))))

  -- at entry q and f of m steps, no step from the last entry
  interpolated-enclosed : (last q f m : ℕ) → 0 < last → 0 < m → f < m → q ≤ last → (q ≡ last → f ≡ 0)
      → Enclosed table last (min q (last - 1)) (interpolated table q f m)
  interpolated-enclosed last q f m some hm hf l e = elim (ℕ_discrete q last) [
    | yes s ↦
        let same : last - 1 + 1 ≡ last = omega arith in
        let a = entry table (last - 1) in
        let b = entry table last in
        rw (s, e s, interpolated-first table last hm, min-eq_right {n = last - 1} {m = last} (omega arith))
        (record { index_lt = omega arith; amid = subst (λ (k : ℕ). Amid a (entry table k) b) (sym same) (amid-next a b (le_z a b) refl) })
    | no g ↦
        rw (min-eq_left {n = q} {m = last - 1} (omega (arith, g)))
        (record { index_lt = omega (arith, g); amid = interpolated-amid q f m (le_z (entry table q) (entry table (q + 1))) hm hf refl })
  ]

module _ (a b : List ℤ) where
  interpolated-agree : (last q f m : ℕ) → ((i : ℕ) → i ≤ last → entry a i ≡ entry b i) → 0 < m → q ≤ last → (q ≡ last → f ≡ 0)
      → interpolated a q f m ≡ interpolated b q f m
  unfolding interpolated
  interpolated-agree last q f m h hm l e = elim (ℕ_discrete q last) [
    | yes s ↦ rw (e s) (interpolated-first a q hm ∙ h q l ∙ sym (interpolated-first b q hm))
    | no g ↦ rw (h q l, h (q + 1) (omega (arith, g))) refl
  ]

-- ---- a linear table with last entry N

linear_index-is : (last : ℕ) (select : ℤ) (d : ℕ) → linear_index last select d ≡ min (fine d select / unit select) (last - 1)
unfolding linear_index
linear_index-is last (pos k) d = ap (λ (n : ℕ). min (n / 2 ^ k) (last - 1)) (sym (mul-one d))
linear_index-is last (negsuc k) d = ap (λ (n : ℕ). min n (last - 1)) (sym (div-one (d * 2 ^ suc k)))

below-hit : Below ≡ Hit → ⊥
below-hit e = let z : ◌≡◌ {A = ℕ} 0 1 = cc in omega arith

side-hit : (start end x : ℤ) → linear_side start end x ≡ Hit → (lt_z x start ≡ false) × (lt_z end x ≡ false)
unfolding linear_side
side-hit start end x = tests (lt_z x start) (lt_z end x)
  where
    tests : (s t : Bool) → cond s Below (cond t Above Hit) ≡ Hit → (s ≡ false) × (t ≡ false)
    tests true t e = absurd (below-hit e)
    tests false true e = absurd (let z : ◌≡◌ {A = ℕ} 0 1 = cc in omega arith)
    tests false false e = (refl, refl)

module _ (last : ℕ) (select : ℤ) (d : ℕ) (h : d ≤ scaled last select) where
  abbrev n : ℕ
  n = fine d select

  abbrev m : ℕ
  m = unit select

  all : n ≤ last * m
  all = line-le last select d h

  linear_hit-enclosed : (table : List ℤ) → 0 < last → Enclosed table last (linear_index last select d) (linear_hit table last select d)
  linear_hit-enclosed table some =
      rw (linear_index-is last select d, linear_hit-is table last select d h)
      (interpolated-enclosed table last (n / m) (n % m) m some (pow_pos (up select)) (mod-lt n (pow_pos (up select))) (line_step last n (up select) all) (line-last last n m all))

  linear_hit-agree : (a b : List ℤ) → ((i : ℕ) → i ≤ last → entry a i ≡ entry b i) → linear_hit a last select d ≡ linear_hit b last select d
  linear_hit-agree a b agree =
      linear_hit-is a last select d h
      ∙ interpolated-agree a b last (n / m) (n % m) m agree (pow_pos (up select)) (line_step last n (up select) all) (line-last last n m all)
      ∙ sym (linear_hit-is b last select d h)

module _ (t : YSettings) (last : ℕ) (e : same_z t.end (t.start +ℤ pos (scaled last t.select)) ≡ true) (x : ℤ) where
  distance : lt_z x t.start ≡ false → lt_z t.end x ≡ false → nat_abs (x -ℤ t.start) ≤ scaled last t.select
  distance = hit-distance t.start t.end x (scaled last t.select) e

  pub linear-enclosed : (table : List ℤ) → 0 < last → linear_side t.start t.end x ≡ Hit
      → Enclosed table last (linear_index last t.select (nat_abs (x -ℤ t.start))) (linear_answer t last table x)
  linear-enclosed table some side =
      let h = side-hit t.start t.end x side in
      let d = nat_abs (x -ℤ t.start) in
      subst (λ (v : ℤ). Enclosed table last (linear_index last t.select d) v) (sym (linear-hit t last table x h.0 h.1))
      (linear_hit-enclosed last t.select d (distance h.0 h.1) table some)

  module _ (a b : List ℤ) (agree : (i : ℕ) → i ≤ last → entry a i ≡ entry b i) where
    agree-by : (below above : Bool) → lt_z x t.start ≡ below → lt_z t.end x ≡ above → linear_answer t last a x ≡ linear_answer t last b x
    unfolding linear_side
    agree-by true above f g = rw f (ap (λ (v : ℤ). sloped v (x -ℤ t.start) t.below) (agree 0 (omega arith)))
    agree-by false true f g = rw (f, g) (ap (λ (v : ℤ). sloped v (x -ℤ t.end) t.above) (agree last (omega arith)))
    agree-by false false f g = rw (f, g) (linear_hit-agree last t.select (nat_abs (x -ℤ t.start)) (distance f g) a b agree)

    pub linear-agree : linear_answer t last a x ≡ linear_answer t last b x
    linear-agree = agree-by (lt_z x t.start) (lt_z t.end x) refl refl

-- ---- the exponential X table

module _ (offset : ℤ) (valid : between (negsuc 31) (pos 31) offset ≡ true) (d : ℕ) (small : d ≤ 4294967295) (hit : reaches offset (pos d) ≡ true) where
  abbrev p : ℕ
  p = log_below 32 d

  index_lt : nat_abs (pos p -ℤ offset) < 64
  index_lt = let i = hit-index offset valid d small hit in rw i.1 (omega (arith, i.2))

  exponential_hit-enclosed : (table : List ℤ) → Enclosed table 64 (exponential_index offset d) (exponential_hit table offset d)
  unfolding exponential_index exponential_hit
  exponential_hit-enclosed table =
      let i = nat_abs (pos p -ℤ offset) in
      record {
        index_lt = index_lt;
        amid = interpolated-amid table i (d - 2 ^ p) (2 ^ p) (le_z (entry table i) (entry table (i + 1))) (pow_pos p) (omega (arith, hit-range offset valid d small hit)) refl;
      }

  exponential_hit-agree : (a b : List ℤ) → ((i : ℕ) → i ≤ 64 → entry a i ≡ entry b i) → exponential_hit a offset d ≡ exponential_hit b offset d
  unfolding exponential_hit
  exponential_hit-agree a b agree =
      interpolated-agree a b 64 (nat_abs (pos p -ℤ offset)) (d - 2 ^ p) (2 ^ p) agree (pow_pos p) (omega (arith, index_lt)) (λ e. absurd (omega (arith, index_lt)))

-- ---- the two tables

pub y-enclosed : (s : YSettings) (table : List ℤ) (x : ℤ) → same_z s.end (s.start +ℤ pos (scaled 256 s.select)) ≡ true → side_y s x ≡ Hit
    → Enclosed table 256 (index_y s x) (answer_y s table x)
unfolding side_y index_y answer_y
y-enclosed s table x e side = linear-enclosed s 256 e x table (lit< tt) side

pub y-agree : (s : YSettings) (a b : List ℤ) (x : ℤ) → same_z s.end (s.start +ℤ pos (scaled 256 s.select)) ≡ true → ((i : ℕ) → i ≤ 256 → entry a i ≡ entry b i)
    → answer_y s a x ≡ answer_y s b x
unfolding answer_y
y-agree s a b x e agree = linear-agree s 256 e x a b agree

module _ (s : XSettings) (valid : x_valid s ≡ true) (x : ℤ) (fs : SFits w32 s.start) (fx : SFits w32 x) where
  module _ (table : List ℤ) where
    abbrev Held : Type 0
    Held = side_x s x ≡ Hit → Enclosed table 64 (index_x s x) (answer_x s table x)

    exponential-by : (z : ℤ) → s.mode ≡ Exponential z → (t : Bool) → reaches z (x -ℤ s.start) ≡ t → Held
    unfolding side_x hit_x answer_x index_x exponential_side
    exponential-by z m true e =
        let d = hit-far fx fs z e in
        rw (m, e, d.1) (λ side. exponential_hit-enclosed z (x_valid-offset s valid z m) d.0 d.2 d.3 table)
    exponential-by z m false e = rw (m, e) (λ side. absurd (below-hit side))

    enclosed-by : (mode : XMode) → s.mode ≡ mode → Held
    unfolding side_x hit_x answer_x index_x
    enclosed-by (Linear z) m = rw m (linear-enclosed (linear_x s z) 64 (x_valid-linear s valid z m) x table (lit< tt))
    enclosed-by (Exponential z) m = exponential-by z m (reaches z (x -ℤ s.start)) refl

    pub x-enclosed : Held
    x-enclosed = enclosed-by s.mode refl

  module _ (a b : List ℤ) (agree : (i : ℕ) → i ≤ 64 → entry a i ≡ entry b i) where
    exponential-agree : (z : ℤ) → s.mode ≡ Exponential z → (t : Bool) → reaches z (x -ℤ s.start) ≡ t → answer_x s a x ≡ answer_x s b x
    unfolding side_x hit_x answer_x exponential_side
    exponential-agree z m true e =
        let d = hit-far fx fs z e in
        rw (m, e, d.1) (exponential_hit-agree z (x_valid-offset s valid z m) d.0 d.2 d.3 a b agree)
    exponential-agree z m false e = rw (m, e) (ap (λ (v : ℤ). sloped v (x -ℤ s.start) s.below) (agree 0 (omega arith)))

    mode-agree : (mode : XMode) → s.mode ≡ mode → answer_x s a x ≡ answer_x s b x
    unfolding side_x hit_x answer_x
    mode-agree (Linear z) m = rw m (linear-agree (linear_x s z) 64 (x_valid-linear s valid z m) x a b agree)
    mode-agree (Exponential z) m = exponential-agree z m (reaches z (x -ℤ s.start)) refl

    pub x-agree : answer_x s a x ≡ answer_x s b x
    x-agree = mode-agree s.mode refl
