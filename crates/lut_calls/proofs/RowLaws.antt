-- What a row answers, and that its numbers stay within their types: by whether its steps count. Assumes nothing.
--     off-inside, off-answer        no step counts: a slope
--     on-inside, on-answer          whole steps count: a hit
use Prim.Native.Nat.{ℕ, ◌+◌, ◌*◌, ◌/◌, ◌%◌, ◌^◌, ◌≤◌, ◌<◌}
use native.Mathlib.Nat.{zero-div, add-zero, div-add-mod', mod-le}
use native.Mathlib.Omega.{arith}
use mathlib.Core.Path.{◌≡◌, refl, ap, ◌∙◌}
use mathlib.Core.List.{List}
use lib.IntN.{ℤ, pos, nat_abs, ◌-ℤ◌, ◌*ℤ◌, *ℤ-zero}
use Rattle.general.proofs.UpDown.{ud-inj, take-ud}
use Rattle.general.proofs.NumberLaws.{times-one}
use Rattle.lut.specs.Tables.{entry}
use Rattle.lut_calls.specs.declared.Row.{Row}
use Rattle.lut_calls.specs.StepsRows.{on_line, row_far, row_steps, row_point, row_rest, row_answer, Inside}

module _ (r : Row) (p : ℕ) (x : ℤ) where
  abbrev m : ℕ
  m = 2 ^ (r.shift + p)

  -- a row's numbers, by the whole steps and the rest
  module _ (n : ℕ) (f : ℤ) (steps : row_steps r p x ≡ n) (rest : row_rest r p x ≡ f) where
    point-is : row_point r p x ≡ r.base + p + n
    unfolding row_point
    point-is = rw steps

    inside-by : (d : ℕ) → nat_abs (row_far r x) ≤ 4294967295 → row_far r x *ℤ r.on ≡ pos d → d ≤ 4294967295 → r.shift + p ≤ 31 → r.base + p + n < 324
        → nat_abs f ≤ 4294967295 → Inside r p x
    inside-by d far on on_le shift point left =
        record {
          far_le = far;
          on_is = rw on refl;
          on_le = rw on on_le;
          shift_le = shift;
          point_lt = rw point-is point;
          rest_le = rw rest left;
        }

    answer-by : (firsts rises : List ℤ) → row_answer r firsts rises p x ≡ on_line (entry firsts (r.base + p + n)) (entry rises (r.base + p + n)) f m
    unfolding row_answer
    answer-by firsts rises = rw (point-is, rest)

  -- no step counts
  module _ (off : r.on ≡ pos 0) where
    off-on : row_far r x *ℤ r.on ≡ pos 0
    off-on = ap (λ (v : ℤ). row_far r x *ℤ v) off ∙ *ℤ-zero (row_far r x)

    off-steps : row_steps r p x ≡ 0
    unfolding row_steps
    off-steps = ap (λ (z : ℤ). nat_abs z / m) off-on ∙ zero-div m

    off_rest : row_rest r p x ≡ row_far r x
    unfolding row_rest
    off_rest = rw off-steps (ud-inj (row_far r x -ℤ pos (0 * m)) (row_far r x) (omega (arith, take-ud (row_far r x) (pos (0 * m)))))

    pub off-inside : nat_abs (row_far r x) ≤ 4294967295 → r.shift + p ≤ 31 → r.base + p < 324 → Inside r p x
    off-inside far shift point = inside-by 0 (row_far r x) off-steps off_rest 0 far off-on (omega arith) shift (omega arith) far

    pub off-answer : (firsts rises : List ℤ) → row_answer r firsts rises p x ≡ on_line (entry firsts (r.base + p)) (entry rises (r.base + p)) (row_far r x) m
    off-answer firsts rises =
        answer-by 0 (row_far r x) off-steps off_rest firsts rises
        ∙ ap (λ (n : ℕ). on_line (entry firsts n) (entry rises n) (row_far r x) m) (add-zero (r.base + p))

  -- whole steps count
  module _ (d : ℕ) (on : r.on ≡ pos 1) (far : row_far r x ≡ pos d) where
    on-on : row_far r x *ℤ r.on ≡ pos d
    on-on = ap (λ (v : ℤ). row_far r x *ℤ v) on ∙ times-one (row_far r x) ∙ far

    on-steps : row_steps r p x ≡ d / m
    unfolding row_steps
    on-steps = ap (λ (z : ℤ). nat_abs z / m) on-on

    on-rest : row_rest r p x ≡ pos (d % m)
    unfolding row_rest
    on-rest = rw (on-steps, far) (ud-inj (pos d -ℤ pos (d / m * m)) (pos (d % m)) (omega (arith, take-ud (pos d) (pos (d / m * m)), div-add-mod' d m)))

    pub on-inside : d ≤ 4294967295 → r.shift + p ≤ 31 → r.base + p + d / m < 324 → Inside r p x
    on-inside h shift point = inside-by (d / m) (pos (d % m)) on-steps on-rest d (rw far h) on-on h shift point (omega (arith, mod-le d m))

    pub on-answer : (firsts rises : List ℤ)
        → row_answer r firsts rises p x ≡ on_line (entry firsts (r.base + p + d / m)) (entry rises (r.base + p + d / m)) (pos (d % m)) m
    on-answer = answer-by (d / m) (pos (d % m)) on-steps on-rest
