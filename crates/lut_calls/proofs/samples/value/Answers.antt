-- `lut_calls::samples::value` meets its contract: each part is the definition's, and the row's numbers stay within their types. Assumes nothing.
use Prim.Native.Nat.{ℕ, ◌+◌, ◌*◌, ◌/◌, ◌%◌, ◌^◌, ◌≤◌, ◌<◌}
use native.Mathlib.Omega.{arith}
use mathlib.Core.Path.{◌≡◌, ap, ap₂, ◌∙◌}
use mathlib.Core.List.{List}
use lib.IntN.{ℤ, pos, nat_abs, ◌-ℤ◌, ◌*ℤ◌}
use lib.ListN.{get_or}
use lib.Signed.{mag}
use mir.Syntax.{w16, w32, w64}
use mir.Val.{SFits, to_z, of_z}
use mir.Facts.{to_z-of_z}
use Rattle.general.proofs.NumberLaws.{held, back16, back32, back64}
use Rattle.lut.specs.Tables.{entry}
use Rattle.lut.proofs.HeldLaws.{on_fits, on-cast, steps-is, whole-fits, left-fits, left-value}
use Rattle.lut_calls.specs.declared.Row.{Row}
use Rattle.lut_calls.specs.StepsRows.{on_line, row_far, row_steps, row_point, row_rest, row_answer, Inside}
use Rattle.lut_calls.proofs.samples.value.Goals as goal

-- what is known of a row's numbers at a sample whose distance is d
record Known (r : Row) (p : ℕ) (x d : ℤ) : Type 0 where
  far-held : held d ≡ row_far r x
  on-fit : SFits w64 r.on
  inside : Inside r p x

-- the distance, by what it was computed from
known : (r : Row) (p : ℕ) (x d : ℤ) → SFits w32 x → mag r.origin < 2147483648 → mag r.size < 9223372036854775808 → mag r.on < 9223372036854775808
    → mag d < 9223372036854775808 → d ≡ (to_z w32 (of_z w32 x) -ℤ to_z w32 (of_z w32 r.origin)) *ℤ to_z w64 (of_z w64 r.size) → Inside r p x → Known r p x d
unfolding row_far
known r p x d f origin size on range e h =
    let g : d ≡ (x -ℤ r.origin) *ℤ r.size = simp (to_z-of_z f, back32 r.origin origin, back64 r.size size) at e in
    record { far-held = back64 d range ∙ g; on-fit = record { sfits = on }; inside = h }

module _ (r : Row) (p : ℕ) (x d : ℤ) (k : Known r p x d) where
  abbrev m : ℕ
  m = 2 ^ (r.shift + p)

  abbrev at : ℕ
  at = r.base + p + nat_abs (held (held d *ℤ held r.on)) / m

  at-is : at ≡ row_point r p x
  unfolding row_point row_steps
  at-is = ap (λ (n : ℕ). r.base + p + n) (steps-is d k.far-held k.on-fit k.inside.on_is k.inside.on_le m)

  at_lt : at < 324
  at_lt = rw at-is k.inside.point_lt

  rest_le : nat_abs (row_far r x -ℤ pos (nat_abs (row_far r x *ℤ r.on) / m * m)) ≤ 4294967295
  unfolding row_rest row_steps
  rest_le = k.inside.rest_le

  rest-is : held (held d -ℤ to_z w64 (nat_abs (held (held d *ℤ held r.on)) / m * m % 18446744073709551616)) ≡ row_rest r p x
  unfolding row_rest row_steps
  rest-is = left-value d k.far-held k.on-fit k.inside.on_is k.inside.on_le m rest_le

  left-le : nat_abs (held (held d -ℤ to_z w64 (nat_abs (held (held d *ℤ held r.on)) / m * m % 18446744073709551616))) ≤ 4294967295
  left-le = rw rest-is k.inside.rest_le

  -- on the line of the point, at what is left
  answer : (firsts rises : List ℤ) (v : ℤ) → mag (get_or firsts at (pos 0)) < 32768 → mag (get_or rises at (pos 0)) < 2147483648 → mag v < 2147483648
      → v ≡ on_line (to_z w16 (of_z w16 (get_or firsts at (pos 0)))) (to_z w32 (of_z w32 (get_or rises at (pos 0))))
      (held (held d -ℤ to_z w64 (nat_abs (held (held d *ℤ held r.on)) / m * m % 18446744073709551616))) m
      → to_z w32 (of_z w32 v) ≡ row_answer r firsts rises p x
  unfolding row_answer entry
  answer firsts rises v f g range e =
      back32 v range ∙ e
      ∙ ap (λ (z : ℤ). on_line (to_z w16 (of_z w16 (get_or firsts at (pos 0)))) (to_z w32 (of_z w32 (get_or rises at (pos 0)))) z m) rest-is
      ∙ ap₂ (λ (u v : ℤ). on_line u v (row_rest r p x) m)
      (back16 (get_or firsts at (pos 0)) f ∙ ap (λ (n : ℕ). get_or firsts n (pos 0)) at-is)
      (back32 (get_or rises at (pos 0)) g ∙ ap (λ (n : ℕ). get_or rises n (pos 0)) at-is)

-- ---- the distance

pub far-d-requires : goal.far-d-requires
unfolding row_far
far-d-requires c =
    let s = c in
    let t = c.struct_told-1.given in
    rw (to_z-of_z s.ranges.x, back32 s.args.r.origin t.0.1, back64 s.args.r.size t.1.0.1) s.requires.far_le

pub overflow_mul-steps : goal.overflow_mul-steps
overflow_mul-steps c =
    let a = c.args in
    let t = c.struct_told-1.given in
    let k = known a.r a.p a.x c.far-d.result c.ranges.x t.0.1 t.1.0.1 t.1.1.1.0.1 c.far-d.type_inv c.far-d.ensures c.requires in
    on_fits c.far-d.result k.far-held k.on-fit k.inside.on_is k.inside.on_le

pub overflow_cast-steps : goal.overflow_cast-steps
overflow_cast-steps c =
    let a = c.args in
    let t = c.struct_told-1.given in
    let k = known a.r a.p a.x c.far-d.result c.ranges.x t.0.1 t.1.0.1 t.1.1.1.0.1 c.far-d.type_inv c.far-d.ensures c.requires in
    on-cast c.far-d.result k.far-held k.on-fit k.inside.on_is k.inside.on_le

-- ---- the point

pub overflow_add-at : goal.overflow_add-at
overflow_add-at c =
    let a = c.args in
    let t = c.struct_told-1.given in
    let k = known a.r a.p a.x c.far-d.result c.ranges.x t.0.1 t.1.0.1 t.1.1.1.0.1 c.far-d.type_inv c.far-d.ensures c.requires in
    record { fits = omega (arith, at_lt a.r a.p a.x c.far-d.result k) }

pub overflow_add-at-2 : goal.overflow_add-at-2
overflow_add-at-2 c =
    let a = c.args in
    let t = c.struct_told-1.given in
    let k = known a.r a.p a.x c.far-d.result c.ranges.x t.0.1 t.1.0.1 t.1.1.1.0.1 c.far-d.type_inv c.far-d.ensures c.requires in
    record { fits = omega (arith, at_lt a.r a.p a.x c.far-d.result k) }

pub offset_bounds-firsts-at : goal.offset_bounds-firsts-at
offset_bounds-firsts-at c =
    let a = c.args in
    let t = c.struct_told-1.given in
    let k = known a.r a.p a.x c.far-d.result c.ranges.x t.0.1 t.1.0.1 t.1.1.1.0.1 c.far-d.type_inv c.far-d.ensures c.requires in
    record { fits = omega (arith, at_lt a.r a.p a.x c.far-d.result k) }

pub bounds-firsts-at : goal.bounds-firsts-at
bounds-firsts-at c =
    let a = c.args in
    let t = c.struct_told-1.given in
    let k = known a.r a.p a.x c.far-d.result c.ranges.x t.0.1 t.1.0.1 t.1.1.1.0.1 c.far-d.type_inv c.far-d.ensures c.requires in
    at_lt a.r a.p a.x c.far-d.result k

pub offset_bounds-rises-at : goal.offset_bounds-rises-at
offset_bounds-rises-at c =
    let a = c.args in
    let t = c.struct_told-1.given in
    let k = known a.r a.p a.x c.far-d.result c.ranges.x t.0.1 t.1.0.1 t.1.1.1.0.1 c.far-d.type_inv c.far-d.ensures c.requires in
    record { fits = omega (arith, at_lt a.r a.p a.x c.far-d.result k) }

pub bounds-rises-at : goal.bounds-rises-at
bounds-rises-at c =
    let a = c.args in
    let t = c.struct_told-1.given in
    let k = known a.r a.p a.x c.far-d.result c.ranges.x t.0.1 t.1.0.1 t.1.1.1.0.1 c.far-d.type_inv c.far-d.ensures c.requires in
    at_lt a.r a.p a.x c.far-d.result k

-- ---- what is left, and the line

pub overflow_cast-steps-3 : goal.overflow_cast-steps-3
overflow_cast-steps-3 c =
    let a = c.args in
    let t = c.struct_told-1.given in
    let k = known a.r a.p a.x c.far-d.result c.ranges.x t.0.1 t.1.0.1 t.1.1.1.0.1 c.far-d.type_inv c.far-d.ensures c.requires in
    whole-fits c.far-d.result k.far-held k.on-fit k.inside.on_is k.inside.on_le (2 ^ (a.r.shift + a.p))

pub overflow_sub-d : goal.overflow_sub-d
overflow_sub-d c =
    let a = c.args in
    let t = c.struct_told-1.given in
    let k = known a.r a.p a.x c.far-d.result c.ranges.x t.0.1 t.1.0.1 t.1.1.1.0.1 c.far-d.type_inv c.far-d.ensures c.requires in
    left-fits c.far-d.result k.far-held k.on-fit k.inside.on_is k.inside.on_le (2 ^ (a.r.shift + a.p)) (rest_le a.r a.p a.x c.far-d.result k)

pub on_line-requires : goal.on_line-requires
on_line-requires c =
    let a = c.args in
    let t = c.struct_told-1.given in
    let k = known a.r a.p a.x c.far-d.result c.ranges.x t.0.1 t.1.0.1 t.1.1.1.0.1 c.far-d.type_inv c.far-d.ensures c.requires in
    (c.requires.shift_le, left-le a.r a.p a.x c.far-d.result k)

pub returns : goal.returns
returns c =
    let a = c.args in
    let t = c.struct_told-1.given in
    let k = known a.r a.p a.x c.far-d.result c.ranges.x t.0.1 t.1.0.1 t.1.1.1.0.1 c.far-d.type_inv c.far-d.ensures c.requires in
    answer a.r a.p a.x c.far-d.result k a.firsts.now a.rises.now c.on_line.result c.first-1.given c.rise-1.given c.on_line.type_inv c.on_line.ensures
