-- The rules and the orders of checks as the code goes through them, one test after another. Assumes nothing.
--     sizes-width, sizes-height, sizes-channels     the three sizes
--     strides-line .. strides-last           the strides
--     check-sizes .. check-valid             checks 1 to 4
--     span_none .. box-columns               boxes
--     Sizes, sizes                           what accepted sizes tell
use Prim.Native.Nat.{ℕ, ◌+◌, ◌-◌, ◌*◌, ◌%◌, ◌^◌, ◌≤◌, ◌<◌}
use native.Mathlib.Nat.{mul-le-mul}
use native.Mathlib.Omega.{arith}
use mathlib.Core.Path.{◌≡◌}
use mathlib.Core.Bool.{true, false}
use mathlib.Core.List.{[], ◌∷◌}
use lib.Dec.{leb}
use borrow.Author.Tests.{lt-ltb, le-ltb, le-leb, lt-leb, eq-eqb, ne_eqb}
use Rattle.general.proofs.TestLaws.{and-all}
use Rattle.refusal.specs.declared.Refusal.TheVariants.{Size, Precision, CubeStrides, CubeStart}
use Rattle.refusal.specs.Checks.{in_order, require_at, Accepted, Refused}
use Rattle.refusal.specs.Sizes.{size_valid}
use Rattle.refusal.proofs.SizeLaws.{size-pos, size-le}
use Rattle.layout.specs.declared.CubeLayout.{CubeLayout}
use Rattle.layout.specs.declared.ElementBox.{ElementBox}
use Rattle.layout.specs.Boxes.{span_inside, box_inside}
use Rattle.layout.specs.Rules.{sizes_valid, whole_atoms, strides_valid, layout_checks}

module _ (w h line surface : ℕ) where
  pub strides-line : (line % 32 ≡ 0 → ⊥) → false ≡ strides_valid w h line surface
  unfolding strides_valid whole_atoms
  strides-line f = rw (ne_eqb (line % 32) 0 f)

  module _ (lines : line % 32 ≡ 0) where
    pub strides-surface : (surface % 32 ≡ 0 → ⊥) → false ≡ strides_valid w h line surface
    unfolding strides_valid whole_atoms
    strides-surface f = rw (eq-eqb (line % 32) 0 lines, ne_eqb (surface % 32) 0 f)

    module _ (surfaces : surface % 32 ≡ 0) where
      pub strides-short : line < 32 * w → false ≡ strides_valid w h line surface
      unfolding strides_valid whole_atoms
      strides-short i = rw (eq-eqb (line % 32) 0 lines, eq-eqb (surface % 32) 0 surfaces, lt-leb (32 * w) line i)

      pub strides-last : 32 * w ≤ line → leb ((h - 1) * line + 32 * w) surface ≡ strides_valid w h line surface
      unfolding strides_valid whole_atoms
      strides-last i = rw (eq-eqb (line % 32) 0 lines, eq-eqb (surface % 32) 0 surfaces, le-leb (32 * w) line i)

-- the lines of a surface, within 64 bits
pub lines_fit : (w h line : ℕ) → w ≤ 8192 → h ≤ 8192 → line < 2 ^ 32 → (h - 1) * line + 32 * w < 2 ^ 46
lines_fit w h line hw hh hl = omega (arith, mul-le-mul {n₁ = h - 1} {m₁ = line} {n₂ = 8192} {m₂ = 2 ^ 32} (omega arith) (omega arith))

module _ (q : CubeLayout) where
  pub sizes-width : size_valid 8192 q.width ≡ false → false ≡ sizes_valid q
  unfolding sizes_valid
  sizes-width e = rw e

  pub sizes-height : size_valid 8192 q.width ≡ true → size_valid 8192 q.height ≡ false → false ≡ sizes_valid q
  unfolding sizes_valid
  sizes-height w e = rw (w, e)

  pub sizes-channels : size_valid 8192 q.width ≡ true → size_valid 8192 q.height ≡ true → size_valid 8192 q.channels ≡ sizes_valid q
  unfolding sizes_valid
  sizes-channels w h = rw (w, h)

  -- what accepted sizes tell
  pub record Sizes : Type 0 where
    pub width_le : q.width ≤ 8192
    pub height_pos : 0 < q.height
    pub height_le : q.height ≤ 8192

  pub sizes : sizes_valid q ≡ true → Sizes
  unfolding sizes_valid
  sizes e =
      let all = and-all (size_valid 8192 q.width) (size_valid 8192 q.height ∷ size_valid 8192 q.channels ∷ []) e in
      record { width_le = size-le 8192 q.width all.0; height_pos = size-pos 8192 q.height all.1.0; height_le = size-le 8192 q.height all.1.0 }

  pub check-sizes : sizes_valid q ≡ false → Refused Size 0 ≡ in_order (layout_checks q)
  unfolding layout_checks in_order require_at
  check-sizes e = rw e

  module _ (sz : sizes_valid q ≡ true) where
    pub check-precision : 3 ≤ q.precision → Refused Precision 0 ≡ in_order (layout_checks q)
    unfolding layout_checks in_order require_at
    check-precision h = rw (sz, le-ltb q.precision 3 h)

    module _ (pr : q.precision < 3) where
      pub check-strides : strides_valid q.width q.height q.line q.surface ≡ false → Refused CubeStrides 0 ≡ in_order (layout_checks q)
      unfolding layout_checks in_order require_at
      check-strides e = rw (sz, lt-ltb q.precision 3 pr, e)

      module _ (st : strides_valid q.width q.height q.line q.surface ≡ true) where
        pub check-start : (q.start % 32 ≡ 0 → ⊥) → Refused CubeStart 0 ≡ in_order (layout_checks q)
        unfolding layout_checks in_order require_at whole_atoms
        check-start f = rw (sz, lt-ltb q.precision 3 pr, st, ne_eqb (q.start % 32) 0 f)

        pub check-valid : q.start % 32 ≡ 0 → Accepted ≡ in_order (layout_checks q)
        unfolding layout_checks in_order require_at whole_atoms
        check-valid e = rw (sz, lt-ltb q.precision 3 pr, st, eq-eqb (q.start % 32) 0 e)

-- ---- boxes
pub span_none : (first count size : ℕ) → count < 1 → false ≡ span_inside first count size
unfolding span_inside
span_none first count size h = rw (lt-leb 1 count h)

pub span-some : (first count size : ℕ) → 1 ≤ count → leb (first + count) size ≡ span_inside first count size
unfolding span_inside
span-some first count size h = rw (le-leb 1 count h)

module _ (q : CubeLayout) (b : ElementBox) where
  pub box-channels : span_inside b.channel b.channels q.channels ≡ false → false ≡ box_inside q b
  unfolding box_inside
  box-channels e = rw e

  pub box-rows : span_inside b.channel b.channels q.channels ≡ true → span_inside b.row b.rows q.height ≡ false → false ≡ box_inside q b
  unfolding box_inside
  box-rows c e = rw (c, e)

  pub box-columns : span_inside b.channel b.channels q.channels ≡ true → span_inside b.row b.rows q.height ≡ true
      → span_inside b.column b.columns q.width ≡ box_inside q b
  unfolding box_inside
  box-columns c r = rw (c, r)
