-- What accepted checks of a placing, a slot and a box in a region tell. By taking the lists of checks apart. Assumes nothing.
--     rectangle-columns, rectangle-rows    the spans of a rectangle in the cube
--     Placing, place-accepted              what an accepted placing tells
--     ValidSlot, slot-accepted             what accepted checks 1 to 4, 8, 25 tell
--     ValidBounds, bounds-accepted         what accepted check 9 of a box in a rectangle tells
--     ValidBox, box-accepted               what accepted checks 1 to 4, 8, 25, 9 tell
use Prim.Native.Nat.{ℕ, ◌+◌, ◌<◌}
use native.Mathlib.Omega.{arith}
use mathlib.Core.Path.{◌≡◌, refl, sym, ap, ◌∙◌}
use mathlib.Core.Bool.{true, false}
use mathlib.Core.List.{[], ◌∷◌}
use lib.Dec.{ltb}
use borrow.Author.Tests.{ltb-true, eqb-true, not-true}
use Rattle.general.proofs.TestLaws.{and_left, and_right, and-all}
use Rattle.refusal.specs.Checks.{in_order, Accepted}
use Rattle.refusal.proofs.CheckLaws.{Held, in_order-front, in_order-back, in_order-all, require_at-held}
use Rattle.layout.specs.declared.CubeLayout.{CubeLayout}
use Rattle.layout.specs.declared.ElementBox.{ElementBox}
use Rattle.layout.specs.Boxes.{span_inside}
use Rattle.layout.specs.Rules.{layout_checks}
use Rattle.layout.proofs.Valid.{Valid, valid}
use Rattle.layout.proofs.BoxLaws.{Span, span-inside, BoxValid}
use Rattle.regions.specs.declared.Rectangle.{Rectangle}
use Rattle.regions.specs.Slots.{Slot, empty, filled, rectangle_inside, overlaps}
use Rattle.regions.specs.Rules.{Access, is_filled, rectangle_of, id_of, id_valid, slot_named, rectangle_named, box_in_rectangle, cube_box, place_checks, slot_checks, bounds_checks, region_box_checks}

-- ---- rectangles and boxes
module _ (q : CubeLayout) (g : Rectangle) where
  pub rectangle-columns : rectangle_inside q g ≡ true → Span g.column g.columns q.width
  unfolding rectangle_inside
  rectangle-columns e = span-inside g.column g.columns q.width (and_left _ _ e)

  pub rectangle-rows : rectangle_inside q g ≡ true → Span g.row g.rows q.height
  unfolding rectangle_inside
  rectangle-rows e = span-inside g.row g.rows q.height (and_right (span_inside g.column g.columns q.width) _ e)

-- a span of a span
inner : (a n s b m : ℕ) → Span a n s → Span b m n → Span (a + b) m s
inner a n s b m o i = record { some = i.some; fit = omega (arith, o.fit, i.fit) }

filled-slot : (s : Slot) → is_filled s ≡ true → s ≡ filled (id_of s) (rectangle_of s)
unfolding is_filled rectangle_of id_of
filled-slot empty e = absurd (let z : ◌≡◌ {A = ℕ} 0 1 = cc in omega arith)
filled-slot (filled id g) e = refl

-- ---- place: 1 to 4, 25, 8, 9, 10

-- the layout is valid, the id an owner's, the slot is one of the sixteen and empty, the rectangle is in the cube and overlaps none
pub record Placing (a : Access) (g : Rectangle) : Type 0 where
  pub layout : Valid a.layout
  pub number : a.number < 16
  pub vacant : is_filled (slot_named a) ≡ false
  pub inside : rectangle_inside a.layout g ≡ true
  pub apart : overlaps a.slots g ≡ false

pub place-accepted : (a : Access) (g : Rectangle) → in_order (place_checks a g) ≡ Accepted → Placing a g
unfolding place_checks Held
place-accepted a g e =
    let held = in_order-all _ (in_order-back (layout_checks a.layout) _ e) in
    let free = require_at-held _ _ _ held.1.0 in
    record {
      layout = valid a.layout (in_order-front (layout_checks a.layout) _ e);
      number = ltb-true a.number 16 (and_left _ _ free);
      vacant = not-true _ (and_right (ltb a.number 16) _ free);
      inside = require_at-held _ _ _ held.1.1.0;
      apart = not-true _ (require_at-held _ _ _ held.1.1.1.0);
    }

-- ---- a slot: 1 to 4, 8, 25

-- the layout is valid, the slot is one of the sixteen and filled with a region of the owner whose id is given
pub record ValidSlot (a : Access) : Type 0 where
  pub checked : in_order (layout_checks a.layout) ≡ Accepted
  pub layout : Valid a.layout
  pub number : a.number < 16
  pub placed : slot_named a ≡ filled a.id (rectangle_named a)

pub slot-accepted : (a : Access) → in_order (slot_checks a) ≡ Accepted → ValidSlot a
unfolding slot_checks Held
slot-accepted a e =
    let held = in_order-all _ (in_order-back (layout_checks a.layout) _ e) in
    let there = require_at-held _ _ _ held.0 in
    let same : a.id ≡ id_of (slot_named a) = eqb-true _ _ (and_right (id_valid a.id) _ (require_at-held _ _ _ held.1.0)) in
    record {
      checked = in_order-front (layout_checks a.layout) _ e;
      layout = valid a.layout (in_order-front (layout_checks a.layout) _ e);
      number = ltb-true a.number 16 (and_left _ _ there);
      placed = filled-slot (slot_named a) (and_right (ltb a.number 16) _ there) ∙ ap (λ (id : ℕ). filled id (rectangle_named a)) (sym same);
    }

-- ---- a box in a rectangle: 9

-- the rectangle is in the cube, the box is in the rectangle, and so in the cube
pub record ValidBounds (q : CubeLayout) (g : Rectangle) (b : ElementBox) : Type 0 where
  pub inside : rectangle_inside q g ≡ true
  pub rows : Span b.row b.rows g.rows
  pub columns : Span b.column b.columns g.columns
  pub box : BoxValid q (cube_box g b)

module _ (q : CubeLayout) (g : Rectangle) (b : ElementBox) where
  pub bounds-valid : rectangle_inside q g ≡ true → box_in_rectangle q g b ≡ true → ValidBounds q g b
  unfolding box_in_rectangle
  bounds-valid inside within =
      let held = and-all (span_inside b.channel b.channels q.channels) (span_inside b.row b.rows g.rows ∷ span_inside b.column b.columns g.columns ∷ []) within in
      let rows = span-inside b.row b.rows g.rows held.1.0 in
      let columns = span-inside b.column b.columns g.columns held.1.1 in
      record {
        inside = inside;
        rows = rows;
        columns = columns;
        box =
            record {
              channels = span-inside b.channel b.channels q.channels held.0;
              rows = inner g.row g.rows q.height b.row b.rows (rectangle-rows q g inside) rows;
              columns = inner g.column g.columns q.width b.column b.columns (rectangle-columns q g inside) columns;
            };
      }

  pub bounds-accepted : in_order (bounds_checks q g b) ≡ Accepted → ValidBounds q g b
  unfolding Held
  bounds-accepted e = let held = in_order-all _ e in bounds-valid (require_at-held _ _ _ held.0) (require_at-held _ _ _ held.1.0)

-- ---- a box in a region: 9 after 1 to 4, 8, 25
pub record ValidBox (a : Access) (b : ElementBox) : Type 0 where
  pub slot : ValidSlot a
  pub bounds : ValidBounds a.layout (rectangle_named a) b

pub box-accepted : (a : Access) (b : ElementBox) → in_order (region_box_checks a b) ≡ Accepted → ValidBox a b
unfolding region_box_checks
box-accepted a b e =
    record { slot = slot-accepted a (in_order-front (slot_checks a) _ e); bounds = bounds-accepted a.layout (rectangle_named a) b (in_order-back (slot_checks a) _ e) }
