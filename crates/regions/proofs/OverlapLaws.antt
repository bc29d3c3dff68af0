-- A rectangle overlaps the placed ones exactly if some (w, h) position is in both. By the slots, and by the numbers of a span. Assumes nothing.
--     InRectangle, has_in, in-has               a position in a rectangle, as facts and as a test
--     any_some, some-any                        some number of a span passes a test
--     overlaps-shared, shared-overlaps          overlapping, and in the paper's words
--     overlaps-apart                            where a rectangle overlaps none, no position is in it and in a placed one
use Prim.Native.Nat.{ℕ, zero, suc, ◌+◌, ◌≤◌, ◌<◌}
use native.Mathlib.Nat.{eq-or-lt_of_le}
use native.Mathlib.Omega.{arith}
use mathlib.Core.Path.{◌≡◌, refl, ap, ◌∙◌}
use mathlib.Core.Logic.{◌⊎◌, inl, inr, ⊎_elim}
use mathlib.Core.Bool.{Bool, true, false, ◌||◌, or-true}
use mathlib.Core.List.{List, [], ◌∷◌}
use lib.Dec.{leb}
use borrow.Author.Tests.{le-leb, leb-true, lt-ltb, ltb-true}
use Rattle.general.proofs.TestLaws.{and_left, and_right, and_both}
use Rattle.layout.specs.Boxes.{span_has}
use Rattle.regions.specs.declared.Rectangle.{Rectangle}
use Rattle.regions.specs.Slots.{Slot, empty, filled, rectangle_has, occupied, any_from, overlaps}
use Rattle.regions.specs.Rules.{slot_at}
use Rattle.regions.specs.Overlaps.{Shared}

or_cases : (a b : Bool) → (a || b) ≡ true → (a ≡ true) ⊎ (b ≡ true)
or_cases true b e = inl refl
or_cases false b e = inr e

-- ---- positions of a rectangle

-- position (w, h) is in the rectangle
pub record InRectangle (g : Rectangle) (w h : ℕ) : Type 0 where
  pub column_ge : g.column ≤ w
  pub column_lt : w < g.column + g.columns
  pub row_ge : g.row ≤ h
  pub row_lt : h < g.row + g.rows

module _ (g : Rectangle) (w h : ℕ) where
  pub has_in : rectangle_has g w h ≡ true → InRectangle g w h
  unfolding rectangle_has span_has
  has_in e =
      let column : span_has g.column g.columns w ≡ true = and_left _ _ e in
      let row : span_has g.row g.rows h ≡ true = and_right (span_has g.column g.columns w) _ e in
      record {
        column_ge = leb-true g.column w (and_left _ _ column);
        column_lt = ltb-true w (g.column + g.columns) (and_right (leb g.column w) _ column);
        row_ge = leb-true g.row h (and_left _ _ row);
        row_lt = ltb-true h (g.row + g.rows) (and_right (leb g.row h) _ row);
      }

  pub in-has : InRectangle g w h → rectangle_has g w h ≡ true
  unfolding rectangle_has span_has
  in-has i =
      and_both
      (and_both (le-leb g.column w i.column_ge) (lt-ltb w (g.column + g.columns) i.column_lt))
      (and_both (le-leb g.row h i.row_ge) (lt-ltb h (g.row + g.rows) i.row_lt))

-- ---- some number of a span passes a test

record Found (test : ℕ → Bool) (first count : ℕ) : Type 0 where
  at : ℕ
  ge : first ≤ at
  lt : at < first + count
  passes : test at ≡ true

module _ (test : ℕ → Bool) where
  any_some : (first count : ℕ) → any_from test first count ≡ true → Found test first count
  unfolding any_from
  any_some first zero e = absurd (let z : ◌≡◌ {A = ℕ} 0 1 = cc in omega arith)
  any_some first (suc count) e =
      ⊎_elim
      (λ t. record { at = first; ge = omega arith; lt = omega arith; passes = t })
      (λ t. let s = any_some (suc first) count t in record { at = s.at; ge = omega (arith, s.ge); lt = omega (arith, s.lt); passes = s.passes })
      (or_cases (test first) (any_from test (suc first) count) e)

  some-any : (first count at : ℕ) → first ≤ at → at < first + count → test at ≡ true → any_from test first count ≡ true
  unfolding any_from
  some-any first zero at p q t = absurd (omega arith)
  some-any first (suc count) at p q t =
      ⊎_elim
      (λ i. ap (λ (now : Bool). now || any_from test (suc first) count) (ap test i ∙ t))
      (λ i. ap (λ (later : Bool). test first || later) (some-any (suc first) count at i (omega arith) t) ∙ or-true (test first))
      (eq-or-lt_of_le p)

-- ---- a position in a placed rectangle

record Stands (slots : List Slot) (w h : ℕ) : Type 0 where
  number : ℕ
  id : ℕ
  other : Rectangle
  there : slot_at slots number ≡ filled id other
  within : rectangle_has other w h ≡ true

further : (s : Slot) (slots : List Slot) (w h : ℕ) → Stands slots w h → Stands (s ∷ slots) w h
unfolding slot_at
further s slots w h t = record { number = suc t.number; id = t.id; other = t.other; there = t.there; within = t.within }

occupied-stands : (slots : List Slot) (w h : ℕ) → occupied slots w h ≡ true → Stands slots w h
unfolding occupied slot_at
occupied-stands [] w h e = absurd (let z : ◌≡◌ {A = ℕ} 0 1 = cc in omega arith)
occupied-stands (empty ∷ slots) w h e = further empty slots w h (occupied-stands slots w h e)
occupied-stands (filled id f ∷ slots) w h e =
    ⊎_elim
    (λ t. record { number = 0; id = id; other = f; there = refl; within = t })
    (λ t. further (filled id f) slots w h (occupied-stands slots w h t))
    (or_cases (rectangle_has f w h) (occupied slots w h) e)

pub stands-occupied : (slots : List Slot) (n id : ℕ) (f : Rectangle) (w h : ℕ) → slot_at slots n ≡ filled id f → rectangle_has f w h ≡ true → occupied slots w h ≡ true
unfolding occupied slot_at
stands-occupied [] n id f w h e t = absurd (let z : ◌≡◌ {A = ℕ} 0 1 = cc in omega arith)
stands-occupied (empty ∷ slots) zero id f w h e t = absurd (let z : ◌≡◌ {A = ℕ} 0 1 = cc in omega arith)
stands-occupied (empty ∷ slots) (suc n) id f w h e t = stands-occupied slots n id f w h e t
stands-occupied (filled id' f' ∷ slots) zero id f w h e t =
    let same : f' ≡ f = cc in
    rw (ap (λ (r : Rectangle). rectangle_has r w h) same ∙ t)
stands-occupied (filled id' f' ∷ slots) (suc n) id f w h e t = rw (stands-occupied slots n id f w h e t) (or-true (rectangle_has f' w h))

-- ---- overlapping

module _ (slots : List Slot) (g : Rectangle) where
  -- some row of a column is occupied
  abbrev column-occupied : ℕ → Bool
  column-occupied w = any_from (λ (h : ℕ). occupied slots w h) g.row g.rows

  pub overlaps-shared : overlaps slots g ≡ true → Shared slots g
  unfolding overlaps
  overlaps-shared e =
      let a = any_some column-occupied g.column g.columns e in
      let b = any_some (λ (h : ℕ). occupied slots a.at h) g.row g.rows a.passes in
      let s = occupied-stands slots a.at b.at b.passes in
      record {
        w = a.at;
        h = b.at;
        mine = in-has g a.at b.at (record { column_ge = a.ge; column_lt = a.lt; row_ge = b.ge; row_lt = b.lt });
        number = s.number;
        id = s.id;
        other = s.other;
        there = s.there;
        theirs = s.within;
      }

  pub shared-overlaps : Shared slots g → overlaps slots g ≡ true
  unfolding overlaps
  shared-overlaps s =
      let i = has_in g s.w s.h s.mine in
      let t = stands-occupied slots s.number s.id s.other s.w s.h s.there s.theirs in
      some-any column-occupied g.column g.columns s.w i.column_ge i.column_lt
      (some-any (λ (h : ℕ). occupied slots s.w h) g.row g.rows s.h i.row_ge i.row_lt t)

  pub overlaps-apart : overlaps slots g ≡ false → (n id : ℕ) (f : Rectangle) (w h : ℕ) → slot_at slots n ≡ filled id f → InRectangle f w h → InRectangle g w h → ⊥
  overlaps-apart e n id f w h there theirs mine =
      let yes-it-does : overlaps slots g ≡ true = shared-overlaps (record { w = w; h = h; mine = in-has g w h mine; number = n; id = id; other = f; there = there; theirs = in-has f w h theirs }) in
      let z : ◌≡◌ {A = ℕ} 0 1 = cc in omega arith
