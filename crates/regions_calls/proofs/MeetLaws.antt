-- The code's overlap test comes to `overlaps`: two spans that meet have the larger of their first numbers in common. Assumes nothing.
--     meet-common, common-meet     spans that meet, and a number in both
--     one-meets, none-meets        some slot passes the code's test, or none does
--     any_overlaps                 the test of every struct of a table
use Prim.Native.Nat.{ℕ, suc, ◌+◌, ◌≤◌, ◌<◌}
use native.Mathlib.Decide.{dec_le, dec_lt}
use native.Mathlib.Omega.{arith}
use mathlib.Core.Path.{◌≡◌, refl, sym, ap, ◌∙◌}
use mathlib.Core.Bool.{Bool, true, false, ◌&&◌}
use mathlib.Core.List.{List, [], ◌∷◌, map}
use lib.ListN.{length, length-map, get_or, get_or-eq_default}
use lib.Dec.{leb, ltb}
use borrow.Author.Tests.{le-leb, leb-true, lt-ltb, ltb-true}
use Rattle.general.proofs.TestLaws.{and_left, and_right, and_both}
use Rattle.std.specs.List.{list_any}
use Rattle.std.proofs.lemmas.List.Folds.{list_any_at}
use Rattle.regions.specs.declared.Rectangle.{Rectangle}
use Rattle.regions.specs.declared.Region.{Region}
use Rattle.regions.specs.Slots.{Slot, empty, filled, slot_of, overlaps}
use Rattle.regions.specs.Rules.{slot_at}
use Rattle.regions.specs.Overlaps.{Shared}
use Rattle.regions.proofs.OverlapLaws.{InRectangle, has_in, in-has, overlaps-shared, shared-overlaps}
use Rattle.regions.specs.Calls.{no_region}
use Rattle.regions_calls.proofs.StepLaws.{slot_at-region}
use Rattle.regions_calls.specs.Steps.{spans_meet, slot_meets}

-- a test that cannot hold fails
fails : (t : Bool) → (t ≡ true → ⊥) → t ≡ false
fails true f = absurd (f refl)
fails false f = refl

-- a number that two spans have in common
record Common (a n b m : ℕ) : Type 0 where
  at : ℕ
  first_ge : a ≤ at
  first_lt : at < a + n
  second_ge : b ≤ at
  second_lt : at < b + m

module _ (a n b m : ℕ) where
  meet-common : spans_meet a n b m ≡ true → Common a n b m
  unfolding spans_meet
  meet-common e =
      let both = leb 1 n && leb 1 m in
      let first = and_left (both && ltb b (a + n)) _ e in
      let some = and_left both _ first in
      let p1 = leb-true 1 n (and_left _ (leb 1 m) some) in
      let p2 = leb-true 1 m (and_right (leb 1 n) _ some) in
      let p3 = ltb-true b (a + n) (and_right both _ first) in
      let p4 = ltb-true a (b + m) (and_right (both && ltb b (a + n)) _ e) in
      elim (dec_le a b) [
        | yes h ↦ record { at = b; first_ge = h; first_lt = p3; second_ge = omega arith; second_lt = omega arith }
        | no f ↦ record { at = a; first_ge = omega arith; first_lt = omega arith; second_ge = omega arith; second_lt = p4 }
      ]

  common-meet : (x : ℕ) → a ≤ x → x < a + n → b ≤ x → x < b + m → spans_meet a n b m ≡ true
  unfolding spans_meet
  common-meet x p1 p2 p3 p4 =
      and_both (and_both (and_both (le-leb 1 n (omega arith)) (le-leb 1 m (omega arith))) (lt-ltb b (a + n) (omega arith))) (lt-ltb a (b + m) (omega arith))

module _ (id : ℕ) (f g : Rectangle) where
  meets-shared : (slots : List Slot) (n : ℕ) → slot_at slots n ≡ filled id f → slot_meets (filled id f) g ≡ true → Shared slots g
  unfolding slot_meets
  meets-shared slots n there e =
      let c = meet-common f.column f.columns g.column g.columns (and_left _ _ e) in
      let r = meet-common f.row f.rows g.row g.rows (and_right (spans_meet f.column f.columns g.column g.columns) _ e) in
      record {
        w = c.at;
        h = r.at;
        mine = in-has g c.at r.at (record { column_ge = c.second_ge; column_lt = c.second_lt; row_ge = r.second_ge; row_lt = r.second_lt });
        number = n;
        id = id;
        other = f;
        there = there;
        theirs = in-has f c.at r.at (record { column_ge = c.first_ge; column_lt = c.first_lt; row_ge = r.first_ge; row_lt = r.first_lt });
      }

  shared-meets : (w h : ℕ) → InRectangle f w h → InRectangle g w h → slot_meets (filled id f) g ≡ true
  unfolding slot_meets
  shared-meets w h i j =
      and_both
      (common-meet f.column f.columns g.column g.columns w i.column_ge i.column_lt j.column_ge j.column_lt)
      (common-meet f.row f.rows g.row g.rows h i.row_ge i.row_lt j.row_ge j.row_lt)

-- a filled slot is one of the list's
filled-lt : (slots : List Slot) (n id : ℕ) (f : Rectangle) → slot_at slots n ≡ filled id f → n < length slots
unfolding slot_at
filled-lt slots n id f e = elim (dec_lt n (length slots)) [
  | yes h ↦ h
  | no g ↦ let past : get_or slots n empty ≡ empty = get_or-eq_default slots empty (omega arith) in absurd (let z : ◌≡◌ {A = ℕ} 0 1 = cc in omega arith)
]

module _ (slots : List Slot) (g : Rectangle) where
  pub one-meets : (n : ℕ) → slot_meets (slot_at slots n) g ≡ true → overlaps slots g ≡ true
  unfolding slot_meets
  one-meets n e = go (slot_at slots n) refl e
    where
      go : (s : Slot) → slot_at slots n ≡ s → slot_meets s g ≡ true → overlaps slots g ≡ true
      go empty i t = absurd (let z : ◌≡◌ {A = ℕ} 0 1 = cc in omega arith)
      go (filled id f) i t = shared-overlaps slots g (meets-shared id f g slots n i t)

  pub none-meets : ((n : ℕ) → n < length slots → slot_meets (slot_at slots n) g ≡ false) → overlaps slots g ≡ false
  none-meets f = fails (overlaps slots g) (λ e. go (overlaps-shared slots g e))
    where
      go : Shared slots g → ⊥
      go s =
          let yes-it-does = shared-meets s.id s.other g s.w s.h (has_in s.other s.w s.h s.theirs) (has_in g s.w s.h s.mine) in
          let does_not = f s.number (filled-lt slots s.number s.id s.other s.there) in
          let l = ap (λ (s : Slot). slot_meets s g) s.there in
          let z : ◌≡◌ {A = ℕ} 0 1 = cc in omega arith

-- ---- the test of every struct of a table, one after another
module _ (g : Rectangle) where
  some-meets : (l : List Region) → list_any (λ r. slot_meets (slot_of r) g) l ≡ true → (n : ℕ) × (slot_meets (slot_at (map slot_of l) n) g ≡ true)
  unfolding slot_at
  some-meets [] e = absurd (let z : ◌≡◌ {A = ℕ} 0 1 = cc in omega arith)
  some-meets (r ∷ l) e = go (slot_meets (slot_of r) g) refl (λ rest. some-meets l rest)
    where
      go : (b : Bool) → slot_meets (slot_of r) g ≡ b
          → (list_any (λ r. slot_meets (slot_of r) g) l ≡ true → (n : ℕ) × (slot_meets (slot_at (map slot_of l) n) g ≡ true))
          → (n : ℕ) × (slot_meets (slot_at (map slot_of (r ∷ l)) n) g ≡ true)
      go true t rest = (0, t)
      go false t rest = let k = rest (rw t at e) in (suc k.0, k.1)

  pub any_overlaps : (l : List Region) → list_any (λ r. slot_meets (slot_of r) g) l ≡ overlaps (map slot_of l) g
  any_overlaps l = go (list_any (λ r. slot_meets (slot_of r) g) l) refl
    where
      go : (b : Bool) → list_any (λ r. slot_meets (slot_of r) g) l ≡ b → b ≡ overlaps (map slot_of l) g
      go true e = let k = some-meets l e in sym (one-meets (map slot_of l) g k.0 k.1)
      go false e = sym (none-meets (map slot_of l) g (λ n h. fails _ (λ t.
          let meets : slot_meets (slot_of (get_or l n no_region)) g ≡ true = ap (λ (s : Slot). slot_meets s g) (slot_at-region l n) ∙ t in
          let long : n < length l = omega (arith, h, length-map l slot_of) in
          let some = list_any_at (λ r. slot_meets (slot_of r) g) l n no_region long meets in
          absurd (let z : ◌≡◌ {A = ℕ} 0 1 = cc in omega arith))))
