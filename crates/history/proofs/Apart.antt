-- At every moment of a list the placed regions are inside the cube and share no position, so they share no byte. By induction on the list: a placing
-- fills a slot with a rectangle that overlaps none, a release empties one. Assumes nothing.
--     Apart, apart-empty, apart-run     the placed regions of a table, at every moment
--     layout-at, apart-at               the layout and the regions at a moment
--     no-shared-byte                    two placed regions share no byte
use Prim.Native.Nat.{ℕ, ◌+◌, ◌≤◌, ◌<◌}
use native.Mathlib.Omega.{arith}
use native.Mathlib.Decide.{ℕ_discrete, dec_lt}
use mathlib.Core.Path.{◌≡◌, refl, sym, ap, ◌∙◌, subst}
use mathlib.Core.Logic.{◌≢◌, ◌⊎◌, inl, inr, ⊎_elim}
use mathlib.Core.Bool.{true}
use mathlib.Core.List.{List, [], ◌∷◌}
use lib.ListN.{length, get_or, set, replicate, get_or-replicate, length-replicate, get_or-eq_default}
use lib.IntN.{ℤ}
use lib.Seq.{get_or-set_same, get_or-set_other, set_out}
use Rattle.std.specs.Prelude.{Ok, Err}
use Rattle.refusal.specs.Checks.{in_order, leaves, Answer}
use Rattle.layout.specs.declared.CubeLayout.{CubeLayout}
use Rattle.layout.specs.Geometry.{size_of, element_position}
use Rattle.layout.proofs.Valid.{Valid}
use Rattle.layout.proofs.BoxLaws.{InCube}
use Rattle.layout.proofs.Formulas.{element-own}
use Rattle.regions.specs.declared.Rectangle.{Rectangle}
use Rattle.regions.specs.declared.RegionTable.{RegionTable}
use Rattle.regions.specs.Slots.{Slot, empty, filled, slot_of, slots_of, empty_slots, rectangle_has, rectangle_inside}
use Rattle.regions.specs.Rules.{access, access_of, slot_at, place_checks}
use Rattle.regions.specs.Calls.{empty_table, place_answer, place_table, release_answer, release_table}
use Rattle.regions.proofs.RuleLaws.{Placing, place-accepted, rectangle-columns, rectangle-rows}
use Rattle.regions.proofs.OverlapLaws.{InRectangle, has_in, overlaps-apart}
use Rattle.history.specs.Program.{Call, place, edit, read, release, paint, State, beginning, step, run_to, moment, slots_at}
use Rattle.history.proofs.TableLaws.{placed-layout, placed-slots, released-layout, released-slots, layout-after}

-- the placed rectangles are in the cube, and no two have a position in common
pub record Apart (q : CubeLayout) (slots : List Slot) : Type 0 where
  pub inside : (n id : ℕ) (g : Rectangle) → slot_at slots n ≡ filled id g → rectangle_inside q g ≡ true
  pub apart : (n m : ℕ) → n ≢ m → (i j : ℕ) (f g : Rectangle) → slot_at slots n ≡ filled i f → slot_at slots m ≡ filled j g → (w h : ℕ) → InRectangle f w h → InRectangle g w h → ⊥

-- ---- the empty table
slot-empty : (n : ℕ) → slot_at empty_slots n ≡ empty
unfolding slot_at empty_slots
slot-empty n =
    elim (dec_lt n 16) [ yes h ↦ get_or-replicate 16 n empty empty h | no f ↦ get_or-eq_default (replicate 16 empty) empty (subst (λ (k : ℕ). k ≤ n) (sym (length-replicate 16 empty)) (omega arith)) ]

apart-empty : (q p : CubeLayout) → Apart q (slots_of (empty_table p))
unfolding slots_of slot_of empty_slots
apart-empty q p =
    record {
      inside = λ n id g e. absurd (let z : ◌≡◌ {A = ℕ} 0 1 = cc (slot-empty n) in let f : ⊥ = omega arith in f);
      apart = λ n m d i j f g e e' w h a b. let z : ◌≡◌ {A = ℕ} 0 1 = cc (slot-empty n) in omega arith;
    }

-- ---- one slot changed: what a slot is, the new one is or this one was
set_cases : (slots : List Slot) (n k : ℕ) (new x : Slot) → slot_at (set slots n new) k ≡ x → ((k ≡ n) × (new ≡ x)) ⊎ (slot_at slots k ≡ x)
unfolding slot_at
set_cases slots n k new x e =
    elim (ℕ_discrete k n) [ yes s ↦ at-it s | no d ↦ inr (sym (get_or-set_other slots n k new empty d) ∙ e) ]
  where
    at-it : k ≡ n → ((k ≡ n) × (new ≡ x)) ⊎ (get_or slots k empty ≡ x)
    at-it s =
        elim (dec_lt n (length slots)) [ yes h ↦ inl (s, sym (get_or-set_same slots n new empty h) ∙ sym (ap (λ (j : ℕ). get_or (set slots n new) j empty) s) ∙ e) | no o ↦ inr (sym (ap (λ (l : List Slot). get_or l k empty) (set_out slots n new (omega arith))) ∙ e) ]

-- a placing: a filled slot is the new one, or was filled before
filled-cases : (slots : List Slot) (n k id i : ℕ) (g f : Rectangle) → slot_at (set slots n (filled id g)) k ≡ filled i f → ((k ≡ n) × (f ≡ g)) ⊎ (slot_at slots k ≡ filled i f)
filled-cases slots n k id i g f e =
    ⊎_elim (λ s. inl (s.0, (let same : filled id g ≡ filled i f = s.1 in cc))) inr (set_cases slots n k (filled id g) (filled i f) e)

apart-placed : (q : CubeLayout) (slots : List Slot) (n id : ℕ) (g : Rectangle) → Placing (access q slots n id) g → Apart q slots → Apart q (set slots n (filled id g))
apart-placed q slots n id g p a =
    record {
      inside = λ k i f e. ⊎_elim (λ s. subst (λ (r : Rectangle). rectangle_inside q r ≡ true) (sym s.1) p.inside) (λ o. a.inside k i f o) (filled-cases slots n k id i g f e);
      apart = λ k m d i j f r ef er w h hf hr. both k m d i j f r w h hf hr (filled-cases slots n k id i g f ef) (filled-cases slots n m id j g r er);
    }
  where
    both : (k m : ℕ) → k ≢ m → (i j : ℕ) (f r : Rectangle) (w h : ℕ) → InRectangle f w h → InRectangle r w h → ((k ≡ n) × (f ≡ g)) ⊎ (slot_at slots k ≡ filled i f) → ((m ≡ n) × (r ≡ g)) ⊎ (slot_at slots m ≡ filled j r) → ⊥
    both k m d i j f r w h hf hr (inl s) (inl s') = d (s.0 ∙ sym s'.0)
    both k m d i j f r w h hf hr (inl s) (inr o) = overlaps-apart slots g p.apart m j r w h o hr (subst (λ (x : Rectangle). InRectangle x w h) s.1 hf)
    both k m d i j f r w h hf hr (inr o) (inl s) = overlaps-apart slots g p.apart k i f w h o hf (subst (λ (x : Rectangle). InRectangle x w h) s.1 hr)
    both k m d i j f r w h hf hr (inr o) (inr o') = a.apart k m d i j f r o o' w h hf hr

-- a release: a filled slot was filled before
still-filled : (slots : List Slot) (n k id : ℕ) (f : Rectangle) → slot_at (set slots n empty) k ≡ filled id f → slot_at slots k ≡ filled id f
still-filled slots n k id f e =
    ⊎_elim (λ s. absurd (let z : ◌≡◌ {A = ℕ} 0 1 = cc s.1 in let no_such : ⊥ = omega arith in no_such)) (λ o. o) (set_cases slots n k empty (filled id f) e)

apart-released : (q : CubeLayout) (slots : List Slot) (n : ℕ) → Apart q slots → Apart q (set slots n empty)
apart-released q slots n a =
    record {
      inside = λ k id g e. a.inside k id g (still-filled slots n k id g e);
      apart = λ k m d i j f g ef eg. a.apart k m d i j f g (still-filled slots n k i f ef) (still-filled slots n m j g eg);
    }

-- ---- every moment
module _ (t : RegionTable) (n id : ℕ) (a : Apart t.layout (slots_of t)) where
  module _ (g : Rectangle) where
    place-cases : (v : Answer) → in_order (place_checks (access_of t n id) g) ≡ v → Apart t.layout (leaves v (set (slots_of t) n (filled id g)) (slots_of t))
    unfolding leaves
    place-cases (Ok _) e = apart-placed t.layout (slots_of t) n id g (place-accepted (access_of t n id) g e) a
    place-cases (Err fault) e = a

    apart-place : Apart (place_table t n id g).layout (slots_of (place_table t n id g))
    unfolding place_answer
    apart-place =
        subst (λ (p : CubeLayout). Apart p (slots_of (place_table t n id g))) (sym (placed-layout t n id g))
        (subst (λ (l : List Slot). Apart t.layout l) (sym (placed-slots t n id g)) (place-cases (place_answer t n id g) refl))

  release-cases : (v : Answer) → Apart t.layout (leaves v (set (slots_of t) n empty) (slots_of t))
  unfolding leaves
  release-cases (Ok _) = apart-released t.layout (slots_of t) n a
  release-cases (Err fault) = a

  apart-release : (len : ℕ) → Apart (release_table t n id len).layout (slots_of (release_table t n id len))
  apart-release len =
      subst (λ (p : CubeLayout). Apart p (slots_of (release_table t n id len))) (sym (released-layout t n id len))
      (subst (λ (l : List Slot). Apart t.layout l) (sym (released-slots t n id len)) (release-cases (release_answer t n id len)))

apart-after : (s : State) (c : Call) → Apart s.table.layout (slots_of s.table) → Apart (step s c).state.table.layout (slots_of (step s c).state.table)
unfolding step
apart-after s (place n id g) a = apart-place s.table n id a g
apart-after s (edit n id b xs) a = a
apart-after s (read n id b xs) a = a
apart-after s (release n id) a = apart-release s.table n id a (length s.buffer)
apart-after s (paint n id image pixels k) a = a

apart-run : (s : State) (calls : List Call) → Apart s.table.layout (slots_of s.table) → Apart (run_to s calls).table.layout (slots_of (run_to s calls).table)
unfolding run_to
apart-run s [] a = a
apart-run s (c ∷ calls) a = apart-run (step s c).state calls (apart-after s c a)

layout-run : (s : State) (calls : List Call) → (run_to s calls).table.layout ≡ s.table.layout
unfolding run_to
layout-run s [] = refl
layout-run s (c ∷ calls) = layout-run (step s c).state calls ∙ layout-after s c

module _ (q : CubeLayout) (raw : List ℤ) (before : List ℕ) (calls : List Call) where
  pub layout-at : (moment q raw before calls).table.layout ≡ q
  layout-at = layout-run (beginning q raw before).state calls

  pub apart-at : Apart q (slots_at q raw before calls)
  apart-at =
      subst (λ (x : CubeLayout). Apart x (slots_at q raw before calls)) layout-at (apart-run (beginning q raw before).state calls (apart-empty q q))

-- ---- no shared byte
module _ (q : CubeLayout) (ok : Valid q) (slots : List Slot) (a : Apart q slots) where
  -- an element of a placed region is in the cube
  region-cube : (n id : ℕ) (g : Rectangle) → slot_at slots n ≡ filled id g → (c h w : ℕ) → c < q.channels → InRectangle g w h → InCube q c h w
  region-cube n id g e c h w hc i =
      let cs = rectangle-columns q g (a.inside n id g e) in
      let rs = rectangle-rows q g (a.inside n id g e) in
      record { channel_lt = hc; row_lt = omega (arith, i.row_lt, rs.fit); column_lt = omega (arith, i.column_lt, cs.fit) }

  pub no-shared-byte : (n m : ℕ) → n ≢ m → (i j : ℕ) (f g : Rectangle) → slot_at slots n ≡ filled i f → slot_at slots m ≡ filled j g
      → (c h w b c' h' w' b' : ℕ) → c < q.channels → rectangle_has f w h ≡ true → b < size_of q → c' < q.channels → rectangle_has g w' h' ≡ true → b' < size_of q
      → element_position q c h w + b ≡ element_position q c' h' w' + b' → ⊥
  no-shared-byte n m d i j f g ef eg c h w b c' h' w' b' hc has hb hc' has' hb' e =
      let x = has_in f w h has in
      let x' = has_in g w' h' has' in
      let same = element-own q ok c h w b c' h' w' b' (region-cube n i f ef c h w hc x) (region-cube m j g eg c' h' w' hc' x') hb hb' e in
      a.apart n m d i j f g ef eg w h x (subst (λ (y : ℕ). InRectangle g y h) (sym same.2) (subst (λ (y : ℕ). InRectangle g w' y) (sym same.1) x'))
