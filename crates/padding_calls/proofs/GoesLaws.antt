-- The three lists before and after steps (specs/Steps.antt): no step, steps one after another, a byte, an atom, a stretch without padding. By the laws of a part
-- whose first bytes are mended. Assumes nothing.
--     zeros-none, zeros-more, zeros-slice bytes that are zero
--     goes_none, goes_then, mends_then    no step; steps one after another
--     goes-zero, goes-dirt, goes-zeros    one byte of padding: zero, or not; zeros
--     goes-skip, goes-atom                bytes that are no padding; an atom's bytes
use Prim.Native.Nat.{ℕ, zero, suc, ◌+◌, ◌-◌, ◌%◌, ◌≤◌, ◌<◌, min}
use native.Mathlib.Nat.{not-suc-le-zero}
use native.Mathlib.Decide.{dec_lt}
use native.Mathlib.Omega.{arith}
use mathlib.Core.Path.{◌≡◌, refl, sym, ap, subst, subst⁻¹, ◌∙◌}
use mathlib.Core.Logic.{◌≢◌}
use mathlib.Core.Bool.{Bool, true, false}
use mathlib.Core.List.{List, map}
use lib.Dec.{leb}
use lib.ListN.{length, get_or, set, take, drop, length-append, length-set, length-drop, length-map}
use Rattle.std.proofs.lemmas.List.{get_or-take, get_or-drop, length-take}
use borrow.Author.Tests.{le-leb, lt-leb}
use Rattle.layout.specs.Owners.{owner}
use Rattle.padding.specs.Mending.{Dirt, is_dirty, reported}
use Rattle.padding.specs.Calls.{filled}
use Rattle.padding_calls.specs.declared.rows.Report.{Report}
use Rattle.padding_calls.specs.Steps.{Zeros, Done, Goes, Mends}
use Rattle.padding_calls.proofs.DoneLaws.{zero-clean, padding-dirty, done-clean, done-byte, done-dirt, done-skip}

-- ---- zeros

pub zeros-none : (i : ℕ) (part : List ℕ) → Zeros i i part
unfolding Zeros
zeros-none i part x hi hx = absurd (let no : 0 < 0 = omega (arith, hi, hx) in not-suc-le-zero no)

pub zeros-more : (from i : ℕ) (part : List ℕ) → Zeros from i part → get_or part i 0 ≡ 0 → Zeros from (i + 1) part
unfolding Zeros
zeros-more from i part z e x hf hx =
    elim (dec_lt x i) [
      | yes h ↦ z x hf h
      | no g ↦ let at : x ≡ i = omega (arith, g, hx) in ap (λ (k : ℕ). get_or part k 0) at ∙ e
    ]

pub zeros-slice : (from to : ℕ) (part : List ℕ) → to ≤ length part → Zeros 0 (length (take (to - from) (drop from part))) (take (to - from) (drop from part)) → Zeros from to part
unfolding Zeros
zeros-slice from to part h z x hf hx =
    let at : x - from < to - from = omega (arith, hf, hx) in
    let inside : x - from < length (take (to - from) (drop from part)) = omega (arith, at, h, length-take (to - from) (drop from part), length-drop from part) in
    let sum : from + (x - from) ≡ x = omega (arith, hf) in
    ap (λ (k : ℕ). get_or part k 0) (sym sum) ∙ sym (get_or-drop from part (x - from) 0) ∙ sym (get_or-take (to - from) (drop from part) (x - from) 0 at) ∙ z (x - from) (omega arith) inside

-- a list of the report has a place for line n: so had the one that was lent
place-left : (f : Dirt → ℕ) (report : List Dirt) (before now : List ℕ) (n : ℕ) → n ≡ length report → now ≡ filled (map f report) before → n < length now → n < length before
unfolding filled
place-left f report before now n c is h =
    omega (arith, c, h, ap length is, length-append (map f report) (drop (length (map f report)) before), length-map report f, length-drop (length (map f report)) before)

module _ (pads : ℕ → Bool) (first : ℕ) (part positions olds : List ℕ) where
  pub goes_none : (i n : ℕ) → n ≤ i → Goes pads first i i n n part positions olds part positions olds
  goes_none i n h = record { count_le = h; part_length = refl; positions_length = refl; olds_length = refl; goes = λ q l e d p. d }

  pub goes_then : (a b c n m r : ℕ) (part' positions' olds' part'' positions'' olds'' : List ℕ) → a ≤ b → b ≤ c → Goes pads first a b n m part positions olds part' positions' olds'
      → Goes pads first b c m r part' positions' olds' part'' positions'' olds'' → Goes pads first a c n r part positions olds part'' positions'' olds''
  goes_then a b c n m r part' positions' olds' part'' positions'' olds'' hab hbc g g' =
      record {
        count_le = g'.count_le;
        part_length = g'.part_length ∙ g.part_length;
        positions_length = g'.positions_length ∙ g.positions_length;
        olds_length = g'.olds_length ∙ g.olds_length;
        goes =
            λ q l e d p.
            g'.goes q l (e ∙ sym g.part_length) (g.goes q l e d (λ x hx ht. p x hx (omega (arith, ht, hbc)))) (λ x hx ht. p x (omega (arith, hx, hab)) ht);
      }

  -- a byte that is zero stays, whosever it is
  pub goes-zero : (i n r : ℕ) (part' positions' olds' : List ℕ) → i < length part → n ≤ i → get_or part i 0 ≡ 0
      → (part' ≡ part) × (positions' ≡ positions) × (olds' ≡ olds) × (r ≡ n) → Goes pads first i (i + 1) n r part positions olds part' positions' olds'
  goes-zero i n r part' positions' olds' h hn z e = rw (e.0, e.1, e.2, e.3) core
    where
      core : Goes pads first i (i + 1) n n part positions olds part positions olds
      core =
          record {
            count_le = omega (arith, hn);
            part_length = refl;
            positions_length = refl;
            olds_length = refl;
            goes =
                λ q l e d p.
                let at : i < length l.part = omega (arith, h, e) in
                let byte : get_or l.part i 0 ≡ 0 = sym (done-byte q first l i at n part positions olds d) ∙ z in
                subst (λ (k : ℕ). Done q first l k n part positions olds) (omega arith)
                (done-clean q first l i at n part positions olds (ap (is_dirty (owner q (first + i))) byte ∙ zero-clean (owner q (first + i))) d);
          }

  -- zeros stay, k of them from byte i on
  zeros-kept : (k i n : ℕ) → i + k ≤ length part → n ≤ i → Zeros i (i + k) part → Goes pads first i (i + k) n n part positions olds part positions olds
  unfolding Zeros
  zeros-kept zero i n h hn z = subst (λ (j : ℕ). Goes pads first i j n n part positions olds part positions olds) (omega arith) (goes_none i n hn)
  zeros-kept (suc k) i n h hn z =
      subst (λ (j : ℕ). Goes pads first i j n n part positions olds part positions olds) (omega arith)
      (goes_then i (i + k) (i + k + 1) n n n part positions olds part positions olds (omega arith) (omega arith)
      (zeros-kept k i n (omega (arith, h)) hn (λ x hi hx. z x hi (omega (arith, hx))))
      (goes-zero (i + k) n n part positions olds (omega (arith, h)) (omega (arith, hn)) (z (i + k) (omega arith) (omega arith)) (refl, refl, refl, refl)))

  pub goes-zeros : (i j n : ℕ) → i ≤ j → j ≤ length part → n ≤ i → Zeros i j part → Goes pads first i j n n part positions olds part positions olds
  goes-zeros i j n hij hj hn z =
      let at : i + (j - i) ≡ j = omega (arith, hij) in
      subst (λ (k : ℕ). Goes pads first i k n n part positions olds part positions olds) at
      (zeros-kept (j - i) i n (omega (arith, at, hj)) hn (subst⁻¹ (λ (k : ℕ). Zeros i k part) at z))

  -- bytes that are no padding
  pub goes-skip : (i j n : ℕ) → i ≤ j → j ≤ length part → n ≤ i → ((x : ℕ) → i ≤ x → x < j → pads (first + x) ≡ false) → Goes pads first i j n n part positions olds part positions olds
  goes-skip i j n hij hj hn none =
      record {
        count_le = omega (arith, hn, hij);
        part_length = refl;
        positions_length = refl;
        olds_length = refl;
        goes =
            λ q l e d p.
            subst (λ (k : ℕ). Done q first l k n part positions olds) (omega (arith, hij))
            (done-skip q first l (j - i) i n part positions olds (omega (arith, hij, hj, e)) (λ x hx ht. p x hx (omega (arith, ht, hij)) ∙ none x hx (omega (arith, ht, hij))) d);
      }

-- steps one after another, of a part and the report that is being filled
pub mends_then : (pads : ℕ → Bool) (first a b c : ℕ) (part : List ℕ) (report : Report) (part' : List ℕ) (report' : Report) (part'' : List ℕ) (report'' : Report) → a ≤ b → b ≤ c
    → Mends pads first a b part report part' report' → Mends pads first b c part' report' part'' report'' → Mends pads first a c part report part'' report''
mends_then pads first a b c part report part' report' part'' report'' hab hbc m m' =
    record {
      same_positions = m'.same_positions ∙ m.same_positions;
      same_olds = m'.same_olds ∙ m.same_olds;
      goes = goes_then pads first part report.positions.now report.olds.now a b c report.lines report'.lines report''.lines part' report'.positions.now report'.olds.now part'' report''.positions.now report''.olds.now hab hbc m.goes m'.goes;
    }

module _ (first : ℕ) (part positions olds : List ℕ) where
  -- a byte of padding that is not zero is reported
  pub goes-dirt : (i n r : ℕ) (part' positions' olds' : List ℕ) → i < length part → n ≤ i → n < length positions → n < length olds → get_or part i 0 ≢ 0
      → (part' ≡ set part i 0) × (positions' ≡ set positions n (first + i)) × (olds' ≡ set olds n (get_or part i 0)) × (r ≡ n + 1)
      → Goes (λ (x : ℕ). true) first i (i + 1) n r part positions olds part' positions' olds'
  goes-dirt i n r part' positions' olds' h hn hp ho z e = rw (e.0, e.1, e.2, e.3) core
    where
      core : Goes (λ (x : ℕ). true) first i (i + 1) n (n + 1) part positions olds (set part i 0) (set positions n (first + i)) (set olds n (get_or part i 0))
      core =
          record {
            count_le = omega (arith, hn);
            part_length = length-set part i 0;
            positions_length = length-set positions n (first + i);
            olds_length = length-set olds n (get_or part i 0);
            goes =
                λ q l e d p.
                let at : i < length l.part = omega (arith, h, e) in
                let byte = done-byte q first l i at n part positions olds d in
                let done =
                done-dirt q first l i at n part positions olds (padding-dirty (owner q (first + i)) (get_or l.part i 0) (p i (omega arith) (omega arith)) (λ s. z (byte ∙ s)))
                (place-left (λ (x : Dirt). x.position) (reported q first (take i l.part)) l.positions positions n d.count_is d.positions_are hp)
                (place-left (λ (x : Dirt). x.old) (reported q first (take i l.part)) l.olds olds n d.count_is d.olds_are ho) d in
                let here : Done q first l (suc i) (suc n) (set part i 0) (set positions n (first + i)) (set olds n (get_or part i 0)) =
                subst (λ (b : ℕ). Done q first l (suc i) (suc n) (set part i 0) (set positions n (first + i)) (set olds n b)) (sym byte) done in
                let one : suc n ≡ n + 1 = omega arith in
                let counted = subst (λ (k : ℕ). Done q first l (suc i) k (set part i 0) (set positions n (first + i)) (set olds n (get_or part i 0))) one here in
                subst (λ (k : ℕ). Done q first l k (n + 1) (set part i 0) (set positions n (first + i)) (set olds n (get_or part i 0))) (omega arith) counted;
          }

  -- what is all padding, among atoms
  goes-pads : (pad i j n r : ℕ) (part' positions' olds' : List ℕ) → ((x : ℕ) → i ≤ x → x < j → leb pad ((first + x) % 32) ≡ true)
      → Goes (λ (x : ℕ). true) first i j n r part positions olds part' positions' olds' → Goes (λ (x : ℕ). leb pad (x % 32)) first i j n r part positions olds part' positions' olds'
  goes-pads pad i j n r part' positions' olds' all g =
      record {
        count_le = g.count_le;
        part_length = g.part_length;
        positions_length = g.positions_length;
        olds_length = g.olds_length;
        goes = λ q l e d p. g.goes q l e d (λ x hx ht. p x hx ht ∙ all x hx ht);
      }

  -- the bytes of one atom from byte i on, up to its end or the row's: what stands before its padding is skipped
  pub goes-atom : (pad i to start end n r : ℕ) (part' positions' olds' : List ℕ) → i < to → to ≤ length part → n ≤ i
      → end ≡ min (i + (32 - (first + i) % 32)) to → start ≡ min (i + (pad - (first + i) % 32)) end
      → Goes (λ (x : ℕ). true) first start end n r part positions olds part' positions' olds' → Goes (λ (x : ℕ). leb pad (x % 32)) first i end n r part positions olds part' positions' olds'
  goes-atom pad i to start end n r part' positions' olds' h ht hn e s g =
      goes_then (λ (x : ℕ). leb pad (x % 32)) first part positions olds i start end n n r part positions olds part' positions' olds' (omega (arith, h, e, s)) (omega (arith, s))
      (goes-skip (λ (x : ℕ). leb pad (x % 32)) first part positions olds i start n (omega (arith, h, e, s)) (omega (arith, ht, e, s)) hn
      (λ x hx hs. lt-leb pad ((first + x) % 32) (omega (arith, hx, hs, e, s))))
      (goes-pads pad start end n r part' positions' olds' (λ x hx he. le-leb pad ((first + x) % 32) (omega (arith, hx, he, h, e, s))) g)
