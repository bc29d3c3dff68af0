-- Mended bytes and reports in the words of the paper's formula (specs/Files.antt; layout/specs/Places.antt). By the owner of each byte, which the formula
-- decides. Assumes nothing.
--     pad-zero, other_byte, other-kept          a mended byte
--     rising, told, every                       a report: ascending; each line is such a byte; each such byte is a line
use Prim.Native.Nat.{ℕ, zero, suc, ◌+◌, ◌≤◌, ◌<◌, suc-le-suc}
use native.Mathlib.Nat.{le_of_suc-le-suc, not-suc-le-zero}
use native.Mathlib.Decide.{dec_lt}
use native.Mathlib.Omega.{arith}
use mathlib.Core.Path.{◌≡◌, refl, sym, ap, subst, ◌∙◌}
use mathlib.Core.Logic.{⊎_elim, inl, inr, ◌≢◌}
use mathlib.Core.Bool.{Bool, true, false, cond, not}
use mathlib.Core.List.{List, [], ◌∷◌}
use lib.Dec.{eqb}
use lib.ListN.{length, get_or, get_or-eq_default}
use borrow.Author.Tests.{ne_eqb}
use Rattle.layout.specs.declared.CubeLayout.{CubeLayout}
use Rattle.layout.specs.Owners.{Owner, element, padding, outside, owner}
use Rattle.layout.specs.Places.{PaddingByte}
use Rattle.layout.proofs.Valid.{Valid}
use Rattle.layout.proofs.Formulas.{padding-exactly}
use Rattle.padding.specs.Mending.{Dirt, mended_byte, mended, is_dirty, reported}
use Rattle.padding.specs.Files.{DirtyByte, One_of, Ascending}
use Rattle.padding.proofs.MendLaws.{mended-length, mended-byte}

-- a byte that is no padding stays
kept-other : (o : Owner) (b : ℕ) → (o ≡ padding → ⊥) → mended_byte o b ≡ b
unfolding mended_byte
kept-other (element c h w k) b f = refl
kept-other padding b f = absurd (f refl)
kept-other outside b f = refl

padding-zero : (o : Owner) (b : ℕ) → o ≡ padding → mended_byte o b ≡ 0
unfolding mended_byte
padding-zero o b e = rw e

dirty-padding : (o : Owner) (b : ℕ) → is_dirty o b ≡ true → (o ≡ padding) × (b ≢ 0)
unfolding is_dirty
dirty-padding (element c h w k) b e = absurd (let z : ◌≡◌ {A = ℕ} 0 1 = cc in omega arith)
dirty-padding padding b e = (refl, λ z. let t : not (eqb 0 0) ≡ true = subst (λ (n : ℕ). not (eqb n 0) ≡ true) z e in let c : ◌≡◌ {A = ℕ} 0 1 = cc in omega arith)
dirty-padding outside b e = absurd (let z : ◌≡◌ {A = ℕ} 0 1 = cc in omega arith)

dirty-here : (o : Owner) (b : ℕ) → o ≡ padding → b ≢ 0 → is_dirty o b ≡ true
unfolding is_dirty
dirty-here o b e f = rw (e, ne_eqb b 0 f) refl

module _ (q : CubeLayout) (ok : Valid q) (first : ℕ) (bytes : List ℕ) where
  pub pad-zero : (p : ℕ) → p < length bytes → PaddingByte q (first + p) → get_or (mended q first bytes) p 0 ≡ 0
  pad-zero p h b = mended-byte q first bytes p h ∙ padding-zero (owner q (first + p)) (get_or bytes p 0) ((padding-exactly q ok (first + p)).1 b)

  -- a byte that is no padding stays
  pub other_byte : (p : ℕ) → (owner q (first + p) ≡ padding → ⊥) → get_or (mended q first bytes) p 0 ≡ get_or bytes p 0
  other_byte p f =
      elim (dec_lt p (length bytes)) [
        | yes h ↦ mended-byte q first bytes p h ∙ kept-other (owner q (first + p)) (get_or bytes p 0) f
        | no g ↦
            get_or-eq_default (mended q first bytes) 0 (omega (arith, g, mended-length q first bytes)) ∙ sym (get_or-eq_default bytes 0 (omega (arith, g)))
      ]

  pub other-kept : (p : ℕ) → (PaddingByte q (first + p) → ⊥) → get_or (mended q first bytes) p 0 ≡ get_or bytes p 0
  other-kept p f = other_byte p (λ e. f ((padding-exactly q ok (first + p)).0 e))

-- ---- reports

later-rising : (p p' : ℕ) (report : List Dirt) → p ≤ p' → Ascending p' report → Ascending p report
unfolding Ascending
later-rising p p' [] h a = a
later-rising p p' (d ∷ report) h a = (omega (arith, h, a.0), a.1)

module _ (q : CubeLayout) where
  pub rising : (p : ℕ) (bytes : List ℕ) → Ascending p (reported q p bytes)
  unfolding reported Ascending
  rising p [] = tt
  rising p (b ∷ bytes) = by (is_dirty (owner q p) b) (rising (suc p) bytes)
    where
      by : (t : Bool) → Ascending (suc p) (reported q (suc p) bytes) → Ascending p (cond t (record { position = p; old = b } ∷ reported q (suc p) bytes) (reported q (suc p) bytes))
      by true a = (omega arith, a)
      by false a = later-rising p (suc p) (reported q (suc p) bytes) (omega arith) a

  module _ (ok : Valid q) where
    -- one byte before others
    behind : (p b : ℕ) (bytes : List ℕ) (d : Dirt) → DirtyByte q (suc p) bytes d → DirtyByte q p (b ∷ bytes) d
    behind p b bytes d x =
        record { i = suc x.i; inside = suc-le-suc x.inside; place = omega (arith, x.place); pad = x.pad; value = x.value; dirty = x.dirty }

    here : (p b : ℕ) (bytes : List ℕ) (d : Dirt) → is_dirty (owner q p) b ≡ true → d ≡ record { position = p; old = b } → DirtyByte q p (b ∷ bytes) d
    here p b bytes d t e =
        let o = dirty-padding (owner q p) b t in
        let position : d.position ≡ p = ap (λ (x : Dirt). x.position) e in
        let old : d.old ≡ b = ap (λ (x : Dirt). x.old) e in
        record {
          i = 0;
          inside = omega arith;
          place = omega (arith, position);
          pad = subst (PaddingByte q) (sym position) ((padding-exactly q ok p).0 o.0);
          value = old;
          dirty = λ z. o.1 (sym old ∙ z);
        }

    pub told : (p : ℕ) (bytes : List ℕ) (d : Dirt) → One_of d (reported q p bytes) → DirtyByte q p bytes d
    unfolding reported One_of
    told p [] d x = absurd x
    told p (b ∷ bytes) d x = by (is_dirty (owner q p) b) refl x (told (suc p) bytes d)
      where
        by : (t : Bool) → is_dirty (owner q p) b ≡ t → One_of d (cond t (record { position = p; old = b } ∷ reported q (suc p) bytes) (reported q (suc p) bytes))
            → (One_of d (reported q (suc p) bytes) → DirtyByte q (suc p) bytes d) → DirtyByte q p (b ∷ bytes) d
        by true e x more = ⊎_elim (λ s. here p b bytes d e s) (λ y. behind p b bytes d (more y)) x
        by false e x more = behind p b bytes d (more x)

    -- the byte at i, before others and after
    find : (p : ℕ) (bytes : List ℕ) (d : Dirt) (i : ℕ) → i < length bytes → d.position ≡ p + i → PaddingByte q d.position → d.old ≡ get_or bytes i 0 → d.old ≢ 0 → One_of d (reported q p bytes)
    unfolding reported One_of
    find p [] d i h e b v f = absurd (not-suc-le-zero h)
    find p (x ∷ bytes) d zero h e b v f =
        let at : d.position ≡ p = omega (arith, e) in
        rw (dirty-here (owner q p) x ((padding-exactly q ok p).1 (subst (PaddingByte q) at b)) (λ z. f (v ∙ z)))
        (inl (ap (λ (n : ℕ). record { position = n; old = d.old }) at ∙ ap (λ (n : ℕ). record { position = p; old = n }) v))
    find p (x ∷ bytes) d (suc i) h e b v f = by (is_dirty (owner q p) x) (find (suc p) bytes d i (le_of_suc-le-suc h) (omega (arith, e)) b v f)
      where
        by : (t : Bool) → One_of d (reported q (suc p) bytes) → One_of d (cond t (record { position = p; old = x } ∷ reported q (suc p) bytes) (reported q (suc p) bytes))
        by true o = inr o
        by false o = o

    pub every : (p : ℕ) (bytes : List ℕ) (d : Dirt) → DirtyByte q p bytes d → One_of d (reported q p bytes)
    every p bytes d x = find p bytes d x.i x.inside x.place x.pad x.value x.dirty
