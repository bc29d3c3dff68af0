-- Laws of mended bytes and of their report (specs/Mending.antt). By induction on the bytes. Assumes nothing.
--     mended-length, mended-byte             as many bytes; each by its owner
--     mended-none, mended-cons, reported-none     of no byte; of one before others
--     mended-append, reported-append         of two runs of bytes, one behind the other
--     mended-one, reported-clean, reported-dirt     of a single byte
--     reported-le                            at most a line for each byte
--     clean-kept, dirt-zero                  a byte that is not reported stays; one that is becomes zero
--     Clean, clean-reported, clean-mended, mended-clean     bytes of which none is reported
use Prim.Native.Nat.{ℕ, suc, ◌+◌, ◌≤◌, ◌<◌, suc-le-suc}
use native.Mathlib.Omega.{arith}
use mathlib.Core.Path.{◌≡◌, refl, sym, ap, subst, ◌∙◌}
use mathlib.Core.Bool.{Bool, true, false, cond, not}
use mathlib.Core.List.{List, [], ◌∷◌, ◌++◌}
use lib.Dec.{eqb}
use lib.ListN.{length, get_or}
use borrow.Author.Tests.{eqb-true}
use Rattle.elements.specs.Lists.{remade_from}
use Rattle.elements.proofs.ListLaws.{length-remade_from, get_or-remade_from, remade_from-append}
use Rattle.layout.specs.declared.CubeLayout.{CubeLayout}
use Rattle.layout.specs.Owners.{Owner, element, padding, outside, owner}
use Rattle.padding.specs.Mending.{Dirt, mended_byte, mended, is_dirty, reported}

-- ---- one byte, by its owner

pub clean-kept : (o : Owner) (b : ℕ) → is_dirty o b ≡ false → mended_byte o b ≡ b
unfolding is_dirty mended_byte
clean-kept (element c h w k) b e = refl
clean-kept padding b e = zero-byte b (eqb b 0) refl e
  where
    zero-byte : (x : ℕ) (t : Bool) → eqb x 0 ≡ t → not t ≡ false → 0 ≡ x
    zero-byte x true i n = sym (eqb-true x 0 i)
    zero-byte x false i n = cc
clean-kept outside b e = refl

pub dirt-zero : (o : Owner) (b : ℕ) → is_dirty o b ≡ true → mended_byte o b ≡ 0
unfolding is_dirty mended_byte
dirt-zero (element c h w k) b e = cc
dirt-zero padding b e = refl
dirt-zero outside b e = cc

-- a mended byte is not reported
mended-not-dirty : (o : Owner) (b : ℕ) → is_dirty o (mended_byte o b) ≡ false
unfolding is_dirty mended_byte
mended-not-dirty (element c h w k) b = refl
mended-not-dirty padding b = refl
mended-not-dirty outside b = refl

module _ (q : CubeLayout) where
  -- ---- bytes

  pub mended-length : (p : ℕ) (bytes : List ℕ) → length (mended q p bytes) ≡ length bytes
  unfolding mended
  mended-length p bytes = length-remade_from _ p bytes

  pub mended-byte : (p : ℕ) (bytes : List ℕ) (i : ℕ) → i < length bytes → get_or (mended q p bytes) i 0 ≡ mended_byte (owner q (p + i)) (get_or bytes i 0)
  unfolding mended
  mended-byte p bytes i h = get_or-remade_from _ p bytes i 0 h

  pub mended-append : (p : ℕ) (xs ys : List ℕ) → mended q p (xs ++ ys) ≡ mended q p xs ++ mended q (p + length xs) ys
  unfolding mended
  mended-append p xs ys = remade_from-append _ p xs ys

  pub mended-none : (p : ℕ) → mended q p [] ≡ []
  unfolding mended remade_from
  mended-none p = refl

  pub mended-cons : (p b : ℕ) (bytes : List ℕ) → mended q p (b ∷ bytes) ≡ mended_byte (owner q p) b ∷ mended q (suc p) bytes
  unfolding mended remade_from
  mended-cons p b bytes = refl

  pub mended-one : (p b : ℕ) → mended q p (b ∷ []) ≡ mended_byte (owner q p) b ∷ []
  unfolding mended remade_from
  mended-one p b = refl

  -- ---- their report

  pub reported-none : (p : ℕ) → reported q p [] ≡ []
  unfolding reported
  reported-none p = refl

  pub reported-append : (p : ℕ) (xs ys : List ℕ) → reported q p (xs ++ ys) ≡ reported q p xs ++ reported q (p + length xs) ys
  unfolding reported
  reported-append p [] ys = ap (λ (n : ℕ). reported q n ys) (omega arith)
  reported-append p (x ∷ xs) ys = by (is_dirty (owner q p) x) (reported-append (suc p) xs ys ∙ ap (λ (n : ℕ). reported q (suc p) xs ++ reported q n ys) (omega arith))
    where
      by : (t : Bool) → reported q (suc p) (xs ++ ys) ≡ reported q (suc p) xs ++ reported q (p + suc (length xs)) ys
          → cond t (record { position = p; old = x } ∷ reported q (suc p) (xs ++ ys)) (reported q (suc p) (xs ++ ys))
          ≡ cond t (record { position = p; old = x } ∷ reported q (suc p) xs) (reported q (suc p) xs) ++ reported q (p + suc (length xs)) ys
      by true e = ap (λ (l : List Dirt). record { position = p; old = x } ∷ l) e
      by false e = e

  pub reported-clean : (p b : ℕ) → is_dirty (owner q p) b ≡ false → reported q p (b ∷ []) ≡ []
  unfolding reported
  reported-clean p b e = rw e

  pub reported-dirt : (p b : ℕ) → is_dirty (owner q p) b ≡ true → reported q p (b ∷ []) ≡ record { position = p; old = b } ∷ []
  unfolding reported
  reported-dirt p b e = rw e

  -- at most a line for each byte
  pub reported-le : (p : ℕ) (bytes : List ℕ) → length (reported q p bytes) ≤ length bytes
  unfolding reported
  reported-le p [] = omega arith
  reported-le p (b ∷ bytes) = by (is_dirty (owner q p) b) (reported-le (suc p) bytes)
    where
      by : (t : Bool) → length (reported q (suc p) bytes) ≤ length bytes
          → length (cond t (record { position = p; old = b } ∷ reported q (suc p) bytes) (reported q (suc p) bytes)) ≤ suc (length bytes)
      by true e = suc-le-suc e
      by false e = omega (arith, e)

  -- ---- bytes of which none is reported

  abbrev pub Clean : ℕ → List ℕ → Type 0
  Clean p bytes = (i : ℕ) → i < length bytes → is_dirty (owner q (p + i)) (get_or bytes i 0) ≡ false

  clean-first : (p b : ℕ) (bytes : List ℕ) → Clean p (b ∷ bytes) → is_dirty (owner q p) b ≡ false
  clean-first p b bytes c = ap (λ (x : ℕ). is_dirty (owner q x) b) (omega arith) ∙ c 0 (omega arith)

  clean-rest : (p b : ℕ) (bytes : List ℕ) → Clean p (b ∷ bytes) → Clean (suc p) bytes
  clean-rest p b bytes c i h = ap (λ (x : ℕ). is_dirty (owner q x) (get_or bytes i 0)) (omega arith) ∙ c (suc i) (suc-le-suc h)

  pub clean-reported : (p : ℕ) (bytes : List ℕ) → Clean p bytes → reported q p bytes ≡ []
  unfolding reported
  clean-reported p [] c = refl
  clean-reported p (b ∷ bytes) c = rw (clean-first p b bytes c) (clean-reported (suc p) bytes (clean-rest p b bytes c))

  pub clean-mended : (p : ℕ) (bytes : List ℕ) → Clean p bytes → mended q p bytes ≡ bytes
  clean-mended p [] c = mended-none p
  clean-mended p (b ∷ bytes) c =
      rw (mended-cons p b bytes, clean-kept (owner q p) b (clean-first p b bytes c)) (ap (λ (l : List ℕ). b ∷ l) (clean-mended (suc p) bytes (clean-rest p b bytes c)))

  -- mended bytes are clean
  pub mended-clean : (p : ℕ) (bytes : List ℕ) → Clean p (mended q p bytes)
  mended-clean p bytes i h =
      let below : i < length bytes = subst (λ (n : ℕ). i < n) (mended-length p bytes) h in
      ap (is_dirty (owner q (p + i))) (mended-byte p bytes i below) ∙ mended-not-dirty (owner q (p + i)) (get_or bytes i 0)
