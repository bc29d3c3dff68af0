-- The owner of a byte by cases, each in the paper's formula: byte b of an element lies at the element's position + b, a padding byte in an
-- atom past the last channel, and a byte outside is no atom's. Once over the element size. Assumes nothing.
--     element-atom      an element's bytes lie in the atom of its surface
--     element-owner     the owner at an element's position + b
--     View, see         the three cases
use Prim.Native.Nat.{ℕ, suc, ◌+◌, ◌*◌, ◌/◌, ◌%◌, ◌≤◌, ◌<◌}
use native.Mathlib.Nat.{mul-le-mul_right, mod-lt, div-add-mod', div-lt_iff_lt-mul}
use native.Mathlib.Omega.{arith}
use mathlib.Core.Path.{◌≡◌, refl, sym, ap, ◌∙◌}
use mathlib.Core.Logic.{◌⊎◌, ⊎_elim}
use mathlib.Core.Bool.{Bool, true, false, cond}
use lib.Arith.{digits_div, digits_mod}
use lib.Dec.{ltb}
use borrow.Author.Tests.{lt-ltb, le-ltb, ltb-true, ltb-false}
use Rattle.elements.proofs.ByteLaws.{element_bytes-cases, element_bytes-pos}
use Rattle.layout.specs.declared.CubeLayout.{CubeLayout}
use Rattle.layout.specs.Geometry.{size_of, surfaces, element_position, atom_position}
use Rattle.layout.specs.Owners.{Owner, element, padding, outside, surface_of, row_of, column_of, byte_in_atom, in_atom, atom_owner, owner}
use Rattle.layout.proofs.Valid.{Valid}
use Rattle.layout.proofs.Atoms.{atom-of, atom-owner, atom-inside}

pub data View (q : CubeLayout) (p : ℕ) : Owner → Type 0 where
  is_element : (c h w b : ℕ) → c < q.channels → h < q.height → w < q.width → b < size_of q → p ≡ element_position q c h w + b → View q p (element c h w b)
  padding_is : (s h w k : ℕ) → s < surfaces q → h < q.height → w < q.width → k < 32 → q.channels * size_of q ≤ 32 * s + k → p ≡ atom_position q s h w k → View q p padding
  is_outside : ((s h w k : ℕ) → s < surfaces q → h < q.height → w < q.width → k < 32 → p ≡ atom_position q s h w k → ⊥) → View q p outside

-- two numbers that are digits of one number to the base e, and to the base 32, where e is 1 or 2
module _ (e : ℕ) (size : (e ≡ 1) ⊎ (e ≡ 2)) where
  -- the bytes of channel c stay in one atom
  pub channel-in-atom : (c b : ℕ) → b < e → c * e % 32 + b < 32
  channel-in-atom c b h = ⊎_elim (λ i. omega (arith, ap (λ (x : ℕ). c * x) i)) (λ i. omega (arith, ap (λ (x : ℕ). c * x) i)) size

  pub channel-surface : (c n : ℕ) → c < n → c * e / 32 < (n * e + 31) / 32
  channel-surface c n h =
      let more = mul-le-mul_right {m = suc c} {n = n} e h in
      ⊎_elim (λ i. omega (arith, more, ap (λ (x : ℕ). c * x) i, ap (λ (x : ℕ). n * x) i)) (λ i. omega (arith, more, ap (λ (x : ℕ). c * x) i, ap (λ (x : ℕ). n * x) i)) size

  -- byte b of channel c, counted in atoms
  back-surface : (c b s k : ℕ) → b < e → k < 32 → c * e + b ≡ 32 * s + k → c * e / 32 ≡ s
  back-surface c b s k hb hk i =
      ⊎_elim (λ j. omega (arith, ap (λ (x : ℕ). c * x) j)) (λ j. omega (arith, ap (λ (x : ℕ). c * x) j)) size

  back-byte : (c b s k : ℕ) → b < e → k < 32 → c * e + b ≡ 32 * s + k → c * e % 32 + b ≡ k
  back-byte c b s k hb hk i =
      ⊎_elim (λ j. omega (arith, ap (λ (x : ℕ). c * x) j)) (λ j. omega (arith, ap (λ (x : ℕ). c * x) j)) size

module _ (q : CubeLayout) where
  -- byte b of an element, as a byte of its atom
  pub element-atom : (c h w b : ℕ) → element_position q c h w + b ≡ atom_position q (c * size_of q / 32) h w (c * size_of q % 32 + b)
  unfolding element_position atom_position
  element-atom c h w b = omega arith

  -- the channel and the byte at which the bytes of an atom lie
  channel-owner : (c h w b : ℕ) → c < q.channels → b < size_of q → atom_owner q (c * size_of q / 32) h w (c * size_of q % 32 + b) ≡ element c h w b
  unfolding atom_owner
  channel-owner c h w b hc hb =
      let n : 32 * (c * size_of q / 32) + (c * size_of q % 32 + b) ≡ c * size_of q + b = omega arith in
      let below : c * size_of q + b < q.channels * size_of q = omega (arith, mul-le-mul_right {m = suc c} {n = q.channels} (size_of q) hc) in
      rw (n, lt-ltb (c * size_of q + b) (q.channels * size_of q) below, digits_div c {m = size_of q} {r = b} hb, digits_mod c {m = size_of q} {r = b} hb)

-- the owner of an atom's byte past the last channel
pub padding-owner : (q : CubeLayout) (s h w k : ℕ) → q.channels * size_of q ≤ 32 * s + k → atom_owner q s h w k ≡ padding
unfolding atom_owner
padding-owner q s h w k e = rw (le-ltb (32 * s + k) (q.channels * size_of q) e)

module _ (q : CubeLayout) (ok : Valid q) where
  size-cases : (size_of q ≡ 1) ⊎ (size_of q ≡ 2)
  size-cases = element_bytes-cases q.precision

  pub element-surface : (c : ℕ) → c < q.channels → c * size_of q / 32 < surfaces q
  unfolding surfaces
  element-surface c h = channel-surface (size_of q) size-cases c q.channels h

  pub element-owner : (c h w b : ℕ) → c < q.channels → h < q.height → w < q.width → b < size_of q → owner q (element_position q c h w + b) ≡ element c h w b
  element-owner c h w b hc hh hw hb =
      rw (element-atom q c h w b, atom-owner q ok (c * size_of q / 32) h w (c * size_of q % 32 + b) (element-surface c hc) hh hw (channel-in-atom (size_of q) size-cases c b hb))
      (channel-owner q c h w b hc hb)

  module _ (p : ℕ) where
    see-outside : in_atom q p ≡ false → View q p (owner q p)
    unfolding owner
    see-outside e =
        rw e
        (is_outside λ s h w k hs hh hw hk i.
        let z : true ≡ false = sym (atom-inside q ok s h w k hs hh hw hk) ∙ ap (in_atom q) (sym i) ∙ e in
        let n : ◌≡◌ {A = ℕ} 0 1 = cc in omega arith)

    module _ (s h w k : ℕ) (hs : s < surfaces q) (hh : h < q.height) (hw : w < q.width) (hk : k < 32) (i : p ≡ atom_position q s h w k) where
      see-padding : ltb (32 * s + k) (q.channels * size_of q) ≡ false → View q p (atom_owner q s h w k)
      unfolding atom_owner
      see-padding e = rw e (padding_is s h w k hs hh hw hk (ltb-false (32 * s + k) (q.channels * size_of q) e) i)

      see-element : ltb (32 * s + k) (q.channels * size_of q) ≡ true → View q p (atom_owner q s h w k)
      unfolding atom_owner
      see-element e =
          let n = 32 * s + k in
          let z = size_of q in
          let pos = element_bytes-pos q.precision in
          let lt : n < q.channels * z = ltb-true n (q.channels * z) e in
          let whole : n / z * z + n % z ≡ n = div-add-mod' n z in
          let hb : n % z < z = mod-lt n pos in
          let at : element_position q (n / z) h w + n % z ≡ p =
          element-atom q (n / z) h w (n % z)
          ∙ ap (λ (x : ℕ). atom_position q x h w (n / z * z % 32 + n % z)) (back-surface z size-cases (n / z) (n % z) s k hb hk whole)
          ∙ ap (λ (x : ℕ). atom_position q s h w x) (back-byte z size-cases (n / z) (n % z) s k hb hk whole)
          ∙ sym i in
          rw e (is_element (n / z) h w (n % z) ((div-lt_iff_lt-mul pos).1 lt) hh hw hb (sym at))

      see-atom : (t : Bool) → ltb (32 * s + k) (q.channels * size_of q) ≡ t → View q p (atom_owner q s h w k)
      see-atom true e = see-element e
      see-atom false e = see-padding e

    see-inside : in_atom q p ≡ true → View q p (owner q p)
    unfolding owner
    see-inside e =
        let a = atom-of q ok p e in
        rw e (see-atom (surface_of q p) (row_of q p) (column_of q p) (byte_in_atom q p) a.surface_lt a.row_below a.column_below a.byte_lt a.place (ltb (32 * surface_of q p + byte_in_atom q p) (q.channels * size_of q)) refl)

    pub see : View q p (owner q p)
    see = go (in_atom q p) refl
      where
        go : (t : Bool) → in_atom q p ≡ t → View q p (owner q p)
        go true e = see-inside e
        go false e = see-outside e

  -- a byte outside is no atom's
  pub owner-inside : (p : ℕ) → owner q p ≡ outside → (s h w k : ℕ) → s < surfaces q → h < q.height → w < q.width → k < 32 → p ≡ atom_position q s h w k → ⊥
  unfolding atom_owner
  owner-inside p e s h w k hs hh hw hk i = go (ltb (32 * s + k) (q.channels * size_of q)) (sym (atom-owner q ok s h w k hs hh hw hk) ∙ ap (owner q) (sym i) ∙ e)
    where
      go : (t : Bool) → cond t (element ((32 * s + k) / size_of q) h w ((32 * s + k) % size_of q)) padding ≡ outside → ⊥
      go true z = let n : ◌≡◌ {A = ℕ} 0 1 = cc in omega arith
      go false z = let n : ◌≡◌ {A = ℕ} 0 1 = cc in omega arith
