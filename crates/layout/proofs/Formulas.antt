-- The converse of the paper's formula: a byte lies in an atom, and is padding, exactly where the formula puts it; packing by that formula.
-- By cases on the byte's owner. Assumes nothing.
--     element-own                           a byte is one element's
--     atom-exactly, padding-exactly         the owner is such a byte's exactly there
--     packing-writes, packing-zeroes, packing-keeps     a byte after packing
use Prim.Native.Nat.{ℕ, suc, ◌+◌, ◌*◌, ◌/◌, ◌%◌, ◌≤◌, ◌<◌}
use native.Mathlib.Omega.{arith}
use mathlib.Core.Path.{◌≡◌, refl, sym, ap, ◌∙◌}
use mathlib.Core.Logic.{◌↔◌}
use mathlib.Core.List.{List}
use lib.ListN.{length, get_or}
use lib.IntN.{ℤ, pos}
use Rattle.elements.specs.Bytes.{byte_of}
use Rattle.elements.proofs.ByteLaws.{element_bytes-cases}
use Rattle.layout.specs.declared.CubeLayout.{CubeLayout}
use Rattle.layout.specs.Geometry.{size_of, raw_index, element_position, atom_position, cube_extent}
use Rattle.layout.specs.Owners.{Owner, element, padding, outside, owner}
use Rattle.layout.specs.Contents.{packed}
use Rattle.layout.proofs.Valid.{Valid}
use Rattle.layout.proofs.Atoms.{atom-owner}
use Rattle.layout.proofs.Views.{View, is_element, padding_is, is_outside, see, element-owner, element-atom, element-surface, channel-in-atom, padding-owner, owner-inside}
use Rattle.layout.proofs.BoxLaws.{InCube}
use Rattle.layout.proofs.ContentLaws.{packed-element, packed-padding, packed-outside}
use Rattle.layout.proofs.Extents.{element-within, atom-within}
pub use Rattle.layout.specs.Places.{AtomByte, PaddingByte}

module _ (q : CubeLayout) (ok : Valid q) where
  -- a byte is one element's, and one byte of it
  pub element-own : (c h w b c' h' w' b' : ℕ) → InCube q c h w → InCube q c' h' w' → b < size_of q → b' < size_of q
      → element_position q c h w + b ≡ element_position q c' h' w' + b' → (c ≡ c') × (h ≡ h') × (w ≡ w') × (b ≡ b')
  element-own c h w b c' h' w' b' i i' hb hb' e =
      let o = element-owner q ok c h w b i.channel_lt i.row_lt i.column_lt hb in
      let o' = element-owner q ok c' h' w' b' i'.channel_lt i'.row_lt i'.column_lt hb' in
      let same : element c h w b ≡ element c' h' w' b' = sym o ∙ ap (owner q) e ∙ o' in
      ((cc), (cc), (cc), (cc))

  -- ---- the converse: a byte lies in an atom, or is padding, exactly where the formula says

  pub atom-exactly : (p : ℕ) → (owner q p ≡ outside → ⊥) ↔ AtomByte q p
  unfolding atom_position
  atom-exactly p = (λ f. from (see q ok p) f, λ a e. to a e)
    where
      from : {o : Owner} → View q p o → (o ≡ outside → ⊥) → AtomByte q p
      from (is_element c h w b hc hh hw hb i) f =
          record {
            s = c * size_of q / 32;
            h = h;
            w = w;
            k = c * size_of q % 32 + b;
            surface_lt = element-surface q ok c hc;
            row_lt = hh;
            column_lt = hw;
            byte_lt = channel-in-atom (size_of q) (element_bytes-cases q.precision) c b hb;
            place = i ∙ element-atom q c h w b;
          }
      from (padding_is s h w k hs hh hw hk past i) f = record { s = s; h = h; w = w; k = k; surface_lt = hs; row_lt = hh; column_lt = hw; byte_lt = hk; place = i }
      from (is_outside none) f = absurd (f refl)

      to : AtomByte q p → owner q p ≡ outside → ⊥
      to a e = owner-inside q ok p e a.s a.h a.w a.k a.surface_lt a.row_lt a.column_lt a.byte_lt a.place

  pub padding-exactly : (p : ℕ) → (owner q p ≡ padding) ↔ PaddingByte q p
  unfolding atom_position
  padding-exactly p = (λ e. from e (see q ok p), to)
    where
      from : {o : Owner} → o ≡ padding → View q p o → PaddingByte q p
      from e (is_element c h w b hc hh hw hb i) = absurd (let z : ◌≡◌ {A = ℕ} 0 1 = cc in omega arith)
      from e (padding_is s h w k hs hh hw hk past i) =
          record { atom = record { s = s; h = h; w = w; k = k; surface_lt = hs; row_lt = hh; column_lt = hw; byte_lt = hk; place = i }; past = past }
      from e (is_outside none) = absurd (let z : ◌≡◌ {A = ℕ} 0 1 = cc in omega arith)

      to : PaddingByte q p → owner q p ≡ padding
      to b = let a = b.atom in ap (owner q) a.place ∙ atom-owner q ok a.s a.h a.w a.k a.surface_lt a.row_lt a.column_lt a.byte_lt ∙ padding-owner q a.s a.h a.w a.k b.past

  -- ---- packing

  module _ (raw : List ℤ) (before : List ℕ) (room : q.start + cube_extent q ≤ length before) where
    pub packing-writes : (c h w b : ℕ) → InCube q c h w → b < size_of q
        → get_or (packed q raw before) (element_position q c h w + b) 0 ≡ byte_of (get_or raw (raw_index q c h w) (pos 0)) b
    packing-writes c h w b i hb =
        packed-element q raw before (element_position q c h w + b) c h w b (omega (arith, room, element-within q ok c h w i.channel_lt i.row_lt i.column_lt)) (element-owner q ok c h w b i.channel_lt i.row_lt i.column_lt hb)

    pub packing-zeroes : (p : ℕ) → PaddingByte q p → get_or (packed q raw before) p 0 ≡ 0
    unfolding atom_position
    packing-zeroes p b =
        let a = b.atom in
        let end = atom-within q ok a.s a.h a.w (suc a.k) a.surface_lt a.row_lt a.column_lt a.byte_lt in
        packed-padding q raw before p (omega (arith, room, end, a.place)) ((padding-exactly p).1 b)

    pub packing-keeps : (p : ℕ) → (AtomByte q p → ⊥) → get_or (packed q raw before) p 0 ≡ get_or before p 0
    packing-keeps p f = packed-outside q raw before p (is-out (see q ok p) f)
      where
        is-out : {o : Owner} → View q p o → (AtomByte q p → ⊥) → o ≡ outside
        is-out (is_element c h w b hc hh hw hb i) f =
            let o = element-owner q ok c h w b hc hh hw hb in
            absurd
            (f ((atom-exactly p).0 (λ e. let z : element c h w b ≡ outside = sym o ∙ ap (owner q) (sym i) ∙ e in let n : ◌≡◌ {A = ℕ} 0 1 = cc in omega arith)))
        is-out (padding_is s h w k hs hh hw hk past i) f = absurd (f (record { s = s; h = h; w = w; k = k; surface_lt = hs; row_lt = hh; column_lt = hw; byte_lt = hk; place = unfold atom_position in i }))
        is-out (is_outside none) f = refl
