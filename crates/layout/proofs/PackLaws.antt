-- What an accepted packing, and an accepted writing of a box, come to (Claims.antt): the checks that passed tell the layout's facts and the room, and
-- the laws of `packed` and `edited` do the rest. Assumes nothing.
use Prim.Native.Nat.{ℕ, ◌+◌, ◌%◌, ◌≤◌, ◌<◌}
use native.Mathlib.Omega.{arith}
use mathlib.Core.Path.{◌≡◌, refl, ap, ◌∙◌}
use mathlib.Core.Logic.{◌⊎◌, inl, inr}
use mathlib.Core.List.{List}
use lib.ListN.{length, get_or}
use lib.IntN.{ℤ, pos}
use Rattle.refusal.specs.Checks.{Accepted}
use Rattle.refusal.proofs.CheckLaws.{in_order-front, leaves-done}
use Rattle.elements.specs.Bytes.{byte_of}
use Rattle.elements.specs.Values.{SixteenBit, value_checks}
use Rattle.layout.specs.declared.CubeLayout.{CubeLayout}
use Rattle.layout.specs.declared.ElementBox.{ElementBox}
use Rattle.layout.specs.Geometry.{size_of, raw_index, element_position, atom_position}
use Rattle.layout.specs.Boxes.{whole_box, box_index}
use Rattle.layout.specs.Owners.{Owner, owner}
use Rattle.layout.specs.Places.{InCube, InBox, ElementByte, AtomByte, PaddingByte, Outside_box}
use Rattle.layout.specs.Rules.{cube_checks}
use Rattle.layout.specs.Contents.{packed, edited, unpacked}
use Rattle.layout.specs.Calls.{pack_answer, pack_buffer, unpack_answer, unpack_elements, write_box_answer, write_box_buffer}
use Rattle.layout.proofs.Valid.{Valid}
use Rattle.layout.proofs.Views.{View, is_element, padding_is, is_outside, see, owner-inside}
use Rattle.layout.proofs.Formulas.{element-own as own}
use Rattle.layout.proofs.BoxLaws.{in_cube}
use Rattle.layout.proofs.ContentLaws.{packed-length, edited-element, edited-kept}
use Rattle.layout.proofs.Extents.{element-within, element-aligned as aligned}
use Rattle.layout.proofs.CallLaws.{Admitted, admitted, pack-admitted, write-admitted}
use Rattle.layout.proofs.Formulas.{packing-writes, packing-zeroes, packing-keeps}
use Rattle.layout.proofs.RoundTrip as round_trip

module _ (q : CubeLayout) (raw : List ℤ) (before : List ℕ) (accepted : pack_answer q raw (length before) ≡ Accepted) where
  adm : Admitted q (whole_box q) (length raw) (length before)
  adm = pack-admitted q raw (length before) accepted

  ok : Valid q
  ok = adm.layout

  -- what packing leaves
  left : pack_buffer q raw before ≡ packed q raw before
  unfolding pack_buffer
  left = leaves-done (packed q raw before) before accepted

  at : (p n : ℕ) → get_or (packed q raw before) p 0 ≡ n → get_or (pack_buffer q raw before) p 0 ≡ n
  at p n e = ap (λ (l : List ℕ). get_or l p 0) left ∙ e

  pub element-own : (c h w b c' h' w' b' : ℕ) → InCube q c h w → InCube q c' h' w' → b < size_of q → b' < size_of q
      → element_position q c h w + b ≡ element_position q c' h' w' + b' → (c ≡ c') × (h ≡ h') × (w ≡ w') × (b ≡ b')
  element-own = own q ok

  pub element-aligned : (c h w : ℕ) → element_position q c h w % size_of q ≡ 0
  element-aligned = aligned q ok

  pub element-inside : (c h w : ℕ) → InCube q c h w → element_position q c h w + size_of q ≤ length before
  element-inside c h w i = omega (arith, adm.room, element-within q ok c h w i.channel_lt i.row_lt i.column_lt)

  pub element-written : (c h w b : ℕ) → InCube q c h w → b < size_of q
      → get_or (pack_buffer q raw before) (element_position q c h w + b) 0 ≡ byte_of (get_or raw (raw_index q c h w) (pos 0)) b
  element-written c h w b i hb =
      at (element_position q c h w + b) (byte_of (get_or raw (raw_index q c h w) (pos 0)) b) (packing-writes q ok raw before adm.room c h w b i hb)

  pub padding-zero : (p : ℕ) → PaddingByte q p → get_or (pack_buffer q raw before) p 0 ≡ 0
  padding-zero p b = at p 0 (packing-zeroes q ok raw before adm.room p b)

  pub other-kept : (p : ℕ) → (AtomByte q p → ⊥) → get_or (pack_buffer q raw before) p 0 ≡ get_or before p 0
  other-kept p f = at p (get_or before p 0) (packing-keeps q ok raw before adm.room p f)

  kind : (p : ℕ) {o : Owner} → owner q p ≡ o → View q p o → ElementByte q p ⊎ (PaddingByte q p ⊎ (AtomByte q p → ⊥))
  kind p e (is_element c h w b hc hh hw hb i) =
      inl (record { c = c; h = h; w = w; b = b; in_cube = record { channel_lt = hc; row_lt = hh; column_lt = hw }; byte_lt = hb; place = i })
  kind p e (padding_is s h w k hs hh hw hk past i) =
      inr (inl (record { atom = record { s = s; h = h; w = w; k = k; surface_lt = hs; row_lt = hh; column_lt = hw; byte_lt = hk; place = unfold atom_position in i }; past = past }))
  kind p e (is_outside none) =
      inr (inr (λ a. owner-inside q ok p e a.s a.h a.w a.k a.surface_lt a.row_lt a.column_lt a.byte_lt (unfold atom_position in a.place)))

  pub no-fourth : (p : ℕ) → ElementByte q p ⊎ (PaddingByte q p ⊎ (AtomByte q p → ⊥))
  no-fourth p = kind p refl (see q ok p)

  pub length-kept : length (pack_buffer q raw before) ≡ length before
  length-kept = ap length left ∙ packed-length q raw before

  -- unpacking is checked as packing was, without 7 and 26
  unpacks : (cells : List ℤ) → length cells ≡ length raw → unpack_answer q (length cells) (length (pack_buffer q raw before)) ≡ Accepted
  unfolding pack_answer unpack_answer
  unpacks cells e =
      rw (e, length-kept) (in_order-front (cube_checks q (length raw) (length before)) (value_checks q.precision raw) accepted)

  pub read_back : SixteenBit raw → (cells : List ℤ) → length cells ≡ length raw
      → (unpack_answer q (length cells) (length (pack_buffer q raw before)) ≡ Accepted) × (unpack_elements q (pack_buffer q raw before) cells ≡ raw)
  unfolding unpack_elements
  read_back sixteen cells e =
      (unpacks cells e, leaves-done (unpacked q (pack_buffer q raw before)) cells (unpacks cells e) ∙ ap (unpacked q) left ∙ round_trip.read_back q raw before sixteen.each accepted)

module _ (q : CubeLayout) (box : ElementBox) (xs : List ℤ) (before : List ℕ) (accepted : write_box_answer q box xs (length before) ≡ Accepted) where
  box-adm : Admitted q box (length xs) (length before)
  box-adm = admitted q box (length xs) (length before) (write-admitted q box xs (length before) accepted)

  box-at : (p n : ℕ) → get_or (edited q box xs before) p 0 ≡ n → get_or (write_box_buffer q box xs before) p 0 ≡ n
  unfolding write_box_buffer
  box-at p n e = ap (λ (l : List ℕ). get_or l p 0) (leaves-done (edited q box xs before) before accepted) ∙ e

  pub box-written : (c h w b : ℕ) → InBox box c h w → b < size_of q
      → get_or (write_box_buffer q box xs before) (element_position q c h w + b) 0 ≡ byte_of (get_or xs (box_index box c h w) (pos 0)) b
  box-written c h w b i hb =
      let cube = in_cube q box c h w box-adm.inside i in
      box-at (element_position q c h w + b) (byte_of (get_or xs (box_index box c h w) (pos 0)) b)
      (edited-element q box xs before box-adm.layout c h w b cube i hb (omega (arith, box-adm.room, element-within q box-adm.layout c h w cube.channel_lt cube.row_lt cube.column_lt)))

  pub box-others-kept : (p : ℕ) → Outside_box q box p → get_or (write_box_buffer q box xs before) p 0 ≡ get_or before p 0
  box-others-kept p f = box-at p (get_or before p 0) (edited-kept q box xs before box-adm.layout p f)
