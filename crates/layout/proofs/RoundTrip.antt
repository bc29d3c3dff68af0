-- What is packed is read back: each element is made of the bytes that packing left at its position. Assumes nothing.
--     stored-raw     an element of a packed tensor
--     packed-fits    the elements of an accepted packing fit their bytes
--     read-back      unpacking what was packed
use Prim.Native.Nat.{ℕ, ◌+◌, ◌/◌, ◌^◌, ◌≤◌, ◌<◌}
use mathlib.Core.Path.{◌≡◌, sym, ap, ◌∙◌, subst}
use mathlib.Core.List.{List}
use lib.ListN.{length, get_or}
use lib.Seq.{ext_get_or}
use lib.IntN.{ℤ, pos}
use lib.Signed.{mag}
use Rattle.refusal.specs.Checks.{Accepted}
use Rattle.elements.proofs.ByteLaws.{element_at-byte_of}
use Rattle.elements.proofs.TabulateLaws.{length-tabulate, get_d_tabulate}
use Rattle.elements.proofs.ElementLaws.{value_valid-fits}
use Rattle.elements.proofs.ValueLaws.{value_checks-valid}
use Rattle.layout.specs.declared.CubeLayout.{CubeLayout}
use Rattle.layout.specs.Geometry.{size_of, raw_index, element_position, cube_extent}
use Rattle.layout.specs.Boxes.{whole_box, box_count, channel_at, row_at, column_at}
use Rattle.layout.specs.Contents.{packed, read_element, box_elements, unpacked}
use Rattle.layout.specs.Calls.{pack_answer}
use Rattle.layout.proofs.Valid.{Valid}
use Rattle.layout.proofs.BoxLaws.{InCube, in_cube, at_in, box_index-at, whole-index, whole-valid}
use Rattle.layout.proofs.Formulas.{packing-writes}
use Rattle.layout.proofs.CallLaws.{Admitted, pack-admitted, pack-values}

-- an element of a packed tensor, where it fits its bytes
pub stored-raw : (q : CubeLayout) → Valid q → (raw : List ℤ) (before : List ℕ) → q.start + cube_extent q ≤ length before → (c h w : ℕ) → InCube q c h w
    → mag (get_or raw (raw_index q c h w) (pos 0)) < 256 ^ size_of q / 2 → read_element q (packed q raw before) c h w ≡ get_or raw (raw_index q c h w) (pos 0)
unfolding read_element
stored-raw q ok raw before room c h w i fits =
    element_at-byte_of (size_of q) (get_or raw (raw_index q c h w) (pos 0)) (packed q raw before) (element_position q c h w) fits (λ b hb. packing-writes q ok raw before room c h w b i hb)

-- the elements of an accepted packing fit their bytes
pub packed-fits : (q : CubeLayout) (raw : List ℤ) (len : ℕ) → ((i : ℕ) → mag (get_or raw i (pos 0)) < 32768) → pack_answer q raw len ≡ Accepted
    → (i : ℕ) → i < length raw → mag (get_or raw i (pos 0)) < 256 ^ size_of q / 2
packed-fits q raw len sixteen accepted i hi =
    value_valid-fits q.precision (get_or raw i (pos 0)) (value_checks-valid q.precision raw (pack-values q raw len accepted) i hi) (sixteen i)

module _ (q : CubeLayout) (raw : List ℤ) (before : List ℕ) (sixteen : (i : ℕ) → mag (get_or raw i (pos 0)) < 32768) (accepted : pack_answer q raw (length before) ≡ Accepted) where
  adm : Admitted q (whole_box q) (length raw) (length before)
  adm = pack-admitted q raw (length before) accepted

  stored_back : (c h w : ℕ) → InCube q c h w → raw_index q c h w < length raw → read_element q (packed q raw before) c h w ≡ get_or raw (raw_index q c h w) (pos 0)
  stored_back c h w i hi = stored-raw q adm.layout raw before adm.room c h w i (packed-fits q raw (length before) sixteen accepted (raw_index q c h w) hi)

  pub read_back : unpacked q (packed q raw before) ≡ raw
  unfolding unpacked box_elements
  read_back =
      let b = whole_box q in
      let f : ℕ → ℤ = λ (i : ℕ). read_element q (packed q raw before) (channel_at b i) (row_at b i) (column_at b i) in
      let long : length (unpacked q (packed q raw before)) ≡ box_count b = length-tabulate f (box_count b) in
      ext_get_or (pos 0) (unpacked q (packed q raw before)) raw (long ∙ sym adm.count)
      (λ i h.
      let hi : i < box_count b = subst (λ (n : ℕ). i < n) long h in
      let t = whole-valid q adm.layout in
      let in-box = at_in b i hi t.rows.some t.columns.some in
      let cube = in_cube q b (channel_at b i) (row_at b i) (column_at b i) t in-box in
      let index : raw_index q (channel_at b i) (row_at b i) (column_at b i) ≡ i = sym (whole-index q (channel_at b i) (row_at b i) (column_at b i)) ∙ box_index-at b i hi t.rows.some t.columns.some in
      get_d_tabulate f (box_count b) i (pos 0) hi
      ∙ stored_back (channel_at b i) (row_at b i) (column_at b i) cube (subst (λ (n : ℕ). n < length raw) (sym index) (subst (λ (n : ℕ). i < n) (sym adm.count) hi))
      ∙ ap (λ (n : ℕ). get_or raw n (pos 0)) index)
