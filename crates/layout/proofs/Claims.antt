-- The claims about packed cubes, of the calls themselves (demand 2; scope paper, "Cells and cubes"). Packing, or writing a box, was accepted. Then
-- each element has its own aligned place inside the buffer; packing writes the elements' bytes, makes the padding 0 and keeps every other byte, and
-- there is no fourth kind; unpacking what packing left is accepted and fills the caller's elements with the raw tensor; writing a box puts
-- each element's bytes at the paper's position and keeps every other byte. The words are those of specs/Places.antt. Once over the element size. Assumes nothing.
use Prim.Native.Nat.{ℕ, ◌+◌, ◌%◌, ◌≤◌, ◌<◌}
use mathlib.Core.Path.{◌≡◌}
use mathlib.Core.Logic.{◌⊎◌}
use mathlib.Core.List.{List}
use lib.ListN.{length, get_or}
use lib.IntN.{ℤ, pos}
use Rattle.refusal.specs.Checks.{Accepted}
use Rattle.elements.specs.Bytes.{byte_of}
use Rattle.elements.specs.Values.{SixteenBit}
use Rattle.layout.specs.declared.CubeLayout.{CubeLayout}
use Rattle.layout.specs.declared.ElementBox.{ElementBox}
use Rattle.layout.specs.Geometry.{size_of, raw_index, element_position}
use Rattle.layout.specs.Boxes.{box_index}
use Rattle.layout.specs.Places.{InCube, InBox, ElementByte, AtomByte, PaddingByte, Outside_box}
use Rattle.layout.specs.Calls.{pack_answer, pack_buffer, unpack_answer, unpack_elements, write_box_answer, write_box_buffer}
use Rattle.layout.proofs.PackLaws as pack

module _ (q : CubeLayout) (raw : List ℤ) (before : List ℕ) (accepted : pack_answer q raw (length before) ≡ Accepted) where
  pub element-own : (c h w b c' h' w' b' : ℕ) → InCube q c h w → InCube q c' h' w' → b < size_of q → b' < size_of q
      → element_position q c h w + b ≡ element_position q c' h' w' + b' → (c ≡ c') × (h ≡ h') × (w ≡ w') × (b ≡ b')
  element-own = pack.element-own q raw before accepted

  pub element-aligned : (c h w : ℕ) → element_position q c h w % size_of q ≡ 0
  element-aligned = pack.element-aligned q raw before accepted

  pub element-inside : (c h w : ℕ) → InCube q c h w → element_position q c h w + size_of q ≤ length before
  element-inside = pack.element-inside q raw before accepted

  pub element-written : (c h w b : ℕ) → InCube q c h w → b < size_of q
      → get_or (pack_buffer q raw before) (element_position q c h w + b) 0 ≡ byte_of (get_or raw (raw_index q c h w) (pos 0)) b
  element-written = pack.element-written q raw before accepted

  pub padding-zero : (p : ℕ) → PaddingByte q p → get_or (pack_buffer q raw before) p 0 ≡ 0
  padding-zero = pack.padding-zero q raw before accepted

  pub other-kept : (p : ℕ) → (AtomByte q p → ⊥) → get_or (pack_buffer q raw before) p 0 ≡ get_or before p 0
  other-kept = pack.other-kept q raw before accepted

  pub no-fourth : (p : ℕ) → ElementByte q p ⊎ (PaddingByte q p ⊎ (AtomByte q p → ⊥))
  no-fourth = pack.no-fourth q raw before accepted

  pub length-kept : length (pack_buffer q raw before) ≡ length before
  length-kept = pack.length-kept q raw before accepted

  pub read_back : SixteenBit raw → (cells : List ℤ) → length cells ≡ length raw
      → (unpack_answer q (length cells) (length (pack_buffer q raw before)) ≡ Accepted) × (unpack_elements q (pack_buffer q raw before) cells ≡ raw)
  read_back = pack.read_back q raw before accepted

module _ (q : CubeLayout) (box : ElementBox) (xs : List ℤ) (before : List ℕ) (accepted : write_box_answer q box xs (length before) ≡ Accepted) where
  pub box-written : (c h w b : ℕ) → InBox box c h w → b < size_of q
      → get_or (write_box_buffer q box xs before) (element_position q c h w + b) 0 ≡ byte_of (get_or xs (box_index box c h w) (pos 0)) b
  box-written = pack.box-written q box xs before accepted

  pub box-others-kept : (p : ℕ) → Outside_box q box p → get_or (write_box_buffer q box xs before) p 0 ≡ get_or before p 0
  box-others-kept = pack.box-others-kept q box xs before accepted
