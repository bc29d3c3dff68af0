-- The paper's frame, computed (scope paper, "Worked on squared paper"); whose some bytes are; and of two faults at once the earlier in the order
-- is told ("Refusal numbers": "Orders"). Assumes nothing.
use Prim.Native.Nat.{ℕ}
use mathlib.Core.Path.{◌≡◌, refl}
use mathlib.Core.Bool.{true, false}
use mathlib.Core.List.{List, [], ◌∷◌, ◌++◌, map}
use lib.IntN.{pos, negsuc}
use lib.ListN.{replicate}
use Rattle.refusal.specs.declared.Refusal.TheVariants.{CubeStart, Int8Range, Fp16Nan}
use Rattle.refusal.specs.Codes.{answer_code, answer_of}
use Rattle.std.specs.Prelude.{Ok, Err}
use Rattle.refusal.specs.Checks.{require_at, in_order, leaves, given, Refused, refused_at}
use Rattle.refusal.specs.Sizes.{size_valid}
use Rattle.elements.specs.Bytes.{element_bytes, byte_of, word_at, signed, element_at}
use Rattle.elements.specs.Lists.{tabulate_from, tabulate}
use Rattle.elements.specs.Values.{is_nan, value_check, value_checks_from, value_checks}
use Rattle.layout.specs.declared.CubeLayout.{CubeLayout}
use Rattle.layout.specs.declared.ElementBox.{ElementBox}
use Rattle.layout.specs.declared.ByteOwner.TheVariants.{Element, Padding, Gap, Outside}
use Rattle.layout.specs.Geometry.{layout_of, element_count, raw_index, surfaces, element_position, cube_extent}
use Rattle.layout.specs.Boxes.{one_element, box_count, span_inside, box_inside, span_has, box_has, box_index, channel_at, row_at, column_at}
use Rattle.layout.specs.Owners.{element, padding, outside, surface_of, row_of, column_of, byte_in_atom, in_atom, atom_owner, owner}
use Rattle.layout.specs.Rules.{sizes_valid, whole_atoms, strides_valid, layout_checks, box_checks, storage_checks, cube_checks, admit_checks}
use Rattle.layout.specs.Contents.{packed_byte, edited_byte, read_element, box_elements, unpacked}
use Rattle.layout.specs.Whose.{in_extent, byte_owner, whose_answer}
use Rattle.layout.specs.Calls.{pack_answer, unpack_answer, unpack_elements, write_box_answer, clear_box_answer, read_box_answer, read_box_elements, extent_quantity, position_quantity}

abbrev frame : CubeLayout
frame = layout_of 3 2 40 0 128 256 0

-- one element, of a precision, with a start
abbrev single : ℕ → ℕ → CubeLayout
single precision start = layout_of 1 1 1 precision 32 32 start

-- channel 1, row 1, columns 0 and 1 of a cube
abbrev pair : ElementBox
pair = record { channel = 1; row = 1; column = 0; channels = 1; rows = 1; columns = 2 }

abbrev answer : CubeLayout → ℕ
answer q = answer_code (in_order (layout_checks q))

-- two faults at once: 1 and 2, 2 and 3, 3 and 4; then a start that is refused, and the frame: each with the fault that follows in a call's order
abbrev wrong : List CubeLayout
wrong = layout_of 0 2 40 3 128 256 0 ∷ layout_of 3 2 40 3 0 256 0 ∷ layout_of 3 2 40 0 0 256 16 ∷ layout_of 3 2 40 0 128 256 16 ∷ frame ∷ []

-- an element past the last channel
abbrev past-channels : ElementBox
past-channels = one_element 40 0 0

pub record Computed : Type 0 where
  pub position : element_position frame 33 1 2 ≡ 449
  pub extent : cube_extent frame ≡ 480
  pub raw : raw_index frame 1 0 2 ≡ 8
  pub one_surface : surfaces (layout_of 1 1 16 1 32 32 0) ≡ 1
  pub two_surfaces : surfaces (layout_of 1 1 17 1 32 32 0) ≡ 2
  -- whose: an element's byte; padding past channel 40; the gap behind a line's last atom; behind the last atom
  pub own : owner frame 449 ≡ element 33 1 2 0
  pub pad : owner frame 264 ≡ padding
  pub gap : owner frame 96 ≡ outside
  pub behind : owner frame 480 ≡ outside
  -- packing: −2 is FE, padding 0, a gap stays; writing a box: its second element, another element and padding stay
  pub packs : packed_byte frame (replicate 11 (pos 0) ++ negsuc 1 ∷ []) (element 1 1 2 0) 7 ≡ 254
  pub clears : packed_byte frame [] padding 7 ≡ 0
  pub leaves_gap : packed_byte frame [] outside 7 ≡ 7
  pub writes : edited_byte pair (pos 5 ∷ pos 6 ∷ []) (element 1 1 1 0) 7 ≡ 6
  pub leaves_other : edited_byte pair (pos 5 ∷ pos 6 ∷ []) (element 1 1 2 0) 7 ≡ 7
  pub leaves_padding : edited_byte pair (pos 5 ∷ pos 6 ∷ []) padding 7 ≡ 7
  -- 3: surface 224 is valid, 192 is not; a line that lacks an atom; also with one row; strides that are no multiples of 32. 4: a start of 16. 2: precision 3. 1
  pub strides : map answer (layout_of 3 2 40 0 128 224 0 ∷ layout_of 3 2 40 0 128 192 0 ∷ layout_of 3 2 40 0 64 256 0 ∷ layout_of 3 1 40 0 64 256 0 ∷ layout_of 3 2 40 0 112 256 0 ∷ layout_of 3 2 40 0 128 240 0 ∷ [])
      ≡ 0 ∷ 3 ∷ 3 ∷ 3 ∷ 3 ∷ 3 ∷ []
  pub others : map answer (layout_of 3 2 40 0 128 256 16 ∷ layout_of 3 2 40 3 128 256 0 ∷ layout_of 3 2 8193 0 128 256 0 ∷ layout_of 3 0 40 0 128 256 0 ∷ []) ≡ 4 ∷ 2 ∷ 1 ∷ 1 ∷ []
  -- two at once, up to 3 and 4; for an element's position also 4 and 9
  pub double : map answer wrong ≡ 1 ∷ 2 ∷ 3 ∷ 4 ∷ 0 ∷ []
  pub extent_double : map (λ (q : CubeLayout). answer_code (answer_of (extent_quantity q))) wrong ≡ 1 ∷ 2 ∷ 3 ∷ 4 ∷ 0 ∷ []
  pub position_double : map (λ (q : CubeLayout). answer_code (answer_of (position_quantity q 40 0 0))) wrong ≡ 1 ∷ 2 ∷ 3 ∷ 4 ∷ 9 ∷ []
  -- 9: a box that ends with the cube is valid, one column past it is not, nor one of no rows
  pub inside : box_inside frame (record { channel = 39; row = 1; column = 1; channels = 1; rows = 1; columns = 2 }) ≡ true
  pub past : box_inside frame (record { channel = 39; row = 1; column = 1; channels = 1; rows = 1; columns = 3 }) ≡ false
  pub empty : box_inside frame (record { channel = 39; row = 1; column = 1; channels = 1; rows = 0; columns = 2 }) ≡ false
  -- packing, two at once, also 4 and 6, 6 and 5, 5 and 7; 7 alone; a buffer of the extent is valid
  pub pack_double : map (λ (q : CubeLayout). answer_code (pack_answer q [] 0)) wrong ≡ 1 ∷ 2 ∷ 3 ∷ 4 ∷ 6 ∷ []
  pub room_first : answer_code (pack_answer (single 0 0) (pos 200 ∷ []) 31) ≡ 5
  pub value : pack_answer (single 0 0) (pos 200 ∷ []) 32 ≡ Refused Int8Range 0
  pub exact : answer_code (pack_answer (single 0 0) (pos 100 ∷ []) 32) ≡ 0
  pub start_counts : answer_code (pack_answer (single 0 32) (pos 100 ∷ []) 32) ≡ 5
  -- fp16: 6 and 26, 5 and 26; 26 alone, at the least index: -infinity (-1024) is taken, 31745 and -1 are NaN; int16 takes both
  pub nan_count_first : answer_code (pack_answer (single 2 0) (negsuc 0 ∷ negsuc 0 ∷ []) 32) ≡ 6
  pub nan_room_first : answer_code (pack_answer (single 2 0) (negsuc 0 ∷ []) 31) ≡ 5
  pub nan : pack_answer (layout_of 3 1 1 2 96 96 0) (negsuc 1023 ∷ pos 31745 ∷ negsuc 0 ∷ []) 96 ≡ Refused Fp16Nan 1
  pub infinities : answer_code (pack_answer (layout_of 2 1 1 2 64 64 0) (pos 31744 ∷ negsuc 1023 ∷ []) 64) ≡ 0
  pub int16_taken : answer_code (pack_answer (layout_of 2 1 1 1 64 64 0) (pos 31745 ∷ negsuc 0 ∷ []) 64) ≡ 0
  -- unpacking, two at once, also 4 and 6, 6 and 5
  pub unpack_double : map (λ (q : CubeLayout). answer_code (unpack_answer q 0 0)) wrong ≡ 1 ∷ 2 ∷ 3 ∷ 4 ∷ 6 ∷ []
  -- writing a box, two at once, also 4 and 9, 9 and 6; 6 and 5; 5 and 7; 5 and 26; 26 alone, at the caller's index
  pub write_double : map (λ (q : CubeLayout). answer_code (write_box_answer q past-channels [] 0)) wrong ≡ 1 ∷ 2 ∷ 3 ∷ 4 ∷ 9 ∷ []
  pub write_count_first : answer_code (write_box_answer (single 0 0) (one_element 0 0 0) [] 31) ≡ 6
  pub write_room_first : answer_code (write_box_answer (single 0 0) (one_element 0 0 0) (pos 200 ∷ []) 31) ≡ 5
  pub write_nan_room_first : answer_code (write_box_answer (single 2 0) (one_element 0 0 0) (negsuc 0 ∷ []) 31) ≡ 5
  pub write_nan : write_box_answer (layout_of 3 2 2 2 96 192 0) pair (negsuc 1023 ∷ pos 32767 ∷ []) 192 ≡ Refused Fp16Nan 1
  -- clearing a box the same, without 6, 7 and 26: also 9 and 5; a buffer of the extent is valid
  pub clear_double : map (λ (q : CubeLayout). answer_code (clear_box_answer q past-channels 0)) wrong ≡ 1 ∷ 2 ∷ 3 ∷ 4 ∷ 9 ∷ []
  pub clear_short : answer_code (clear_box_answer (single 0 0) (one_element 0 0 0) 31) ≡ 5
  pub clear_exact : answer_code (clear_box_answer (single 0 0) (one_element 0 0 0) 32) ≡ 0
  -- reading a box the same as writing, without 7 and 26
  pub read_double : map (λ (q : CubeLayout). answer_code (read_box_answer q past-channels 0 0)) wrong ≡ 1 ∷ 2 ∷ 3 ∷ 4 ∷ 9 ∷ []
  pub read_count_first : answer_code (read_box_answer (single 0 0) (one_element 0 0 0) 0 31) ≡ 6
  pub read_room : answer_code (read_box_answer (single 0 0) (one_element 0 0 0) 1 31) ≡ 5
  -- NaN in a buffer is unpacked and read; what the lent element was does not count
  pub unpack_nan : unpack_elements (single 2 0) (1 ∷ 124 ∷ replicate 30 0) (negsuc 0 ∷ []) ≡ pos 31745 ∷ []
  pub read_nan : read_box_elements (single 2 0) (one_element 0 0 0) (255 ∷ 255 ∷ replicate 30 0) (pos 32767 ∷ []) ≡ negsuc 0 ∷ []

pub computed : Computed
unfolding require_at in_order leaves tabulate_from tabulate size_valid element_bytes byte_of word_at signed element_at is_nan value_check value_checks_from value_checks element_count raw_index surfaces element_position cube_extent box_count span_inside box_inside span_has box_has box_index channel_at row_at column_at surface_of row_of column_of byte_in_atom in_atom atom_owner owner sizes_valid whole_atoms strides_valid layout_checks box_checks storage_checks cube_checks admit_checks packed_byte edited_byte read_element box_elements unpacked pack_answer unpack_answer unpack_elements write_box_answer clear_box_answer read_box_answer read_box_elements given extent_quantity position_quantity
computed =
    record {
      position = refl;
      extent = refl;
      raw = refl;
      one_surface = refl;
      two_surfaces = refl;
      own = refl;
      pad = refl;
      gap = refl;
      behind = refl;
      packs = refl;
      clears = refl;
      leaves_gap = refl;
      writes = refl;
      leaves_other = refl;
      leaves_padding = refl;
      strides = refl;
      others = refl;
      double = refl;
      extent_double = refl;
      position_double = refl;
      inside = refl;
      past = refl;
      empty = refl;
      pack_double = refl;
      room_first = refl;
      value = refl;
      exact = refl;
      start_counts = refl;
      nan_count_first = refl;
      nan_room_first = refl;
      nan = refl;
      infinities = refl;
      int16_taken = refl;
      unpack_double = refl;
      write_double = refl;
      write_count_first = refl;
      write_room_first = refl;
      write_nan_room_first = refl;
      write_nan = refl;
      clear_double = refl;
      clear_short = refl;
      clear_exact = refl;
      read_double = refl;
      read_count_first = refl;
      read_room = refl;
      unpack_nan = refl;
      read_nan = refl;
    }

-- whose a byte is, as it is answered
pub record Answered : Type 0 where
  -- the paper's element; padding past channel 40; behind a line's last atom, and behind the last line's in its surface; the last atom's last byte, and the next
  pub own : whose_answer frame 449 ≡ Ok (Element 33 1 2 0)
  pub pad : whose_answer frame 264 ≡ Ok Padding
  pub between_lines : whose_answer frame 96 ≡ Ok Gap
  pub last_line : whose_answer frame 224 ≡ Ok Gap
  pub last : whose_answer frame 479 ≡ Ok Padding
  pub behind : whose_answer frame 480 ≡ Ok Outside
  pub far : whose_answer frame 18446744073709551615 ≡ Ok Outside
  -- between surfaces that are further apart than their lines
  pub between_surfaces : whose_answer (layout_of 3 2 40 0 128 512 0) 256 ≡ Ok Gap
  -- an int16 element's second byte, and the padding behind it
  pub second : whose_answer (layout_of 1 1 17 1 32 32 0) 33 ≡ Ok (Element 16 0 0 1)
  pub padded : whose_answer (layout_of 1 1 17 1 32 32 0) 34 ≡ Ok Padding
  -- before the start, and at it
  pub before : whose_answer (layout_of 3 2 40 0 128 256 32) 31 ≡ Ok Outside
  pub first : whose_answer (layout_of 3 2 40 0 128 256 32) 32 ≡ Ok (Element 0 0 0 0)
  -- a start of 16 is refused, wherever the byte lies; two at once: 1 and 2, 2 and 3, 3 and 4
  pub refused : whose_answer (layout_of 3 2 40 0 128 256 16) 0 ≡ Err (refused_at 0 CubeStart)
  pub double : map (λ (q : CubeLayout). answer_code (answer_of (whose_answer q 0))) wrong ≡ 1 ∷ 2 ∷ 3 ∷ 4 ∷ 0 ∷ []

pub answered : Answered
unfolding require_at in_order given size_valid element_bytes surfaces cube_extent surface_of row_of column_of byte_in_atom in_atom atom_owner owner sizes_valid whole_atoms strides_valid layout_checks in_extent byte_owner whose_answer
answered =
    record {
      own = refl;
      pad = refl;
      between_lines = refl;
      last_line = refl;
      last = refl;
      behind = refl;
      far = refl;
      between_surfaces = refl;
      second = refl;
      padded = refl;
      before = refl;
      first = refl;
      refused = refl;
      double = refl;
    }
