-- The three lists to follow by hand, computed: their packings are accepted, and the answers, the elements read and the bytes changed are these; and what the
-- plain picture gives for them. Assumes nothing.
use Prim.Native.Nat.{ℕ}
use mathlib.Core.Path.{◌≡◌, refl}
use mathlib.Core.List.{List, [], ◌∷◌, map}
use lib.ListN.{length, get_or, set}
use lib.IntN.{ℤ, pos, negsuc}
use Rattle.refusal.specs.declared.Refusal.TheVariants.{Fp16Nan}
use Rattle.refusal.specs.Codes.{answer_code, fault_index}
use Rattle.refusal.specs.Sizes.{size_valid}
use Rattle.refusal.specs.Checks.{require_at, in_order, leaves, Accepted, Refused}
use Rattle.elements.specs.Bytes.{element_bytes, byte_of, word_at, signed, element_at}
use Rattle.elements.specs.Lists.{remade_from, remade, tabulate_from, tabulate}
use Rattle.elements.specs.Values.{is_nan, value_check, value_checks_from, value_checks}
use Rattle.layout.specs.Geometry.{element_count, raw_index, surfaces, element_position, cube_extent}
use Rattle.layout.specs.Boxes.{box_count, span_inside, span_has, box_has, box_index, channel_at, row_at, column_at}
use Rattle.layout.specs.Rules.{sizes_valid, whole_atoms, strides_valid, layout_checks, storage_checks, cube_checks}
use Rattle.layout.specs.Owners.{surface_of, row_of, column_of, byte_in_atom, in_atom, atom_owner, owner}
use Rattle.layout.specs.Contents.{packed_byte, packed, edited_byte, edited, read_element, box_elements}
use Rattle.layout.specs.Calls.{pack_answer, pack_buffer}
use Rattle.integers.specs.Saturate.{saturate, beyond}
use Rattle.pixels.specs.Formats.{format_table, format_in, format_of}
use Rattle.pixels.specs.Settings.{kind_valid, strides_valid as pixel_strides, setting_checks, pixel_position}
use Rattle.quantize.specs.Quantize.{lowest, highest, quantize_checks, nearest_of, nearest, rounded, quantized, limited}
use Rattle.regions.specs.Slots.{rectangle, filled, slot_of, slots_of, empty_slots, rectangle_has, occupied, any_from, overlaps, rectangle_inside}
use Rattle.regions.specs.Rules.{slot_at, is_filled, rectangle_of, id_of, place_checks, box_in_rectangle, slot_checks, region_box_checks, read_checks, edit_checks, release_checks}
use Rattle.regions.specs.Calls.{place_answer, place_table, edit_answer, edit_buffer, read_answer, read_elements, release_answer, release_table, release_buffer}
use Rattle.parlour.specs.Components.{component_bytes, component_value, component_at, component, painted_elements}
use Rattle.parlour.specs.Counts.{total, held_one, pixel_held, row_held, held_count}
use Rattle.parlour.specs.Rules.{kind_taken, image_end, fills_rectangle, picture_checks, target_checks, paint_checks}
use Rattle.parlour.specs.Calls.{paint_answer, paint_buffer}
use Rattle.history.specs.Program.{none, held, Value, Shown, step, program}
use Rattle.history.specs.Model.{PlainStep, box_written, box_read, plain_answer, plain_step, model, given}
use Rattle.history.specs.Example.{layout, tensor, buffer, calls, shown_of}
use Rattle.history.specs.Paintings as paintings
use Rattle.history.specs.Floats as floats

-- what a list shows at call n; the first list, that with paintings, and that of fp16
abbrev shown_at : List Shown → ℕ → Shown
shown_at l n = get_or l n (record { reply = record { answer = Accepted; value = none }; elements = []; buffer = [] })

abbrev nth : ℕ → Shown
nth n = shown_at shown_of n

abbrev painting : ℕ → Shown
painting n = shown_at paintings.shown_of n

abbrev float : ℕ → Shown
float n = shown_at floats.shown_of n

-- the answers to them
abbrev answer_codes : List Shown → List ℕ
answer_codes l = map (λ (s : Shown). answer_code s.reply.answer) l

abbrev codes : List ℕ
codes =
    0 ∷ 10 ∷ 8 ∷ 9 ∷ 8 ∷ 25 ∷ 0 ∷ 0 ∷ 0 ∷ 8 ∷ 25 ∷ 9 ∷ 6 ∷ 7 ∷ 0 ∷ 0 ∷ 8 ∷ 25 ∷ 9 ∷ 6 ∷ 25 ∷ 0 ∷ 8 ∷ 0 ∷ 0 ∷ 0 ∷ 0 ∷ 0 ∷ []

abbrev painting_codes : List ℕ
painting_codes = 0 ∷ 0 ∷ 29 ∷ 16 ∷ 30 ∷ 25 ∷ 9 ∷ 0 ∷ 0 ∷ 0 ∷ 0 ∷ 0 ∷ 0 ∷ 8 ∷ 0 ∷ 0 ∷ 0 ∷ 0 ∷ []

abbrev float_codes : List ℕ
float_codes = 0 ∷ 0 ∷ 26 ∷ 26 ∷ 6 ∷ 0 ∷ 0 ∷ 0 ∷ 0 ∷ []

-- bytes after a call
abbrev bytes_at : Shown → List ℕ → List ℕ
bytes_at s places = map (λ (p : ℕ). get_or s.buffer p 0) places

-- channels 0 and 1 of columns 0, 1 and 2
abbrev bytes : ℕ → List ℕ
bytes n = bytes_at (nth n) (0 ∷ 1 ∷ 32 ∷ 33 ∷ 64 ∷ 65 ∷ [])

-- channels 0 to 3 of columns 0 and 1
abbrev painted_bytes : ℕ → List ℕ
painted_bytes n = bytes_at (painting n) (0 ∷ 1 ∷ 2 ∷ 3 ∷ 32 ∷ 33 ∷ 34 ∷ 35 ∷ [])

-- what the pixel becomes
abbrev pixel_elements : List ℤ
pixel_elements = pos 3 ∷ negsuc 2 ∷ pos 127 ∷ negsuc 127 ∷ []

-- of a refused painting, the accepted one, an edit, a refused painting after the release and the accepted one on that room: what they give beside their answers
abbrev counted_calls : List ℕ
counted_calls = 6 ∷ 7 ∷ 10 ∷ 13 ∷ 16 ∷ []

abbrev held_counts : List Value
held_counts = none ∷ held 2 ∷ none ∷ none ∷ held 2 ∷ []

-- the packing; the answers, with the fault index of 7; reads before and after the release; and the bytes that the edits change, that a refused release leaves
-- and that the accepted one clears. Of the list with paintings: the packing; the answers; what is read of the painted region, of the other, after the edit,
-- after the release and of the region painted anew; how many components the paintings held, which the refused ones do not tell; and the bytes that refused
-- paintings leave, that the accepted one changes and that the release clears. Of the list of fp16: the packing, and one of NaN, which is refused at its index; the
-- answers; what is read after the refused edits, and after the accepted one; and the bytes of both elements before and after it
pub record Computed : Type 0 where
  pub packing : answer_code (pack_answer layout tensor (length buffer)) ≡ 0
  pub answers : answer_codes shown_of ≡ codes
  pub index_at_fault : fault_index (nth 13).reply.answer ≡ 1
  pub read_0 : (nth 14).elements ≡ pos 1 ∷ pos 2 ∷ pos 4 ∷ negsuc 7 ∷ []
  pub read_1 : (nth 15).elements ≡ pos 9 ∷ negsuc 5 ∷ []
  pub read_denied : (nth 17).elements ≡ pos 1 ∷ pos 1 ∷ []
  pub read_zeros : (nth 24).elements ≡ pos 0 ∷ pos 0 ∷ pos 0 ∷ pos 0 ∷ []
  pub read_new : (nth 26).elements ≡ pos 0 ∷ pos 0 ∷ pos 3 ∷ pos 0 ∷ []
  pub read_other : (nth 27).elements ≡ pos 9 ∷ negsuc 5 ∷ []
  pub byte_33 : get_or (nth 6).buffer 33 0 ∷ get_or (nth 7).buffer 33 0 ∷ [] ≡ 5 ∷ 248 ∷ []
  pub byte_64 : get_or (nth 7).buffer 64 0 ∷ get_or (nth 8).buffer 64 0 ∷ [] ≡ 3 ∷ 9 ∷ []
  pub refused : bytes 20 ≡ 1 ∷ 4 ∷ 2 ∷ 248 ∷ 9 ∷ 250 ∷ []
  pub cleared : bytes 21 ≡ 0 ∷ 0 ∷ 0 ∷ 0 ∷ 9 ∷ 250 ∷ []
  pub painting_packed : answer_code (pack_answer paintings.layout paintings.tensor (length paintings.buffer)) ≡ 0
  pub painting_answers : answer_codes paintings.shown_of ≡ painting_codes
  pub read_painted : (painting 8).elements ≡ pixel_elements
  pub read_beside : (painting 9).elements ≡ pos 1 ∷ pos 2 ∷ pos 3 ∷ pos 4 ∷ []
  pub read_edited : (painting 11).elements ≡ pos 3 ∷ pos 9 ∷ pos 127 ∷ negsuc 127 ∷ []
  pub read_released : (painting 15).elements ≡ pos 0 ∷ pos 0 ∷ pos 0 ∷ pos 0 ∷ []
  pub read_anew : (painting 17).elements ≡ pixel_elements
  pub counts_held : map (λ (n : ℕ). (painting n).reply.value) counted_calls ≡ held_counts
  pub unpainted : painted_bytes 6 ≡ 1 ∷ 2 ∷ 3 ∷ 4 ∷ 5 ∷ 6 ∷ 7 ∷ 248 ∷ []
  pub painted : painted_bytes 7 ≡ 1 ∷ 2 ∷ 3 ∷ 4 ∷ 3 ∷ 253 ∷ 127 ∷ 128 ∷ []
  pub painting_cleared : painted_bytes 13 ≡ 1 ∷ 2 ∷ 3 ∷ 4 ∷ 0 ∷ 0 ∷ 0 ∷ 0 ∷ []
  pub float_packed : pack_answer floats.layout floats.tensor (length floats.buffer) ∷ pack_answer floats.layout (pos 15360 ∷ negsuc 0 ∷ []) (length floats.buffer) ∷ [] ≡ Accepted ∷ Refused Fp16Nan 1 ∷ []
  pub float_answers : answer_codes floats.shown_of ≡ float_codes
  pub float_read : (float 5).elements ∷ (float 6).elements ∷ (float 8).elements ∷ [] ≡ (pos 15360 ∷ []) ∷ (pos 31744 ∷ []) ∷ (negsuc 1023 ∷ []) ∷ []
  pub float_refused : bytes_at (float 6) (0 ∷ 1 ∷ 32 ∷ 33 ∷ []) ≡ 0 ∷ 60 ∷ 0 ∷ 124 ∷ []
  pub float_written : bytes_at (float 7) (0 ∷ 1 ∷ 32 ∷ 33 ∷ []) ≡ 0 ∷ 252 ∷ 0 ∷ 124 ∷ []

-- the plain pictures of the same lists: of the first its answers; the raw tensor after each of the first two edits and after a refused one; what a read gives;
-- and the raw tensor and the slots after the release, and what is read then. Of that with paintings its answers; the raw tensor after a refused painting, after
-- the accepted one, after the edit and after the release; what is read of the painted region; and the counts. Of that of fp16 its answers, and the raw tensor
-- after the refused edits and after the accepted one
abbrev plain : List PlainStep
plain = model layout (length buffer) (given tensor) calls

abbrev plain_paintings : List PlainStep
plain_paintings = model paintings.layout (length paintings.buffer) (given paintings.tensor) paintings.calls

abbrev plain_floats : List PlainStep
plain_floats = model floats.layout (length floats.buffer) (given floats.tensor) floats.calls

abbrev plain_at : List PlainStep → ℕ → PlainStep
plain_at l n = get_or l n (record { reply = record { answer = Accepted; value = none }; elements = []; state = given [] })

abbrev nth_plain : ℕ → PlainStep
nth_plain n = plain_at plain n

abbrev plain_painting : ℕ → PlainStep
plain_painting n = plain_at plain_paintings n

abbrev plain_codes : List PlainStep → List ℕ
plain_codes l = map (λ (g : PlainStep). answer_code g.reply.answer) l

pub record Pictured : Type 0 where
  pub answers : plain_codes plain ≡ codes
  pub edited_0 : (nth_plain 7).state.raw ≡ pos 1 ∷ pos 2 ∷ pos 3 ∷ pos 4 ∷ negsuc 7 ∷ negsuc 5 ∷ []
  pub edited_1 : (nth_plain 8).state.raw ≡ pos 1 ∷ pos 2 ∷ pos 9 ∷ pos 4 ∷ negsuc 7 ∷ negsuc 5 ∷ []
  pub refused : (nth_plain 13).state.raw ≡ pos 1 ∷ pos 2 ∷ pos 9 ∷ pos 4 ∷ negsuc 7 ∷ negsuc 5 ∷ []
  pub read_1 : (nth_plain 15).elements ≡ pos 9 ∷ negsuc 5 ∷ []
  pub denied : (nth_plain 20).state.raw ≡ pos 1 ∷ pos 2 ∷ pos 9 ∷ pos 4 ∷ negsuc 7 ∷ negsuc 5 ∷ []
  pub released : (nth_plain 21).state.raw ≡ pos 0 ∷ pos 0 ∷ pos 9 ∷ pos 0 ∷ pos 0 ∷ negsuc 5 ∷ []
  pub emptied : (nth_plain 21).state.slots ≡ set empty_slots 1 (filled 12 (rectangle 2 0 1 1))
  pub read_zeros : (nth_plain 24).elements ≡ pos 0 ∷ pos 0 ∷ pos 0 ∷ pos 0 ∷ []
  pub read_new : (nth_plain 26).elements ≡ pos 0 ∷ pos 0 ∷ pos 3 ∷ pos 0 ∷ []
  pub painting_answers : plain_codes plain_paintings ≡ painting_codes
  pub counts_held : map (λ (n : ℕ). (plain_painting n).reply.value) counted_calls ≡ held_counts
  pub unpainted : (plain_painting 6).state.raw ≡ paintings.tensor
  pub painted : (plain_painting 7).state.raw ≡ pos 1 ∷ pos 3 ∷ pos 2 ∷ negsuc 2 ∷ pos 3 ∷ pos 127 ∷ pos 4 ∷ negsuc 127 ∷ []
  pub read_painted : (plain_painting 8).elements ≡ pixel_elements
  pub painting_edited : (plain_painting 10).state.raw ≡ pos 1 ∷ pos 3 ∷ pos 2 ∷ pos 9 ∷ pos 3 ∷ pos 127 ∷ pos 4 ∷ negsuc 127 ∷ []
  pub painting_released : (plain_painting 13).state.raw ≡ pos 1 ∷ pos 0 ∷ pos 2 ∷ pos 0 ∷ pos 3 ∷ pos 0 ∷ pos 4 ∷ pos 0 ∷ []
  pub float_answers : plain_codes plain_floats ≡ float_codes
  pub float_refused : (plain_at plain_floats 6).state.raw ≡ floats.tensor
  pub float_edited : (plain_at plain_floats 7).state.raw ≡ negsuc 1023 ∷ pos 31744 ∷ []

pub computed : Computed
unfolding require_at in_order leaves element_bytes byte_of word_at signed element_at remade_from remade tabulate_from tabulate is_nan value_check value_checks_from value_checks element_count raw_index surfaces element_position cube_extent box_count span_inside span_has box_has box_index channel_at row_at column_at size_valid sizes_valid whole_atoms strides_valid layout_checks storage_checks cube_checks surface_of row_of column_of byte_in_atom in_atom atom_owner owner packed_byte packed edited_byte edited read_element box_elements pack_answer pack_buffer slot_of slots_of rectangle_has occupied any_from overlaps rectangle_inside slot_at is_filled rectangle_of id_of place_checks box_in_rectangle slot_checks region_box_checks read_checks edit_checks release_checks place_answer place_table edit_answer edit_buffer read_answer read_elements release_answer release_table release_buffer saturate beyond format_table format_in format_of kind_valid pixel_strides setting_checks pixel_position lowest highest quantize_checks nearest_of nearest rounded quantized limited component_bytes component_value component_at component painted_elements total held_one pixel_held row_held held_count kind_taken image_end fills_rectangle picture_checks target_checks paint_checks paint_answer paint_buffer step program calls paintings.calls floats.calls
computed =
    record {
      packing = refl;
      answers = refl;
      index_at_fault = refl;
      read_0 = refl;
      read_1 = refl;
      read_denied = refl;
      read_zeros = refl;
      read_new = refl;
      read_other = refl;
      byte_33 = refl;
      byte_64 = refl;
      refused = refl;
      cleared = refl;
      painting_packed = refl;
      painting_answers = refl;
      read_painted = refl;
      read_beside = refl;
      read_edited = refl;
      read_released = refl;
      read_anew = refl;
      counts_held = refl;
      unpainted = refl;
      painted = refl;
      painting_cleared = refl;
      float_packed = refl;
      float_answers = refl;
      float_read = refl;
      float_refused = refl;
      float_written = refl;
    }

pub pictured : Pictured
unfolding require_at in_order leaves element_bytes byte_of word_at signed element_at remade_from remade tabulate_from tabulate is_nan value_check value_checks_from value_checks element_count raw_index surfaces element_position cube_extent box_count span_inside span_has box_has box_index channel_at row_at column_at size_valid sizes_valid whole_atoms strides_valid layout_checks storage_checks cube_checks surface_of row_of column_of byte_in_atom in_atom atom_owner owner packed_byte packed edited_byte edited read_element box_elements pack_answer pack_buffer slot_of slots_of rectangle_has occupied any_from overlaps rectangle_inside slot_at is_filled rectangle_of id_of place_checks box_in_rectangle slot_checks region_box_checks read_checks edit_checks release_checks empty_slots saturate beyond format_table format_in format_of kind_valid pixel_strides setting_checks pixel_position lowest highest quantize_checks nearest_of nearest rounded quantized limited component_bytes component_value component_at component painted_elements total held_one pixel_held row_held held_count kind_taken image_end fills_rectangle picture_checks target_checks paint_checks box_written box_read plain_answer plain_step model calls paintings.calls floats.calls
pictured =
    record {
      answers = refl;
      edited_0 = refl;
      edited_1 = refl;
      refused = refl;
      read_1 = refl;
      denied = refl;
      released = refl;
      emptied = refl;
      read_zeros = refl;
      read_new = refl;
      painting_answers = refl;
      counts_held = refl;
      unpainted = refl;
      painted = refl;
      read_painted = refl;
      painting_edited = refl;
      painting_released = refl;
      float_answers = refl;
      float_refused = refl;
      float_edited = refl;
    }
