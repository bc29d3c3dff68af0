-- Pictures painted and their held components counted, computed (change requests K3, K5); of two faults at once the earlier in the order is told ("Refusal
-- numbers": "Orders"). Assumes nothing.
use Prim.Native.Nat.{ℕ}
use mathlib.Core.Path.{◌≡◌, refl}
use mathlib.Core.List.{List, [], ◌∷◌, ◌++◌, map}
use lib.IntN.{ℤ, pos}
use lib.ListN.{replicate, take}
use Rattle.std.specs.Prelude.{Ok, Err}
use Rattle.refusal.specs.declared.Refusal.TheVariants.{BufferLength, OwnerId, PixelLength}
use Rattle.refusal.specs.Codes.{answer_code}
use Rattle.refusal.specs.Checks.{require_at, in_order, leaves, given, Quantity, refused_at}
use Rattle.refusal.specs.Sizes.{size_valid}
use Rattle.elements.specs.Bytes.{element_bytes, byte_of, word_at, signed}
use Rattle.elements.specs.Lists.{remade_from, remade, tabulate_from, tabulate}
use Rattle.integers.specs.Saturate.{saturate, beyond}
use Rattle.layout.specs.declared.CubeLayout.{CubeLayout}
use Rattle.layout.specs.Geometry.{layout_of, surfaces, cube_extent}
use Rattle.layout.specs.Boxes.{box_count, span_inside, span_has, box_has, box_index, channel_at, row_at, column_at}
use Rattle.layout.specs.Rules.{sizes_valid, whole_atoms, strides_valid, layout_checks}
use Rattle.layout.specs.Owners.{surface_of, row_of, column_of, byte_in_atom, in_atom, atom_owner, owner}
use Rattle.layout.specs.Contents.{edited_byte, edited}
use Rattle.pixels.specs.declared.PixelSetting.{PixelSetting}
use Rattle.pixels.specs.Formats.{format_table, format_in, format_of}
use Rattle.pixels.specs.Settings.{kind_valid, strides_valid as lines_valid, setting_checks, pixel_position}
use Rattle.quantize.specs.Quantize.{lowest, highest, quantize_checks, nearest_of, nearest, rounded, quantized, limited}
use Rattle.regions.specs.declared.RegionTable.{RegionTable}
use Rattle.regions.specs.Slots.{rectangle, slot_of, slots_of, rectangle_has, occupied, any_from, overlaps, rectangle_inside}
use Rattle.regions.specs.Rules.{slot_at, is_filled, rectangle_of, id_of, place_checks, box_in_rectangle, slot_checks, region_box_checks}
use Rattle.regions.specs.Calls.{empty_table, placed_region, place_answer, place_table}
use Rattle.parlour.specs.declared.Conversion.{Conversion}
use Rattle.parlour.specs.Components.{component_bytes, component_value, component_at, component, painted_elements}
use Rattle.parlour.specs.Counts.{total, held_one, pixel_held, row_held, held_count}
use Rattle.parlour.specs.Rules.{kind_taken, image_end, fills_rectangle, picture_checks, target_checks, paint_checks}
use Rattle.parlour.specs.Calls.{paint_answer, paint_held, paint_buffer}

-- format, width, height, channels, precision, X offset, start, line
abbrev image : ℕ → ℕ → ℕ → ℕ → ℕ → ℕ → ℕ → ℕ → PixelSetting
image f w h c p x start line = record { format = f; width = w; height = h; channels = c; precision = p; offset = x; start = start; line = line }

abbrev conversion : ℤ → ℤ → ℕ → Conversion
conversion offset scale shift = record { offset = offset; scale = scale; shift = shift }

-- as it is, 128 less, and that doubled
abbrev plain : Conversion
plain = conversion (pos 0) (pos 1) 0

abbrev centred : Conversion
centred = conversion (pos 128) (pos 1) 0

abbrev doubled : Conversion
doubled = conversion (pos 128) (pos 2) 0

-- a frame of 3 columns, 2 rows and 4 channels of int8; the region of owner 7 is its columns 1 and 2, both rows
abbrev frame : CubeLayout
frame = layout_of 3 2 4 0 96 192 0

abbrev table : RegionTable
table = place_table (empty_table frame) 0 7 (rectangle 1 0 2 2)

-- a picture of 2 by 2 pixels T_A8B8G8R8, X offset 1: a pixel before the first in each line, and bytes behind the last
abbrev camera : PixelSetting
camera = image 12 2 2 4 0 1 0 32

abbrev pixels : List ℕ
pixels =
    9 ∷ 9 ∷ 9 ∷ 9 ∷ 128 ∷ 129 ∷ 130 ∷ 131 ∷ 0 ∷ 255 ∷ 127 ∷ 1 ∷ replicate 20 9
    ++ 9 ∷ 9 ∷ 9 ∷ 9 ∷ 120 ∷ 110 ∷ 100 ∷ 90 ∷ 200 ∷ 50 ∷ 0 ∷ 255 ∷ []

-- one element in one atom, of a precision; the region of owner 3 is all of it
abbrev single : ℕ → RegionTable
single p = place_table (empty_table (layout_of 1 1 1 p 32 32 0)) 0 3 (rectangle 0 0 1 1)

-- one pixel of two bytes, or of one, of a format
abbrev one : ℕ → PixelSetting
one f = image f 1 1 1 1 0 0 32

-- its first bytes after a painting of two bytes
abbrev after : ℕ → ℕ → List ℕ → List ℕ
after p f bytes = paint_buffer (single p) 0 3 (one f) bytes plain (replicate 32 7)

-- how many components a painting of the camera's picture holds, by an owner, from so many bytes of pixels and into so many of the frame
abbrev holding : ℕ → List ℕ → Conversion → ℕ → Quantity
holding id bytes k len = paint_held table 0 id camera bytes k len

-- a table made by hand: its region is not in the frame
abbrev by_hand : RegionTable
by_hand = record { layout = frame; slots = placed_region 7 (rectangle 2 0 2 2) ∷ [] }

-- the number that a painting of slot 0 answers
abbrev asking : RegionTable → ℕ → PixelSetting → ℕ → ℕ → ℕ → ℕ
asking t id i given shift len = answer_code (paint_answer t 0 id i given (conversion (pos 0) (pos 1) shift) len)

abbrev on : CubeLayout → PixelSetting → ℕ → ℕ → ℕ
on q i given shift = asking (empty_table q) 0 i given shift 0

pub record Computed : Type 0 where
  -- component n of pixel (x, y), 128 less, is channel n, row y, column x of the region; no other byte changes
  pub painted : paint_buffer table 0 7 camera pixels centred (replicate 192 7)
      ≡ replicate 32 7 ++ 0 ∷ 1 ∷ 2 ∷ 3 ∷ replicate 28 7 ++ 128 ∷ 127 ∷ 255 ∷ 129 ∷ replicate 28 7
      ++ replicate 32 7 ++ 248 ∷ 238 ∷ 228 ∷ 218 ∷ replicate 28 7 ++ 72 ∷ 178 ∷ 128 ∷ 127 ∷ replicate 28 7
  -- by another owner it changes nothing
  pub kept : paint_buffer table 0 8 camera pixels centred (replicate 192 7) ≡ replicate 192 7
  -- fe ff is -2 in T_R16_I, and 65534 in T_R16, which int16 holds at 32767, int8 at 127
  pub below : after 1 4 (254 ∷ 255 ∷ []) ≡ 254 ∷ 255 ∷ replicate 30 7
  pub unsigned : after 1 3 (254 ∷ 255 ∷ []) ≡ 255 ∷ 127 ∷ replicate 30 7
  pub held : after 0 3 (254 ∷ 255 ∷ []) ≡ 127 ∷ replicate 31 7
  -- ff ff is 4095 in T_R12, and 1023 in T_R10
  pub twelve : after 1 2 (255 ∷ 255 ∷ []) ≡ 255 ∷ 15 ∷ replicate 30 7
  pub ten : after 1 1 (255 ∷ 255 ∷ []) ≡ 255 ∷ 3 ∷ replicate 30 7
  -- doubled, 0, 255, 1 of one pixel and 200, 50, 0, 255 of another are beyond the limits: seven components, and no byte before or behind the pixels; 128 less
  -- is -128 and 127 at most, on the limits, and nothing is held
  pub counted : holding 7 pixels doubled 192 ≡ Ok 7
  pub on_limits : holding 7 pixels centred 192 ≡ Ok 0
  pub doubled_bytes : paint_buffer table 0 7 camera pixels doubled (replicate 192 7)
      ≡ replicate 32 7 ++ 0 ∷ 2 ∷ 4 ∷ 6 ∷ replicate 28 7 ++ 128 ∷ 127 ∷ 254 ∷ 128 ∷ replicate 28 7
      ++ replicate 32 7 ++ 240 ∷ 220 ∷ 200 ∷ 180 ∷ replicate 28 7 ++ 127 ∷ 128 ∷ 128 ∷ 127 ∷ replicate 28 7
  -- a refused painting has no count: another owner, a pixel byte too few, a byte of the frame too few
  pub uncounted : holding 8 pixels doubled 192 ∷ holding 7 (take 43 pixels) doubled 192 ∷ holding 7 pixels doubled 191 ∷ [] ≡ Err (refused_at 0 OwnerId) ∷ Err (refused_at 0 PixelLength) ∷ Err (refused_at 0 BufferLength) ∷ []
  -- 300 is beyond int8 and not beyond int16: the frame's precision counts, not the picture's
  pub by_precision : map (λ (p : ℕ). paint_held (single p) 0 3 (one 3) (44 ∷ 1 ∷ []) plain 32) (0 ∷ 1 ∷ []) ≡ Ok 1 ∷ Ok 0 ∷ []
  -- the last pixel ends at byte 44: 43 bytes are 30; one pixel T_R8 with a line of 32 needs one byte
  pub end : image_end camera ≡ 44
  pub length : asking table 7 camera 44 0 192 ∷ asking table 7 camera 43 0 192 ∷ [] ≡ 0 ∷ 30 ∷ []
  pub byte : map (λ (given : ℕ). asking (single 0) 3 (image 0 1 1 1 0 0 0 32) given 0 32) (1 ∷ 0 ∷ []) ≡ 0 ∷ 30 ∷ []
  -- no fp16 picture is taken, nor one of other channels than the frame's
  pub floats : map (λ (i : PixelSetting). asking (single 1) 3 i 99 0 32) (image 5 1 1 1 2 0 0 32 ∷ image 8 1 1 4 2 0 0 32 ∷ image 11 1 1 4 2 0 0 32 ∷ camera ∷ []) ≡ 29 ∷ 29 ∷ 29 ∷ 29 ∷ []
  -- a picture of 2 columns and 1 row for such a region; one of 1 column and 2 rows is 9
  pub shapes : map (λ (i : PixelSetting). asking (place_table (empty_table frame) 0 7 (rectangle 1 0 2 1)) 7 i 44 0 192) (image 12 2 1 4 0 1 0 32 ∷ image 12 1 2 4 0 1 0 32 ∷ []) ≡ 0 ∷ 9 ∷ []
  -- two faults at once: 19 and 1, 1 and 20, 20 and 21, 21 and 22, 22 and 29
  pub setting_double :
      map (λ (i : PixelSetting). on frame i 0 32) (image 17 0 2 4 0 1 0 32 ∷ image 12 0 2 3 0 1 0 32 ∷ image 12 2 2 3 0 8 0 32 ∷ image 12 2 2 4 0 8 0 31 ∷ image 8 2 2 4 2 1 0 0 ∷ [])
      ≡ 19 ∷ 1 ∷ 20 ∷ 21 ∷ 22 ∷ []
  -- 29 and 2, of the format and of the channels; 2 and 16, also with an unknown precision; 16 and 30; 30 and the frame's 1
  pub picture_double :
      on (layout_of 3 2 4 2 96 192 0) (image 8 2 2 4 2 1 0 32) 0 32
      ∷ on (layout_of 3 2 1 2 96 192 0) camera 0 32
      ∷ on (layout_of 3 2 4 2 96 192 0) camera 0 32
      ∷ on (layout_of 3 2 4 3 96 192 0) camera 0 32
      ∷ on frame camera 43 32
      ∷ on (layout_of 0 2 4 0 0 192 0) camera 43 0
      ∷ []
      ≡ 29 ∷ 29 ∷ 2 ∷ 2 ∷ 16 ∷ 30 ∷ []
  -- a frame of no channel is 29, one of no column in fp16 is 2, a bad line with too few pixels 30
  pub frame_double : on (layout_of 3 2 0 0 96 192 0) camera 44 0 ∷ on (layout_of 0 2 4 2 96 192 0) camera 44 0 ∷ on (layout_of 3 2 4 0 31 192 0) camera 43 0 ∷ [] ≡ 29 ∷ 2 ∷ 30 ∷ []
  -- 1 and 3, 3 and 4, 4 and 8, 8 and 25
  pub region_double : map (λ (q : CubeLayout). on q camera 44 0) (layout_of 0 2 4 0 31 192 0 ∷ layout_of 3 2 4 0 31 192 16 ∷ layout_of 3 2 4 0 96 192 16 ∷ frame ∷ []) ≡ 1 ∷ 3 ∷ 4 ∷ 8 ∷ []
  -- 25 and 9, 9 and 5: of a region outside the frame, and of a picture that is wider, or higher, than its region; 5
  pub region_later :
      asking by_hand 8 camera 44 0 0 ∷ asking by_hand 7 camera 44 0 0
      ∷ asking table 8 (image 12 1 2 4 0 1 0 32) 44 0 0 ∷ asking table 7 (image 12 1 2 4 0 1 0 32) 44 0 0 ∷ asking table 7 (image 12 2 1 4 0 1 0 32) 44 0 0
      ∷ asking table 7 camera 44 0 191 ∷ []
      ≡ 25 ∷ 9 ∷ 25 ∷ 9 ∷ 9 ∷ 5 ∷ []

pub computed : Computed
unfolding require_at in_order leaves given size_valid element_bytes byte_of word_at signed remade_from remade tabulate_from tabulate saturate beyond surfaces cube_extent box_count span_inside span_has box_has box_index channel_at row_at column_at sizes_valid whole_atoms strides_valid layout_checks surface_of row_of column_of byte_in_atom in_atom atom_owner owner edited_byte edited format_table format_in format_of kind_valid lines_valid setting_checks pixel_position lowest highest quantize_checks nearest_of nearest rounded quantized limited slot_of slots_of rectangle_has occupied any_from overlaps rectangle_inside slot_at is_filled rectangle_of id_of place_checks box_in_rectangle slot_checks region_box_checks place_answer place_table component_bytes component_value component_at component painted_elements total held_one pixel_held row_held held_count kind_taken image_end fills_rectangle picture_checks target_checks paint_checks paint_answer paint_held paint_buffer
computed =
    record {
      painted = refl;
      kept = refl;
      below = refl;
      unsigned = refl;
      held = refl;
      twelve = refl;
      ten = refl;
      counted = refl;
      on_limits = refl;
      doubled_bytes = refl;
      uncounted = refl;
      by_precision = refl;
      end = refl;
      length = refl;
      byte = refl;
      floats = refl;
      shapes = refl;
      setting_double = refl;
      picture_double = refl;
      frame_double = refl;
      region_double = refl;
      region_later = refl;
    }
