-- Regions of the paper's frame, computed (scope paper, "The sheet program", "Stalls"; change request K1); of two faults at once the earlier in the order is told
-- ("Refusal numbers": "Orders"). Assumes nothing.
use Prim.Native.Nat.{ℕ}
use mathlib.Core.Path.{◌≡◌, refl}
use mathlib.Core.List.{List, [], ◌∷◌, ◌++◌, map}
use lib.IntN.{ℤ, pos, negsuc}
use lib.ListN.{get_or, replicate}
use Rattle.refusal.specs.declared.Refusal.TheVariants.{Int8Range, OwnerId, Fp16Nan}
use Rattle.std.specs.Prelude.{Ok, Err}
use Rattle.refusal.specs.Codes.{answer_code, answer_of}
use Rattle.refusal.specs.Checks.{require_at, in_order, leaves, given, Refused, refused_at}
use Rattle.refusal.specs.Sizes.{size_valid}
use Rattle.elements.specs.Bytes.{element_bytes, byte_of, word_at, signed, element_at}
use Rattle.elements.specs.Lists.{remade_from, remade, tabulate_from, tabulate}
use Rattle.elements.specs.Values.{is_nan, value_check, value_checks_from, value_checks}
use Rattle.layout.specs.declared.CubeLayout.{CubeLayout}
use Rattle.layout.specs.declared.ElementBox.{ElementBox}
use Rattle.layout.specs.Geometry.{layout_of, surfaces, element_position, cube_extent}
use Rattle.layout.specs.Boxes.{one_element, box_count, span_inside, span_has, box_has, box_index, channel_at, row_at, column_at}
use Rattle.layout.specs.Rules.{sizes_valid, whole_atoms, strides_valid, layout_checks, storage_checks}
use Rattle.layout.specs.Owners.{surface_of, row_of, column_of, byte_in_atom, in_atom, atom_owner, owner}
use Rattle.layout.specs.Contents.{edited_byte, edited, read_element, box_elements}
use Rattle.regions.specs.declared.Rectangle.{Rectangle}
use Rattle.regions.specs.declared.Region.{Region}
use Rattle.regions.specs.declared.RegionTable.{RegionTable}
use Rattle.regions.specs.Slots.{rectangle, slot_of, slots_of, rectangle_has, occupied, any_from, overlaps, rectangle_inside}
use Rattle.regions.specs.Rules.{slot_at, is_filled, rectangle_of, id_of, place_checks, box_in_rectangle, slot_checks, region_box_checks, read_checks, edit_checks, release_checks}
use Rattle.regions.specs.Calls.{no_region, empty_table, placed_region, place_answer, place_table, edit_answer, edit_buffer, read_answer, read_elements, release_answer, release_table, release_buffer, region_position, region_count, region_found}

abbrev frame : CubeLayout
frame = layout_of 3 2 40 0 128 256 0

-- the paper's frame with its first stall, 0 0 2 2 in slot 0, of owner 7
abbrev table : RegionTable
table = place_table (empty_table frame) 0 7 (rectangle 0 0 2 2)

-- and with another beside it, of owner 9 in slot 1
abbrev two : RegionTable
two = place_table table 1 9 (rectangle 2 0 1 2)

-- a table made by hand: its region, of such an owner, is not in the frame
abbrev by_hand : ℕ → RegionTable
by_hand id = record { layout = frame; slots = placed_region id (rectangle 2 0 2 2) ∷ [] }

-- two faults at once: 1 and 2, 2 and 3, 3 and 4; then 4, and an empty slot: each with the fault that follows in a call's order
abbrev wrong : List RegionTable
wrong = map empty_table (layout_of 0 2 40 3 128 256 0 ∷ layout_of 3 2 40 3 0 256 0 ∷ layout_of 3 2 40 0 0 256 16 ∷ layout_of 3 2 40 0 128 256 16 ∷ frame ∷ [])

-- two columns of one element each, the second one placed in slot 0, of owner 3
abbrev small : RegionTable
small = place_table (empty_table (layout_of 2 1 1 0 64 64 0)) 0 3 (rectangle 1 0 1 1)

-- the same of fp16, with two channels, and both of the region
abbrev floats : RegionTable
floats = place_table (empty_table (layout_of 2 1 2 2 64 64 0)) 0 3 (rectangle 1 0 1 1)

abbrev both : ElementBox
both = record { channel = 0; row = 0; column = 0; channels = 2; rows = 1; columns = 1 }

abbrev slot : RegionTable → ℕ → Region
slot t n = get_or t.slots n (placed_region 1 (rectangle 9 9 9 9))

-- an empty box
abbrev nothing : ElementBox
nothing = record { channel = 0; row = 0; column = 0; channels = 1; rows = 0; columns = 1 }

abbrev placing : RegionTable → ℕ → ℕ → Rectangle → ℕ
placing t n id g = answer_code (place_answer t n id g)

abbrev editing : RegionTable → ℕ → ℕ → ElementBox → List ℤ → ℕ → ℕ
editing t n id b xs len = answer_code (edit_answer t n id b xs len)

abbrev reading : RegionTable → ℕ → ElementBox → ℕ → ℕ → ℕ
reading t id b given len = answer_code (read_answer t 0 id b given len)

abbrev releasing : RegionTable → ℕ → ℕ → ℕ
releasing t id len = answer_code (release_answer t 0 id len)

abbrev locating : RegionTable → ℕ → ℕ → ℕ
locating t id c = answer_code (answer_of (region_position t 0 id c 0 0))

abbrev counting : RegionTable → ℕ → ℕ
counting t id = answer_code (answer_of (region_count t 0 id))

pub record Computed : Type 0 where
  -- the paper's second stall overlaps; beside the first there is room; a filled slot is 8
  pub placings : placing table 1 8 (rectangle 1 0 2 1) ∷ placing table 1 8 (rectangle 2 0 1 2) ∷ placing table 0 8 (rectangle 2 0 1 2) ∷ [] ≡ 10 ∷ 0 ∷ 8 ∷ []
  -- an owner may have two regions; the ids are 1 to 65535
  pub owners : map (λ (id : ℕ). placing table 1 id (rectangle 2 0 1 2)) (7 ∷ 1 ∷ 65535 ∷ 0 ∷ 65536 ∷ []) ≡ 0 ∷ 0 ∷ 0 ∷ 25 ∷ 25 ∷ []
  -- placing, two at once, also 4 and 25, 25 and 8; a filled slot and 25; 8 and 9, a filled slot and 9; 9 and 10
  pub place_double : map (λ (t : RegionTable). placing t 16 0 (rectangle 0 0 0 1)) wrong ≡ 1 ∷ 2 ∷ 3 ∷ 4 ∷ 25 ∷ []
  pub place_later :
      placing table 0 0 (rectangle 0 0 0 1) ∷ placing table 16 7 (rectangle 0 0 0 1) ∷ placing table 0 7 (rectangle 0 0 0 1) ∷ placing table 1 7 (rectangle 1 0 3 1) ∷ [] ≡ 25 ∷ 8 ∷ 8 ∷ 9 ∷ []
  -- a placing fills its slot and no other
  pub own : slot two 1 ≡ placed_region 9 (rectangle 2 0 1 2)
  pub other : slot two 0 ≡ placed_region 7 (rectangle 0 0 2 2)
  -- an edit, two at once, also 4 and 8, 8 and 25; 25 and 9; 9 and 6, 6 and 5, 5 and 7; 7 has the index at fault
  pub edit_double : map (λ (t : RegionTable). editing t 0 0 nothing (pos 1 ∷ []) 0) wrong ≡ 1 ∷ 2 ∷ 3 ∷ 4 ∷ 8 ∷ []
  pub edit_later :
      editing table 0 8 nothing (pos 1 ∷ []) 0
      ∷ editing table 0 7 nothing (pos 1 ∷ []) 0
      ∷ editing table 0 7 (one_element 0 0 0) [] 479
      ∷ editing table 0 7 (one_element 0 0 0) (pos 200 ∷ []) 479
      ∷ []
      ≡ 25 ∷ 9 ∷ 6 ∷ 5 ∷ []
  pub value : edit_answer table 0 7 (one_element 0 0 0) (pos 200 ∷ []) 480 ≡ Refused Int8Range 0
  -- fp16: 6 and 26, 5 and 26; 26 alone, at the caller's index; -infinity is taken
  pub nan_later : editing floats 0 3 (one_element 0 0 0) (negsuc 0 ∷ negsuc 0 ∷ []) 63 ∷ editing floats 0 3 (one_element 0 0 0) (negsuc 0 ∷ []) 63 ∷ [] ≡ 6 ∷ 5 ∷ []
  pub nan : edit_answer floats 0 3 both (negsuc 1023 ∷ negsuc 1022 ∷ []) 64 ≡ Refused Fp16Nan 1
  pub infinity : editing floats 0 3 (one_element 0 0 0) (negsuc 1023 ∷ []) 64 ≡ 0
  -- a read the same, without 7 and 26
  pub read_double : map (λ (t : RegionTable). reading t 0 nothing 1 0) wrong ≡ 1 ∷ 2 ∷ 3 ∷ 4 ∷ 8 ∷ []
  pub read_later : reading table 8 nothing 1 0 ∷ reading table 7 nothing 1 0 ∷ reading table 7 (one_element 0 0 0) 0 479 ∷ reading table 7 (one_element 0 0 0) 1 479 ∷ [] ≡ 25 ∷ 9 ∷ 6 ∷ 5 ∷ []
  -- a release, two at once, also 4 and 8, 8 and 25; 25 and 9; 9 and 5; 5 and accepted
  pub release_double : map (λ (t : RegionTable). releasing t 0 0) wrong ≡ 1 ∷ 2 ∷ 3 ∷ 4 ∷ 8 ∷ []
  pub release_later : releasing (by_hand 7) 8 0 ∷ releasing (by_hand 7) 7 0 ∷ releasing table 7 479 ∷ releasing table 7 480 ∷ [] ≡ 25 ∷ 9 ∷ 5 ∷ 0 ∷ []
  -- a box ends with its region, not with the frame: row 1 and column 1 are its last; and with the frame's channels
  pub inside : editing table 0 7 (one_element 39 1 1) (pos 1 ∷ []) 480 ≡ 0
  pub past : map (λ (b : ElementBox). editing table 0 7 b (pos 1 ∷ []) 480) (one_element 39 2 1 ∷ one_element 39 1 2 ∷ one_element 40 1 1 ∷ []) ≡ 9 ∷ 9 ∷ 9 ∷ []
  -- the named region of a table made by hand is checked again; its id, too, even where the same is given
  pub made : editing (by_hand 7) 0 7 (one_element 0 0 0) (pos 1 ∷ []) 480 ≡ 9
  pub made_id : map (λ (id : ℕ). editing (by_hand id) 0 id (one_element 0 0 0) (pos 1 ∷ []) 480) (0 ∷ 70000 ∷ []) ≡ 25 ∷ 25 ∷ []
  -- the paper's cell 0 33 1 1; a cell outside its region is 9; two at once, also 4 and 8, 8 and 25; 25 and 9
  pub position : region_position table 0 7 33 1 1 ≡ Ok 417
  pub position_past : answer_code (answer_of (region_position table 0 7 33 2 1)) ≡ 9
  pub position_double : map (λ (t : RegionTable). locating t 0 40) wrong ≡ 1 ∷ 2 ∷ 3 ∷ 4 ∷ 8 ∷ []
  pub position_later : locating table 8 40 ∷ locating table 7 40 ∷ [] ≡ 25 ∷ 9 ∷ []
  -- the count of a region's elements; two at once, also 4 and 8, 8 and 25; 25 and 9
  pub count : region_count table 0 7 ≡ Ok 160
  pub count_double : map (λ (t : RegionTable). counting t 0) wrong ≡ 1 ∷ 2 ∷ 3 ∷ 4 ∷ 8 ∷ []
  pub count_later : counting (by_hand 7) 8 ∷ counting (by_hand 7) 7 ∷ [] ≡ 25 ∷ 9 ∷ []
  -- the box of the cube that a region is; of another owner it is 25
  pub found : region_found two 1 9 ≡ Ok (record { channel = 0; row = 0; column = 2; channels = 40; rows = 2; columns = 1 })
  pub not_found : region_found two 1 7 ≡ Err (refused_at 0 OwnerId)
  -- an edit writes its element at the region's corner, and a read gives it; a read has no 7 and no 26; a refused edit changes nothing
  pub written : edit_buffer small 0 3 (one_element 0 0 0) (pos 5 ∷ []) (replicate 64 9) ≡ replicate 32 9 ++ 5 ∷ replicate 31 9
  pub read : read_elements small 0 3 (one_element 0 0 0) (replicate 32 9 ++ 5 ∷ replicate 31 9) (pos 200 ∷ []) ≡ pos 5 ∷ []
  pub read_nan : read_elements floats 0 3 (one_element 0 0 0) (replicate 32 9 ++ 255 ∷ 255 ∷ replicate 30 9) (pos 32767 ∷ []) ≡ negsuc 0 ∷ []
  pub nan_kept : edit_buffer floats 0 3 (one_element 0 0 0) (negsuc 0 ∷ []) (replicate 64 9) ≡ replicate 64 9
  pub refused : read_elements small 0 3 (one_element 0 0 1) (replicate 64 9) (pos 200 ∷ []) ≡ pos 200 ∷ []
  -- a release clears its element and no other byte, and its table is empty again; of another owner it changes nothing
  pub cleared : release_buffer small 0 3 (replicate 64 9) ≡ replicate 32 9 ++ 0 ∷ replicate 31 9
  pub emptied : release_table small 0 3 64 ≡ empty_table (layout_of 2 1 1 0 64 64 0)
  pub stays : release_buffer small 0 4 (replicate 64 9) ≡ replicate 64 9
  pub seated : release_table small 0 4 64 ≡ small
  -- it empties its slot and no other, and slot and room are free for the next owner
  pub left : slot (release_table two 0 7 480) 0 ∷ slot (release_table two 0 7 480) 1 ∷ [] ≡ no_region ∷ placed_region 9 (rectangle 2 0 1 2) ∷ []
  pub next : placing two 2 8 (rectangle 1 0 1 1) ∷ placing (release_table two 0 7 480) 0 8 (rectangle 1 0 1 1) ∷ [] ≡ 10 ∷ 0 ∷ []

pub computed : Computed
unfolding require_at in_order leaves given size_valid element_bytes byte_of word_at signed element_at remade_from remade tabulate_from tabulate is_nan value_check value_checks_from value_checks surfaces element_position cube_extent box_count span_inside span_has box_has box_index channel_at row_at column_at sizes_valid whole_atoms strides_valid layout_checks storage_checks surface_of row_of column_of byte_in_atom in_atom atom_owner owner edited_byte edited read_element box_elements slot_of slots_of rectangle_has occupied any_from overlaps rectangle_inside slot_at is_filled rectangle_of id_of place_checks box_in_rectangle slot_checks region_box_checks read_checks edit_checks release_checks place_answer place_table edit_answer edit_buffer read_answer read_elements release_answer release_table release_buffer region_position region_count region_found
computed =
    record {
      placings = refl;
      owners = refl;
      place_double = refl;
      place_later = refl;
      own = refl;
      other = refl;
      edit_double = refl;
      edit_later = refl;
      value = refl;
      nan_later = refl;
      nan = refl;
      infinity = refl;
      read_double = refl;
      read_later = refl;
      release_double = refl;
      release_later = refl;
      inside = refl;
      past = refl;
      made = refl;
      made_id = refl;
      position = refl;
      position_past = refl;
      position_double = refl;
      position_later = refl;
      count = refl;
      count_double = refl;
      count_later = refl;
      found = refl;
      not_found = refl;
      written = refl;
      read = refl;
      read_nan = refl;
      nan_kept = refl;
      refused = refl;
      cleared = refl;
      emptied = refl;
      stays = refl;
      seated = refl;
      left = refl;
      next = refl;
    }
