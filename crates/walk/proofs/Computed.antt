-- A walk computed: a cube of two surfaces with a gap after each line and each surface, every position and some bytes; starts that are refused, of two faults
-- at once the earlier in the order; and steps of walks made by hand. Assumes nothing.
use Prim.Native.Nat.{ℕ}
use mathlib.Core.Path.{◌≡◌, refl}
use mathlib.Core.List.{List, [], ◌∷◌, map}
use lib.IntN.{ℤ, pos, negsuc, ◌-ℤ◌}
use lib.ListN.{get_or, replicate}
use Rattle.std.specs.Prelude.{Ok, Err, Option, Some, None}
use Rattle.refusal.specs.declared.Refusal.TheVariants.{Int8Range, Fp16Nan}
use Rattle.refusal.specs.Codes.{answer_code, answer_of}
use Rattle.refusal.specs.Checks.{refused_at, require_at, in_order, given as given_where}
use Rattle.refusal.specs.Sizes.{size_valid}
use Rattle.elements.specs.Bytes.{element_bytes, byte_of}
use Rattle.elements.specs.Lists.{remade_from, remade, tabulate_from, tabulate}
use Rattle.elements.specs.Values.{is_nan, value_check, value_checks_from, value_checks}
use Rattle.layout.specs.declared.CubeLayout.{CubeLayout}
use Rattle.layout.specs.Geometry.{layout_of, element_count, surfaces, cube_extent}
use Rattle.layout.specs.Rules.{sizes_valid, whole_atoms, strides_valid, layout_checks, storage_checks, cube_checks}
use Rattle.layout.specs.Calls.{pack_answer}
use Rattle.walk.specs.declared.Walk.{Walk}
use Rattle.walk.specs.Walks.{atom_elements, first_walk, walk_start, stride_of, moved, atom_left, atom_byte, atom_bytes, walk_step}
use Rattle.walk.specs.Scans.{walk_after, step_told, written_at, steps_written}

-- 2 columns, 2 rows, 33 channels of int8; 64 bytes of atoms in lines of 96, 160 bytes of lines in surfaces of 192, from byte 32 on
abbrev cube : CubeLayout
cube = layout_of 2 2 33 0 96 192 32

-- its elements: i − 64 at raw index i
abbrev raw : List ℤ
raw = tabulate 132 (λ (i : ℕ). pos i -ℤ pos 64)

-- what step n tells
abbrev atom : ℕ → Option ℕ
atom n = (step_told n (first_walk cube) raw).atom

abbrev bytes : ℕ → List ℕ
bytes n = (step_told n (first_walk cube) raw).bytes

-- one element, of a precision
abbrev single : ℕ → ℕ → CubeLayout
single precision start = layout_of 1 1 1 precision 32 32 start

abbrev one : ℕ → ℤ → List ℕ
one precision x = (step_told 0 (first_walk (single precision 0)) (x ∷ [])).bytes

-- two faults at once: 1 and 2, 2 and 3, 3 and 4, 4 and 6, 6 and 5
abbrev wrong : List CubeLayout
wrong = layout_of 0 2 40 3 128 256 0 ∷ layout_of 3 2 40 3 0 256 0 ∷ layout_of 3 2 40 0 0 256 16 ∷ layout_of 3 2 40 0 128 256 16 ∷ layout_of 3 2 40 0 128 256 0 ∷ []

abbrev refused : CubeLayout → List ℤ → ℕ → ℕ
refused q xs len = answer_code (answer_of (walk_start q xs len))

-- a walk made by hand
abbrev hand : (position index columns rows channels precision : ℕ) → Walk
hand position index columns rows channels precision =
    record {
      position = position;
      index = index;
      columns = columns;
      rows = rows;
      channels = channels;
      precision = precision;
      width = 5;
      height = 6;
      plane = 2;
      line = 64;
      surface = 96;
      group = 7;
    }

-- where a step of it gives an atom
abbrev given : Walk → Option ℕ
given w = (walk_step w []).atom

pub record Computed : Type 0 where
  -- the start: strides of 96 − 32 and 192 − 96 − 32 bytes, and of 31·4 + 1 elements
  pub starts : walk_start cube raw 384
      ≡ Ok (record {
        position = 32;
        index = 0;
        columns = 2;
        rows = 2;
        channels = 33;
        precision = 0;
        width = 2;
        height = 2;
        plane = 4;
        line = 64;
        surface = 64;
        group = 125;
      })
  -- eight atoms, then none is left
  pub positions : map atom (0 ∷ 1 ∷ 2 ∷ 3 ∷ 4 ∷ 5 ∷ 6 ∷ 7 ∷ 8 ∷ 9 ∷ [])
      ≡ Some 32 ∷ Some 64 ∷ Some 128 ∷ Some 160 ∷ Some 224 ∷ Some 256 ∷ Some 320 ∷ Some 352 ∷ None ∷ None ∷ []
  -- 32 channels at row 0, column 0: every fourth element, from element 0 on
  pub first_bytes : bytes 0
      ≡ 192 ∷ 196 ∷ 200 ∷ 204 ∷ 208 ∷ 212 ∷ 216 ∷ 220 ∷ 224 ∷ 228 ∷ 232 ∷ 236 ∷ 240 ∷ 244 ∷ 248 ∷ 252 ∷ 0 ∷ 4 ∷ 8 ∷ 12 ∷ 16 ∷ 20 ∷ 24 ∷ 28 ∷ 32 ∷ 36 ∷ 40 ∷ 44 ∷ 48 ∷ 52 ∷ 56 ∷ 60 ∷ []
  -- the next three begin with elements 1, 2 and 3: −63, −62, −61
  pub begins : map (λ (n : ℕ). get_or (bytes n) 0 0) (1 ∷ 2 ∷ 3 ∷ []) ≡ 193 ∷ 194 ∷ 195 ∷ []
  -- the second surface: channel 32 alone, elements 128 to 131, and padding
  pub last_bytes : map bytes (4 ∷ 5 ∷ 6 ∷ 7 ∷ []) ≡ (64 ∷ replicate 31 0) ∷ (65 ∷ replicate 31 0) ∷ (66 ∷ replicate 31 0) ∷ (67 ∷ replicate 31 0) ∷ []
  -- behind the last atom the bytes are 0
  pub none_bytes : bytes 8 ≡ replicate 32 0
  -- −2 in each precision; of fp16 its bits are 0xC000, as a number −16384
  pub int8 : one 0 (negsuc 1) ≡ 254 ∷ replicate 31 0
  pub int16 : one 1 (negsuc 1) ≡ 254 ∷ 255 ∷ replicate 30 0
  pub fp16 : one 2 (negsuc 16383) ≡ 0 ∷ 192 ∷ replicate 30 0
  -- written: an atom's byte, its padding, the gap behind a line
  pub writes : map (λ (p : ℕ). get_or (steps_written 8 (first_walk cube) raw (replicate 384 9)) p 0) (33 ∷ 225 ∷ 96 ∷ []) ≡ 196 ∷ 0 ∷ 9 ∷ []
  -- refused as packing is: two at once, also 4 and 6, 6 and 5, 5 and 7; 7 alone, with its index; a length of the start and the extent is taken
  pub double : map (λ (q : CubeLayout). refused q [] 0) wrong ≡ 1 ∷ 2 ∷ 3 ∷ 4 ∷ 6 ∷ []
  pub room_first : refused (single 0 0) (pos 200 ∷ []) 31 ≡ 5
  pub value : walk_start (layout_of 2 1 1 0 64 64 0) (pos 1 ∷ pos 200 ∷ []) 64 ≡ Err (refused_at 1 Int8Range)
  pub short : refused cube raw 383 ≡ 5
  -- fp16: 5 and 26; 26 alone, with its index; infinity is taken
  pub nan_room_first : refused (single 2 0) (negsuc 0 ∷ []) 31 ≡ 5
  pub nan : walk_start (layout_of 2 1 1 2 64 64 0) (pos 31744 ∷ negsuc 0 ∷ []) 64 ≡ Err (refused_at 1 Fp16Nan)
  pub infinity : walk_start (single 2 0) (pos 31744 ∷ []) 32 ≡ Ok (first_walk (single 2 0))
  -- by hand: no channels; the next position just fits 64 bits, and just not; so the next index; the last atom asks no sum
  pub no_channels : given (hand 32 0 2 2 0 0) ≡ None
  pub position_fits : given (hand 18446744073709551583 0 2 2 9 0) ≡ Some 18446744073709551583
  pub position_past : given (hand 18446744073709551584 0 2 2 9 0) ≡ None
  pub index_fits : given (hand 32 18446744073709551614 2 2 9 0) ≡ Some 32
  pub index_past : given (hand 32 18446744073709551615 2 2 9 0) ≡ None
  pub last_fits : given (hand 18446744073709551615 18446744073709551615 1 1 32 0) ≡ Some 18446744073709551615
  -- one channel more is of a next surface
  pub next_past : given (hand 18446744073709551615 18446744073709551615 1 1 33 0) ≡ None
  -- missing elements are 0; any precision but 0 has two bytes; columns of 0 count as the last one
  pub missing : (walk_step (hand 32 0 2 2 3 0) (pos 5 ∷ pos 6 ∷ pos 7 ∷ [])).bytes ≡ 5 ∷ 7 ∷ replicate 30 0
  pub unknown : (walk_step (hand 32 0 2 2 3 7) (pos 5 ∷ pos 6 ∷ pos 7 ∷ [])).bytes ≡ 5 ∷ 0 ∷ 7 ∷ 0 ∷ replicate 28 0
  pub none_columns : (walk_step (hand 32 0 0 2 3 0) []).walk.position ≡ 96

pub computed : Computed
unfolding require_at in_order given_where size_valid element_bytes byte_of remade_from remade tabulate_from tabulate is_nan value_check value_checks_from value_checks element_count surfaces cube_extent sizes_valid whole_atoms strides_valid layout_checks storage_checks cube_checks pack_answer atom_elements first_walk walk_start stride_of moved atom_left atom_byte atom_bytes walk_step walk_after step_told written_at steps_written
computed =
    record {
      starts = refl;
      positions = refl;
      first_bytes = refl;
      begins = refl;
      last_bytes = refl;
      none_bytes = refl;
      int8 = refl;
      int16 = refl;
      fp16 = refl;
      writes = refl;
      double = refl;
      room_first = refl;
      value = refl;
      short = refl;
      nan_room_first = refl;
      nan = refl;
      infinity = refl;
      no_channels = refl;
      position_fits = refl;
      position_past = refl;
      index_fits = refl;
      index_past = refl;
      last_fits = refl;
      next_past = refl;
      missing = refl;
      unknown = refl;
      none_columns = refl;
    }
