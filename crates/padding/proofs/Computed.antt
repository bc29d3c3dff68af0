-- Mending, computed: bytes of small frames, reports, and the order of checks with two faults at once (change request K8). Assumes nothing.
use Prim.Native.Nat.{ℕ, ◌-◌, ◌^◌}
use mathlib.Core.Path.{◌≡◌, refl}
use mathlib.Core.List.{List, [], ◌∷◌, ◌++◌, map}
use lib.ListN.{replicate}
use Rattle.refusal.specs.Codes.{answer_code}
use Rattle.refusal.specs.Checks.{require_at, in_order, leaves, given}
use Rattle.refusal.specs.Sizes.{size_valid}
use Rattle.std.specs.Prelude.{Ok}
use Rattle.elements.specs.Bytes.{element_bytes}
use Rattle.elements.specs.Lists.{remade_from}
use Rattle.layout.specs.declared.CubeLayout.{CubeLayout}
use Rattle.layout.specs.Geometry.{layout_of, surfaces, cube_extent}
use Rattle.layout.specs.Owners.{surface_of, row_of, column_of, byte_in_atom, in_atom, atom_owner, owner}
use Rattle.layout.specs.Rules.{sizes_valid, whole_atoms, strides_valid, layout_checks}
use Rattle.padding.specs.Mending.{Dirt, mended_byte, mended, is_dirty, reported}
use Rattle.padding.specs.Calls.{Lent, lent, mend_checks, mend_answer, mend_count, filled, mended_lists, mend_left}
use Rattle.padding.specs.Files.{lines, first_lines, report_given, written_back}

-- two columns and two rows of three int8 channels, lines 96 bytes apart, from byte 32 on: elements at 32, 64, 128, 160, gap 96 to 127, file of 192 bytes
abbrev small : CubeLayout
small = layout_of 2 2 3 0 96 160 32

-- one atom of three 16-bit channels; 33 int8 channels, so two surfaces; 32 int8 channels, so no padding
abbrev words : CubeLayout
words = layout_of 1 1 3 1 32 32 0

abbrev two : CubeLayout
two = layout_of 1 1 33 0 32 64 0

abbrev full : CubeLayout
full = layout_of 1 1 32 0 32 32 0

-- the paper's frame
abbrev frame : CubeLayout
frame = layout_of 3 2 40 0 128 256 0

-- all bytes nine
abbrev nines : ℕ → List ℕ
nines n = replicate n 9

-- the positions of a report
abbrev positions_of : List Dirt → List ℕ
positions_of report = map (λ (d : Dirt). d.position) report

-- a part of n bytes and a report of so many places
abbrev loan : ℕ → ℕ → ℕ → Lent
loan n positions olds = lent (nines n) (replicate positions 7) (replicate olds 8)

abbrev code : CubeLayout → ℕ → ℕ → Lent → ℕ
code q first len l = answer_code (mend_answer q first len l)

-- one fault after another: each with the one behind it
abbrev wrong : List CubeLayout
wrong = layout_of 0 2 3 3 96 160 32 ∷ layout_of 2 2 3 3 32 160 32 ∷ layout_of 2 2 3 0 32 160 16 ∷ layout_of 2 2 3 0 96 160 16 ∷ []

pub record Computed : Type 0 where
  -- an atom: its elements stay, the bytes behind them become zero
  pub atom : mended small 32 (nines 32) ≡ nines 3 ++ replicate 29 0
  -- before the start nothing; behind a row its gap stays, with every byte of it; the second row and the second column are mended too
  pub before_start : mended small 0 (nines 36) ≡ nines 35 ++ 0 ∷ []
  pub gap : mended small 94 (nines 38) ≡ 0 ∷ 0 ∷ nines 35 ++ 0 ∷ []
  pub second_row : mended small 160 (nines 34) ≡ nines 3 ++ replicate 29 0 ++ nines 2
  -- the last byte of a part, and the first one behind the padding
  pub last_byte : positions_of (reported small 60 (nines 4)) ≡ 60 ∷ 61 ∷ 62 ∷ 63 ∷ []
  -- positions are the file's, ascending; zeros are not told
  pub report : reported small 62 (5 ∷ 0 ∷ 6 ∷ 6 ∷ 6 ∷ 7 ∷ []) ≡ record { position = 62; old = 5 } ∷ record { position = 67; old = 7 } ∷ []
  pub gap_untold : positions_of (reported small 94 (nines 38)) ≡ 94 ∷ 95 ∷ 131 ∷ []
  -- two bytes an element: padding begins behind the sixth byte; two surfaces: only the second has padding; full atoms have none
  pub sixteen_bit : mended words 0 (nines 32) ≡ nines 6 ++ replicate 26 0
  pub surfaces_two : positions_of (reported two 0 (nines 65)) ≡ []
  pub surface_second : positions_of (reported two 62 (nines 5)) ≡ 65 ∷ 66 ∷ []
  pub none : reported full 0 (nines 32) ≡ []
  -- the paper's frame: its first surface is full, line gap and all; in the second the atoms end with 24 bytes of padding, the last one at 479
  pub paper_first : reported frame 0 (nines 128) ≡ []
  pub paper_second : mended frame 262 (nines 28) ≡ 9 ∷ 9 ∷ replicate 24 0 ++ 9 ∷ 9 ∷ []
  pub paper_end : positions_of (reported frame 478 (nines 4)) ≡ 478 ∷ 479 ∷ []
  -- and its answers: a file of 480 bytes is taken, 479 is 5; surface 224 is taken, 192 is 3
  pub paper_answers : code frame 0 480 (loan 2 2 2) ∷ code frame 0 479 (loan 2 2 2) ∷ code (layout_of 3 2 40 0 128 224 0) 0 480 (loan 2 2 2) ∷ code (layout_of 3 2 40 0 128 192 0) 0 480 (loan 2 2 2) ∷ [] ≡ 0 ∷ 5 ∷ 0 ∷ 3 ∷ []
  -- a call: its answer, what it leaves, the places past the report stay
  pub count : mend_count small 62 192 (loan 6 6 6) ≡ Ok 3
  pub left : mend_left small 62 192 (loan 6 8 7) ≡ lent (0 ∷ 0 ∷ 9 ∷ 9 ∷ 9 ∷ 0 ∷ []) (62 ∷ 63 ∷ 67 ∷ 7 ∷ 7 ∷ 7 ∷ 7 ∷ 7 ∷ []) (9 ∷ 9 ∷ 9 ∷ 8 ∷ 8 ∷ 8 ∷ 8 ∷ [])
  pub given : report_given small 66 192 (loan 2 4 4) ≡ record { position = 67; old = 9 } ∷ []
  pub back : written_back 62 (record { position = 62; old = 5 } ∷ record { position = 67; old = 7 } ∷ []) (replicate 6 0) ≡ 5 ∷ 0 ∷ 0 ∷ 0 ∷ 0 ∷ 7 ∷ []
  -- refused: all stays
  pub refused_left : mend_left small 62 192 (loan 6 5 6) ≡ loan 6 5 6
  -- the order, two faults at once: 1 and 2, 2 and 3, 3 and 4, 4 and 5
  pub double : map (λ (q : CubeLayout). code q 0 0 (loan 1 0 0)) wrong ≡ 1 ∷ 2 ∷ 3 ∷ 4 ∷ []
  -- the frame's 5 and the part's; the frame's 5 alone and the part's alone; each with 18; 18 by either list, alone
  pub fives : code small 188 191 (loan 5 5 5) ∷ code small 0 191 (loan 5 5 5) ∷ code small 188 192 (loan 5 5 5) ∷ [] ≡ 5 ∷ 5 ∷ 5 ∷ []
  pub five_eighteen : code small 0 191 (loan 5 4 5) ∷ code small 188 192 (loan 5 5 4) ∷ code small 187 192 (loan 5 4 5) ∷ code small 187 192 (loan 5 5 4) ∷ [] ≡ 5 ∷ 5 ∷ 18 ∷ 18 ∷ []
  -- a part that ends with the file is taken, and so is an empty one there; one past it is 5, and the sum does not wrap
  pub ends : code small 187 192 (loan 5 5 5) ∷ code small 192 192 (loan 0 0 0) ∷ code small 193 192 (loan 0 0 0) ∷ code small (2 ^ 64 - 1) (2 ^ 64 - 1) (loan 1 1 1) ∷ [] ≡ 0 ∷ 0 ∷ 5 ∷ 5 ∷ []

pub computed : Computed
unfolding require_at in_order leaves given size_valid element_bytes remade_from surfaces cube_extent surface_of row_of column_of byte_in_atom in_atom atom_owner owner sizes_valid whole_atoms strides_valid layout_checks mended_byte mended is_dirty reported mend_checks mend_answer mend_count filled mended_lists mend_left lines first_lines written_back
computed =
    record {
      atom = refl;
      before_start = refl;
      gap = refl;
      second_row = refl;
      last_byte = refl;
      report = refl;
      gap_untold = refl;
      sixteen_bit = refl;
      surfaces_two = refl;
      surface_second = refl;
      none = refl;
      paper_first = refl;
      paper_second = refl;
      paper_end = refl;
      paper_answers = refl;
      count = refl;
      left = refl;
      given = refl;
      back = refl;
      refused_left = refl;
      double = refl;
      fives = refl;
      five_eighteen = refl;
      ends = refl;
    }
