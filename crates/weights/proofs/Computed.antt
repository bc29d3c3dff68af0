-- The paper's weights, computed (scope paper, "Worked on squared paper"); and of two faults at once the earlier in the order is told ("Refusal
-- numbers": "Orders"). Assumes nothing.
use Prim.Native.Nat.{ℕ}
use mathlib.Core.Path.{◌≡◌, refl}
use mathlib.Core.List.{List, [], ◌∷◌}
use lib.IntN.{ℤ, pos, negsuc}
use lib.ListN.{replicate}
use Rattle.refusal.specs.declared.Refusal.TheVariants.{Size, Precision, Int8Range, Fp16Nan, Bounds}
use Rattle.std.specs.Prelude.{Ok, Err}
use Rattle.refusal.specs.Codes.{answer_code}
use Rattle.refusal.specs.Checks.{require_at, in_order, leaves, given, Refused, refused_at}
use Rattle.refusal.specs.Sizes.{size_valid}
use Rattle.elements.specs.Bytes.{element_bytes, byte_of, word_at, signed, element_at}
use Rattle.elements.specs.Lists.{tabulate_from, tabulate}
use Rattle.elements.specs.Values.{is_nan, value_check, value_checks_from, value_checks}
use Rattle.weights.specs.declared.WeightLayout.{WeightLayout}
use Rattle.weights.specs.Geometry.{group_size, element_count, group_kernels, block_channels, offset_number, element_number, element_position, surface_bytes, number_at}
use Rattle.weights.specs.Rules.{sizes_valid, weight_checks, element_inside, element_checks}
use Rattle.weights.specs.Contents.{unpacked}
use Rattle.weights.specs.Calls.{pack_answer, unpack_answer, unpack_elements, count_quantity, extent_quantity, position_quantity}

abbrev weights : ℕ → ℕ → ℕ → ℕ → ℕ → WeightLayout
weights k c r s p = record { kernels = k; channels = c; rows = r; columns = s; precision = p }

-- K 3, C 65, R 1, S 2, int8; and K 17, C = R = S = 1, int16
abbrev small : WeightLayout
small = weights 3 65 1 2 0

abbrev groups : WeightLayout
groups = weights 17 1 1 1 1

abbrev packing : WeightLayout → List ℤ → ℕ → ℕ
packing q raw len = answer_code (pack_answer q raw len)

pub record Computed : Type 0 where
  pub positions : position_quantity small 1 64 0 1 ∷ position_quantity small 2 5 0 0 ∷ position_quantity groups 16 0 0 0 ∷ [] ≡ Ok 388 ∷ Ok 133 ∷ Ok 32 ∷ []
  pub counts : count_quantity small ∷ count_quantity groups ∷ [] ≡ Ok 390 ∷ Ok 17 ∷ []
  pub extents : extent_quantity small ∷ extent_quantity groups ∷ [] ≡ Ok 512 ∷ Ok 128 ∷ []
  -- 9: each index one past its last
  pub outside : position_quantity small 3 64 0 1 ∷ position_quantity small 2 65 0 1 ∷ position_quantity small 2 64 1 1 ∷ position_quantity small 2 64 0 2 ∷ []
      ≡ Err (refused_at 0 Bounds) ∷ Err (refused_at 0 Bounds) ∷ Err (refused_at 0 Bounds) ∷ Err (refused_at 0 Bounds) ∷ []
  pub last : position_quantity small 2 64 0 1 ≡ Ok 389
  -- a position, two at once: 1 and 2, 2 and 9; 1 and 9
  pub positions_double : position_quantity (weights 0 65 1 2 3) 0 0 0 0 ∷ position_quantity (weights 3 65 1 2 3) 3 0 0 0 ∷ position_quantity (weights 3 8193 1 2 0) 3 0 0 0 ∷ []
      ≡ Err (refused_at 0 Size) ∷ Err (refused_at 0 Precision) ∷ Err (refused_at 0 Size) ∷ []
  -- the counts: 1, 2, and both at once
  pub counts_refused : count_quantity (weights 3 65 33 2 0) ∷ count_quantity (weights 3 65 1 2 3) ∷ count_quantity (weights 3 65 1 0 3) ∷ [] ≡ Err (refused_at 0 Size) ∷ Err (refused_at 0 Precision) ∷ Err (refused_at 0 Size) ∷ []
  pub extents_refused : extent_quantity (weights 3 65 33 2 0) ∷ extent_quantity (weights 3 65 1 2 3) ∷ extent_quantity (weights 3 65 1 0 3) ∷ [] ≡ Err (refused_at 0 Size) ∷ Err (refused_at 0 Precision) ∷ Err (refused_at 0 Size) ∷ []
  -- packing, two at once: 1 and 2, 2 and 6, 6 and 5, 5 and 7; 7 alone; a buffer of the surface is valid
  pub packing_double : packing (weights 0 1 1 1 3) [] 0 ∷ packing (weights 1 1 1 1 3) [] 0 ∷ packing (weights 1 1 1 1 0) [] 127 ∷ packing (weights 1 1 1 1 0) (pos 200 ∷ []) 127 ∷ [] ≡ 1 ∷ 2 ∷ 6 ∷ 5 ∷ []
  pub value : pack_answer (weights 1 1 1 2 0) (pos 7 ∷ pos 200 ∷ []) 128 ≡ Refused Int8Range 1
  pub exact : packing (weights 1 1 1 1 0) (pos 100 ∷ []) 128 ≡ 0
  -- fp16: 6 and 26, 5 and 26; 26 alone, at the least index; infinities are taken, and in int16 every element
  pub nan_later : packing (weights 1 1 1 1 2) (negsuc 0 ∷ negsuc 0 ∷ []) 127 ∷ packing (weights 1 1 1 1 2) (negsuc 0 ∷ []) 127 ∷ [] ≡ 6 ∷ 5 ∷ []
  pub nan : pack_answer (weights 1 1 1 3 2) (pos 31744 ∷ negsuc 1022 ∷ pos 32767 ∷ []) 128 ≡ Refused Fp16Nan 1
  pub infinities : packing (weights 1 1 1 2 2) (pos 31744 ∷ negsuc 1023 ∷ []) 128 ∷ packing (weights 1 1 1 1 1) (negsuc 0 ∷ []) 128 ∷ [] ≡ 0 ∷ 0 ∷ []
  -- unpacking has no 26
  pub unpacking_nan : unpack_elements (weights 1 1 1 1 2) (1 ∷ 252 ∷ replicate 126 0) (negsuc 0 ∷ []) ≡ negsuc 1022 ∷ []
  -- unpacking, two at once: 1 and 2, 2 and 6, 6 and 5
  pub unpacking_double : answer_code (unpack_answer (weights 0 1 1 1 3) 0 0) ∷ answer_code (unpack_answer (weights 1 1 1 1 3) 0 0) ∷ answer_code (unpack_answer (weights 1 1 1 1 0) 0 127) ∷ [] ≡ 1 ∷ 2 ∷ 6 ∷ []

pub computed : Computed
unfolding require_at in_order leaves given size_valid element_bytes byte_of word_at signed element_at tabulate_from tabulate is_nan value_check value_checks_from value_checks group_size element_count group_kernels block_channels offset_number element_number element_position surface_bytes number_at sizes_valid weight_checks element_inside element_checks unpacked pack_answer unpack_answer unpack_elements count_quantity extent_quantity position_quantity
computed =
    record {
      positions = refl;
      counts = refl;
      extents = refl;
      outside = refl;
      last = refl;
      positions_double = refl;
      counts_refused = refl;
      extents_refused = refl;
      packing_double = refl;
      value = refl;
      exact = refl;
      nan_later = refl;
      nan = refl;
      infinities = refl;
      unpacking_nan = refl;
      unpacking_double = refl;
    }
