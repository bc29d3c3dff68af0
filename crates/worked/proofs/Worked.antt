-- Every starred case of the scope paper holds of the definitions: one table, one statement, by computation. Assumes nothing.
use mathlib.Core.List.{List, ◌++◌}
use lib.Dec.{T, lit≤, lit<}
use Rattle.refusal.specs.Sizes.{size_valid}
use Rattle.refusal.specs.Checks.{require_at, in_order, leaves, given}
use Rattle.elements.specs.Bytes.{element_bytes, byte_of}
use Rattle.elements.specs.Lists.{remade_from, remade}
use Rattle.elements.specs.Values.{value_check, value_checks_from, value_checks}
use Rattle.layout.specs.Geometry.{element_count, raw_index, surfaces, element_position, cube_extent}
use Rattle.layout.specs.Boxes.{span_inside, box_inside}
use Rattle.layout.specs.Rules.{sizes_valid, whole_atoms, strides_valid, layout_checks, box_checks, storage_checks, cube_checks}
use Rattle.layout.specs.Owners.{surface_of, row_of, column_of, byte_in_atom, in_atom, atom_owner, owner}
use Rattle.layout.specs.Contents.{packed_byte, packed}
use Rattle.layout.specs.Calls.{pack_answer, pack_buffer, position_quantity}
use Rattle.integers.specs.Saturate.{saturate}
use Rattle.weights.specs.Geometry as w
use Rattle.quantize.specs.Quantize.{lowest, highest, quantize_checks, nearest_of, nearest, rounded, quantized, quantize_answer}
use Rattle.lut.specs.Numbers.{between, scaled, shifted, log_below}
use Rattle.lut.specs.Tables.{entry, interpolated, linear_side, linear_hit, reaches, exponential_side, exponential_hit, sloped, side_x, hit_x, answer_x, side_y, answer_y}
use Rattle.lut.specs.Samples.{kind_of, sample_kind, answering, answer_of, sample_answer, kind_number, same_kind, count_of, counted}
use Rattle.lut.specs.Rules.{mode_valid, same_z, end_valid, shift_valid, counter_sum, table_checks, lut_checks}
use Rattle.lut.specs.Calls.{run_answer, run_outputs, run_counters}
use Rattle.camera.specs.Curve.{curve_entry, curve_y, curve_x, indices, y_table, x_table}
use Rattle.camera.specs.Ready.{flat, ready_settings, ready_checks, ready_answer}
use Rattle.camera.proofs.RootLaws.{root_is}
use Rattle.worked.specs.Cases.{Case, same_numbers, all_given}
use Rattle.worked.specs.Cubes.{cube_cases}
use Rattle.worked.specs.Weights.{weight_cases}
use Rattle.worked.specs.Conversions.{conversion_cases}
use Rattle.worked.specs.Lookups.{tens_from, lookup_cases}
use Rattle.worked.specs.Cameras.{camera_cases}

-- the table
unfoldable pub cases : List Case
cases = cube_cases ++ weight_cases ++ conversion_cases ++ lookup_cases ++ camera_cases

pub worked : T (all_given cases)
unfolding cases same_numbers all_given cube_cases weight_cases conversion_cases lookup_cases camera_cases tens_from require_at in_order leaves given element_bytes byte_of remade_from remade value_check value_checks_from value_checks element_count raw_index surfaces element_position cube_extent span_inside box_inside size_valid sizes_valid whole_atoms strides_valid layout_checks box_checks storage_checks cube_checks surface_of row_of column_of byte_in_atom in_atom atom_owner owner packed_byte packed pack_answer pack_buffer position_quantity w.group_size w.element_count w.group_kernels w.block_channels w.offset_number w.element_number w.element_position w.surface_bytes saturate lowest highest quantize_checks nearest_of nearest rounded quantized quantize_answer between scaled shifted log_below entry interpolated linear_side linear_hit reaches exponential_side exponential_hit sloped side_x hit_x answer_x side_y answer_y kind_of sample_kind answering answer_of sample_answer kind_number same_kind count_of counted mode_valid same_z end_valid shift_valid counter_sum table_checks lut_checks run_answer run_outputs run_counters curve_entry curve_y curve_x indices y_table x_table flat ready_settings ready_checks ready_answer
worked =
    -- the curve's roots, by their squares
    rw (
      root_is 0 0 (lit≤ tt) (lit< tt),
      root_is 2097152 1448 (lit≤ tt) (lit< tt),
      root_is 267386880 16351 (lit≤ tt) (lit< tt),
      root_is 16777216 4096 (lit≤ tt) (lit< tt),
      root_is 17825792 4222 (lit≤ tt) (lit< tt),
    ) tt
