-- The definitions give nothing of what the readings give that the scope paper shuts out: one statement, by computation. Assumes nothing.
use lib.Dec.{T}
use Rattle.refusal.specs.Sizes.{size_valid}
use Rattle.refusal.specs.Checks.{require_at, in_order, leaves}
use Rattle.elements.specs.Bytes.{element_bytes, byte_of}
use Rattle.elements.specs.Lists.{remade_from, remade}
use Rattle.elements.specs.Values.{value_check, value_checks_from, value_checks}
use Rattle.layout.specs.Geometry.{element_count, raw_index, surfaces, cube_extent}
use Rattle.layout.specs.Rules.{sizes_valid, whole_atoms, strides_valid, layout_checks, storage_checks, cube_checks}
use Rattle.layout.specs.Owners.{surface_of, row_of, column_of, byte_in_atom, in_atom, atom_owner, owner}
use Rattle.layout.specs.Contents.{packed_byte, packed}
use Rattle.layout.specs.Calls.{pack_answer, pack_buffer}
use Rattle.integers.specs.Saturate.{saturate}
use Rattle.weights.specs.Geometry as w
use Rattle.lut.specs.Numbers.{between, scaled, shifted}
use Rattle.lut.specs.Tables.{entry, interpolated, linear_side, linear_hit, sloped, side_x, hit_x, answer_x, side_y, answer_y}
use Rattle.lut.specs.Samples.{kind_of, sample_kind, answering, answer_of, sample_answer}
use Rattle.lut.specs.Rules.{mode_valid, same_z, end_valid, shift_valid, counter_sum, table_checks, lut_checks}
use Rattle.lut.specs.Calls.{run_answer, run_outputs}
use Rattle.worked.specs.Cases.{same_numbers, none_given}
use Rattle.worked.specs.Lookups.{tens_from}
use Rattle.worked.specs.Readings.{readings}

pub shut_out : T (none_given readings)
unfolding same_numbers none_given readings tens_from require_at in_order leaves element_bytes byte_of remade_from remade value_check value_checks_from value_checks element_count raw_index surfaces cube_extent size_valid sizes_valid whole_atoms strides_valid layout_checks storage_checks cube_checks surface_of row_of column_of byte_in_atom in_atom atom_owner owner packed_byte packed pack_answer pack_buffer w.group_size w.element_count w.group_kernels w.block_channels w.offset_number w.element_number w.element_position saturate between scaled shifted entry interpolated linear_side linear_hit sloped side_x hit_x answer_x side_y answer_y kind_of sample_kind answering answer_of sample_answer mode_valid same_z end_valid shift_valid counter_sum table_checks lut_checks run_answer run_outputs
shut_out = tt
