-- `cube::runs::run_position` meets its contract: the run's first element is in the cube. Assumes nothing.
use native.Mathlib.Omega.{arith}
use Rattle.layout.proofs.BoxLaws.{BoxValid}
use Rattle.layout.proofs.Valid.{Valid}
use Rattle.layout.proofs.CallLaws.{box-layout, box-layout-valid, box_checks-valid}
use Rattle.cube.specs.Steps.{run_position}
use Rattle.cube.proofs.runs.run_position.Goals as goal

pub overflow_add-channel : goal.overflow_add-channel
overflow_add-channel c =
    let valid : Valid c.args.layout = box-layout-valid c.args.layout c.args.b c.requires.b_value in
    let inside : BoxValid c.args.layout c.args.b = box_checks-valid c.args.layout c.args.b c.requires.b_value in
    omega (arith, c.requires.n_lt_channels.0, inside.channels.fit, valid.channels_le)

pub overflow_add-row : goal.overflow_add-row
overflow_add-row c =
    let valid : Valid c.args.layout = box-layout-valid c.args.layout c.args.b c.requires.b_value in
    let inside : BoxValid c.args.layout c.args.b = box_checks-valid c.args.layout c.args.b c.requires.b_value in
    omega (arith, c.requires.n_lt_channels.1, inside.rows.fit, valid.height_le)

pub position_of-requires : goal.position_of-requires
position_of-requires c =
    let inside : BoxValid c.args.layout c.args.b = box_checks-valid c.args.layout c.args.b c.requires.b_value in
    record {
      layout_value = box-layout c.args.layout c.args.b c.requires.b_value;
      channel_lt_channels = (
        omega (arith, c.requires.n_lt_channels.0, inside.channels.fit),
        omega (arith, c.requires.n_lt_channels.1, inside.rows.fit),
        omega (arith, inside.columns.some, inside.columns.fit),
      );
    }

pub returns : goal.returns
unfolding run_position
returns c = c.position_of.ensures
