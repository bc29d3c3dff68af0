-- `lut_calls::samples::bounds_of` meets its contract: the settings' numbers are read back. Assumes nothing.
use mathlib.Core.Path.{refl, ◌∙◌}
use mir.Syntax.{w64}
use mir.Facts.{sfits_widen}
use Rattle.general.proofs.Casts.{cast-value}
use Rattle.general.proofs.NumberLaws.{back64}
use Rattle.lut_calls.specs.StepsLoop.{bounds_of, SettingsFit}
use Rattle.lut_calls.proofs.samples.bounds_of.Goals as goal

fit : (c : goal.After-struct_told-3-1) → SettingsFit c.args.s
fit c =
    let t = c.struct_told-1.given in
    let x = t.0.1.1 in
    let y = t.1.0.1.1 in
    record {
      x_start = record { sfits = x.1.0.1 };
      x_end = record { sfits = x.1.1.0.1 };
      y_start = record { sfits = y.1.0.1 };
      y_end = record { sfits = y.1.1.0.1 };
    }

pub returns : goal.returns
unfolding bounds_of
returns c =
    let f = fit c in
    let x = c.first_x-x_first in (
      rw (
        back64 x.result x.type_inv ∙ x.ensures,
        cast-value {w' = w64} f.x_end (sfits_widen tt f.x_end),
        cast-value {w' = w64} f.y_start (sfits_widen tt f.y_start),
        cast-value {w' = w64} f.y_end (sfits_widen tt f.y_end),
      ) refl,
      f,
    )
