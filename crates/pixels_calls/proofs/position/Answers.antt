-- `pixels_calls::position` meets its contract: it checks the setting, then the pixel, and gives its position. Assumes nothing.
use mathlib.Core.Path.{sym, ◌∙◌}
use Rattle.refusal.proofs.CheckLaws.{handed-on}
use Rattle.pixels.proofs.SettingLaws.{position-refused}
use Rattle.pixels_calls.proofs.position.Goals as goal

pub returns-in_err-setting : goal.returns-in_err-setting
returns-in_err-setting c =
    let a = c.args in
    handed-on c.from_residual.result c.from_residual.ensures.1 ∙ position-refused a.image a.x a.y (sym c.setting.ensures ∙ c.in_err-setting.was)
