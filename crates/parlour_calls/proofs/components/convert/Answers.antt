-- `parlour_calls::components::convert` meets its contract: an accepted conversion gives the converted number. Assumes nothing.
use native.Mathlib.Omega.{arith}
use mathlib.Core.Path.{◌≡◌, ◌∙◌}
use mir.Syntax.{w32}
use mir.Facts.{to_z-of_z}
use Rattle.std.specs.Prelude.{Ok}
use Rattle.general.proofs.NumberLaws.{back16}
use Rattle.quantize.specs.Quantize.{conversion}
use Rattle.parlour_calls.proofs.AnswerLaws.{is-given, taken, value-given}
use Rattle.parlour_calls.proofs.components.convert.Goals as goal

-- what `quantize::convert` was handed is read back
answered : (c : goal.After-convert) → let a = c.args in c.convert.result ≡ Ok (conversion a.d a.k.offset a.k.scale a.k.shift a.precision)
answered c =
    let a = c.args in
    let e = simp (to_z-of_z {w = w32} c.ranges.d, back16 a.k.offset (omega arith), back16 a.k.scale (omega arith)) at c.convert.ensures in
    e ∙ value-given a.d a.k.offset a.k.scale a.k.shift a.precision c.requires

pub unwrap-requires : goal.unwrap-requires
unwrap-requires c = is-given (answered c)

pub returns : goal.returns
returns c = taken (answered c.before) c.unwrap.ensures
