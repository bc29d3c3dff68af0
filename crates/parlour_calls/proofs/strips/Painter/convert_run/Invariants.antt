-- `parlour_calls::strips::Painter::convert_run` meets its contract. The loop's invariant: the first i elements are converted, and those of them that were held
-- are counted; p is where component i begins. Assumes nothing.
use Prim.Native.Nat.{◌+◌, ◌*◌}
use mathlib.Core.Path.{◌≡◌}
use Rattle.columns.specs.Columns.{bytes_set}
use Rattle.parlour_calls.specs.Steps.{run_element, run_held}
use Rattle.parlour_calls.proofs.strips.Painter.convert_run.Given as goal

abbrev pub invariant-loop-i : goal.invariant-loop-i
invariant-loop-i l =
    let s = l.self in
    let step = s.image.channels * s.size in
    (l.tile ≡ bytes_set (run_element s.image.format s.conversion s.layout.precision l.pixels l.at step) l.i l.from l.initial.tile)
    × (l.held ≡ run_held s.image.format s.conversion s.layout.precision l.pixels l.at step l.i)
    × (l.p ≡ l.at + step * l.i)
