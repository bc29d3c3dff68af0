-- `parlour_calls::strips::Painter::convert_strip` meets its contract. The loop's invariant: the first n components are converted, and those of them that were
-- held are counted. Assumes nothing.
use Prim.Native.Nat.{ℕ, ◌+◌, ◌*◌}
use mathlib.Core.Path.{◌≡◌}
use Rattle.columns.specs.Columns.{columns}
use Rattle.parlour.specs.Counts.{total}
use Rattle.parlour_calls.specs.Steps.{strip_element, run_held}
use Rattle.parlour_calls.proofs.strips.Painter.convert_strip.Given as goal

abbrev pub invariant-loop-n : goal.invariant-loop-n
invariant-loop-n l =
    let s = l.self in
    let step = s.image.channels * s.size in
    (l.tile ≡ columns (strip_element s.image.format s.size s.image.channels s.conversion s.layout.precision l.pixels l.at) l.count l.n 0 l.count l.initial.tile)
    × (l.held ≡ total (λ (m : ℕ). run_held s.image.format s.conversion s.layout.precision l.pixels (l.at + m * s.size) step l.count) l.n)
