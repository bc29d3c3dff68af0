-- `parlour_calls::strips::Painter::paint_row` meets its contract. The loop's invariant: the first x columns of the row, or all where these are fewer, are painted, and the components of them
-- that were held are counted. Assumes nothing.
use Prim.Native.Nat.{ℕ, min}
use mathlib.Core.Path.{◌≡◌}
use Rattle.parlour.specs.Counts.{total, pixel_held}
use Rattle.parlour_calls.specs.Steps.{strip_of, part_painted}
use Rattle.parlour_calls.proofs.strips.Painter.paint_row.Given as goal

abbrev pub invariant-loop-x : goal.invariant-loop-x
invariant-loop-x l =
    let s = l.self in
    let done = min l.x s.image.width in
    (l.buffer ≡ part_painted s.layout s.target (strip_of s.target 0 l.y done) s.image l.pixels s.conversion l.initial.buffer)
    × (l.held ≡ total (λ (i : ℕ). pixel_held s.image l.pixels s.conversion s.layout.precision i l.y) done)
