-- `parlour_calls::components::levels` meets its contract. The loop's invariant: the first n numbers are converted. Assumes nothing.
use Prim.Native.Nat.{ℕ, ◌<◌}
use mathlib.Core.Path.{◌≡◌}
use lib.ListN.{length, get_or}
use lib.IntN.{pos}
use Rattle.quantize.specs.Quantize.{conversion}
use Rattle.parlour_calls.specs.Steps.{unheld}
use Rattle.parlour_calls.proofs.components.levels.Given as goal

abbrev pub invariant-loop-n : goal.invariant-loop-n
invariant-loop-n l =
    (length l.levels ≡ 256)
    × ((m : ℕ) → m < l.n → get_or l.levels m unheld ≡ conversion (pos m) l.k.offset l.k.scale l.k.shift l.precision)
