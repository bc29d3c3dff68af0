-- `padding_calls::stretches::last_surface` meets its contract: at most 511 surfaces stand before the last one. Assumes nothing.
use Prim.Native.Nat.{ℕ, ◌+◌, ◌*◌}
use mathlib.Core.Path.{ap}
use Rattle.padding_calls.specs.Steps.{last_surface}
use Rattle.padding_calls.proofs.stretches.last_surface.Goals as goal

pub returns : goal.returns
unfolding last_surface
returns c = let q = c.args.layout in ap (λ (n : ℕ). q.start + n * q.surface) c.surfaces_before.ensures
