-- `olsketina::tables::slots_at` meets its contract. The loop's invariant: the first i slots are written over the empty ones. Assumes nothing.
use Prim.Native.Nat.{ℕ, ◌+◌, ◌*◌}
use mathlib.Core.Path.{◌≡◌}
use mathlib.Core.List.{List}
use Rattle.regions.specs.declared.Region.{Region}
use Rattle.regions.specs.Calls.{no_region}
use Rattle.olsketina.specs.Sizes.{slot_size}
use Rattle.olsketina.specs.Words.{overwritten}
use Rattle.olsketina.specs.Tables.{region_at}
use Rattle.olsketina.proofs.tables.slots_at.Given as goal

-- slot j, whatever stood there
abbrev made : List ℕ → ℕ → ℕ → Region → Region
made words at j old = region_at words (at + slot_size * j)

abbrev pub invariant-loop-i : goal.invariant-loop-i
invariant-loop-i l = l.slots ≡ overwritten no_region (made l.words l.at) 0 l.i l.initial.slots
