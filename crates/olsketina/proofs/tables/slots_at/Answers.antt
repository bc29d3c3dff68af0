-- `olsketina::tables::slots_at` meets its contract. The loop's invariant: the first i slots are written over the empty ones. Assumes nothing.
use Prim.Native.Nat.{ℕ, ◌+◌, ◌*◌}
use native.Mathlib.Omega.{arith}
use native.Mathlib.Nat.{zero-add}
use mathlib.Core.Path.{◌≡◌, refl, ◌∙◌}
use mathlib.Core.List.{List}
use Rattle.elements.specs.Lists.{tabulate, tabulate_from}
use Rattle.regions.specs.declared.Region.{Region}
use Rattle.regions.specs.Calls.{no_region}
use Rattle.olsketina.specs.Sizes.{slot_size, slot_count}
use Rattle.olsketina.specs.Words.{overwritten}
use Rattle.olsketina.specs.Tables.{region_at, slots_at}
use Rattle.olsketina.proofs.OverLaws.{overwritten-next}
use Rattle.olsketina.proofs.tables.slots_at.Goals as goal

-- slot j, whatever stood there
abbrev made : List ℕ → ℕ → ℕ → Region → Region
made words at j old = region_at words (at + slot_size * j)

pub loop-i-init : goal.loop-i-init
loop-i-init c = unfold overwritten in refl

pub loop-i-preserved : goal.loop-i-preserved
loop-i-preserved c = rw c.region_at.ensures (rw zero-add at (overwritten-next no_region (made c.args.words.now c.args.at) 0 _ c.loop-i.i c.loop-i.invariant))

pub returns : goal.returns
returns c =
    let all : c.loop-i.i ≡ slot_count = omega arith in
    c.loop-i.invariant ∙ rw all (unfold overwritten slots_at tabulate tabulate_from in refl)
