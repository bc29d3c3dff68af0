-- `regions_calls::rules::region_at` meets its contract: a table has sixteen slots. Assumes nothing.
use Prim.Native.Nat.{ℕ, ◌≤◌, ◌<◌}
use native.Mathlib.Omega.{arith}
use lib.ListN.{length, get_or}
use mathlib.Core.Path.{◌≡◌}
use mathlib.Core.List.{List}
use denote.Bor.{Bor}
use Rattle.std.specs.Prelude.{Option, Some, None}
use Rattle.std.specs.Option.{MatchOption, option_copied}
use Rattle.std.specs.Slice.{IsItemAt}
use Rattle.std.proofs.lemmas.Option.{gets, get_or_from_slice_get}
use Rattle.std.proofs.lemmas.Grind.{common_steps}
use Rattle.general.proofs.ListLaws.{length-mapped}
use Rattle.regions.specs.declared.Region.{Region}
use Rattle.regions.specs.Calls.{no_region}
use Rattle.regions_calls.proofs.rules.region_at.Goals as goal

found : (l : List Region) (n : ℕ) (r : Option (Bor Region)) → length l ≡ 16 → IsItemAt l n r
    → MatchOption (option_copied r) (16 ≤ n) (λ region. (n < 16) × (region ≡ get_or l n no_region))
found l n None long there = grind (arith, common_steps, gets)
found l n (Some x) long there = grind (arith, common_steps, gets, get_or_from_slice_get l n x.now no_region)

pub returns : goal.returns
returns c =
    let long : length c.args.table.slots ≡ 16 = search length-mapped in
    rw c.copied.ensures (found c.args.table.slots c.args.slot c.get.result long c.get.ensures.lookup)
