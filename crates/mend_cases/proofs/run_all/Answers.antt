-- `mend_cases::run_all` is safe and ends: each case ends within the cases. Assumes nothing.
use Prim.Native.Nat.{ℕ, ◌+◌, ◌-◌, ◌≤◌, ◌<◌}
use native.Mathlib.Omega.{arith}
use mathlib.Core.Path.{◌≡◌}
use mathlib.Core.List.{List}
use lib.ListN.{length, take, drop, length-drop}
use lib.Seq.{length-take-le}
use Rattle.lines.specs.Texts.{part_length}
use Rattle.lines.proofs.SplitLaws.{part_length-le}
use Rattle.mend_cases.proofs.run_all.Goals as goal

within : (cases : List ℕ) (from n : ℕ) → from < length cases → n ≡ part_length 0 (take (length cases - from) (drop from cases)) → from + n ≤ length cases
within cases from n h e =
    let rest = take (length cases - from) (drop from cases) in
    omega (arith, e, part_length-le 0 rest, length-take-le (length cases - from) (drop from cases) (omega (arith, length-drop from cases)), h)

pub overflow_add-end : goal.overflow_add-end
overflow_add-end c = omega (arith, within c.args.cases.now _ _ c.loop-from-test.true c.part_length.ensures)

pub slice_bounds-run_case-end : goal.slice_bounds-run_case-end
slice_bounds-run_case-end c = omega (arith, within c.args.cases.now _ _ c.loop-from-test.true c.part_length.ensures)
