-- `padding_calls::rows::clear` meets its contract: zeros stay and are not reported. Assumes nothing.
use Prim.Native.Nat.{ℕ}
use mathlib.Core.Path.{refl}
use mathlib.Core.Bool.{true}
use Rattle.padding_calls.proofs.GoesLaws.{goes-zeros, zeros-slice}
use Rattle.padding_calls.proofs.rows.clear.Goals as goal

pub returns-else-not-all_zero : goal.returns-else-not-all_zero
returns-else-not-all_zero c =
    let a = c.args in
    let r = c.requires in
    let lent = a.report.now in
    let zeros = zeros-slice a.from a.to a.part.now r.to_le (c.all_zero.ensures c.if-not-all_zero.false) in
    record {
      same_positions = refl;
      same_olds = refl;
      goes = goes-zeros (λ (x : ℕ). true) a.first a.part.now lent.positions.now lent.olds.now a.from a.to lent.lines r.from_le r.to_le r.count_le zeros;
    }
