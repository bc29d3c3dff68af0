-- `padding_calls::rows::stretch` meets its contract: bytes of atoms are a row's; where there are none nothing is padding. Assumes nothing.
use Prim.Native.Nat.{ℕ, ◌%◌}
use mathlib.Core.Path.{refl, subst⁻¹}
use mathlib.Core.Bool.{Bool, false, ◌&&◌}
use lib.Dec.{leb}
use Rattle.padding_calls.specs.Steps.{Mends}
use Rattle.padding_calls.proofs.GoesLaws.{goes-skip}
use Rattle.padding_calls.proofs.rows.stretch.Goals as goal

pub returns-else-atoms : goal.returns-else-atoms
returns-else-atoms c =
    let a = c.args in
    let r = c.requires in
    let lent = a.report.now in
    subst⁻¹ (λ (b : Bool). Mends (λ (x : ℕ). b && leb a.pad (x % 32)) a.first a.from a.to a.part.now lent a.part.now lent) c.if-atoms.false
    (record {
      same_positions = refl;
      same_olds = refl;
      goes = goes-skip (λ (x : ℕ). false) a.first a.part.now lent.positions.now lent.olds.now a.from a.to lent.lines r.from_le r.to_le r.count_le (λ x hx ht. refl);
    })
