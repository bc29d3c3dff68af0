-- `curve_computed::table` meets its contract. The loop's invariant: the first i entries are the curve's. Assumes nothing.
use Prim.Native.Nat.{ℕ}
use native.Mathlib.Nat.{zero-add}
use native.Mathlib.Decide.{ℕ_discrete}
use native.Mathlib.Omega.{arith}
use mathlib.Core.Path.{◌≡◌, sym, ap, ◌∙◌}
use mathlib.Core.List.{map}
use lib.ListN.{length-set}
use lib.Seq.{ext_get_or, get_or-set_same, get_or-set_other}
use lib.IntN.{pos}
use Rattle.general.proofs.NumberLaws.{back16}
use Rattle.camera.specs.Curve.{curve_entry, indices}
use Rattle.camera.proofs.CurveLaws.{entries-length, entries_at}
use Rattle.curve_computed.proofs.table.Goals as goal

pub loop-i-preserved : goal.loop-i-preserved
loop-i-preserved g c =
    let l = c.loop-i in
    let of : (last step : ℕ) → last ≡ c.args.last → step ≡ c.args.step → curve_entry last step l.i ≡ curve_entry c.args.last c.args.step l.i =
    λ last step p q. ap (λ (n : ℕ). curve_entry n step l.i) p ∙ ap (λ (n : ℕ). curve_entry c.args.last n l.i) q in
    let v = back16 c.entry.result c.entry.type_inv ∙ c.entry.ensures ∙ of _ _ (omega arith) (omega arith) in (
      length-set l.entries l.i _ ∙ l.invariant.0,
      λ k h. elim (ℕ_discrete k l.i) [
        | yes e ↦ rw e (get_or-set_same l.entries l.i _ (pos 0) (omega (arith, l.invariant.0, c.loop-i-test.true)) ∙ v)
        | no f ↦ get_or-set_other l.entries l.i k _ (pos 0) f ∙ l.invariant.1 k (omega (arith, h, f))
      ],
    )

pub returns : goal.returns
returns g c =
    let l = c.loop-i in
    let n = g.row.N in
    let f = curve_entry c.args.last c.args.step in
    ext_get_or (pos 0) l.entries (map f (indices 0 n)) (l.invariant.0 ∙ sym (entries-length f 0 n))
    (λ k h. l.invariant.1 k (omega (arith, h, l.invariant.0, c.loop-i-test.false)) ∙ sym (entries_at f 0 n k (omega (arith, h, l.invariant.0)) ∙ ap f (zero-add k)))
