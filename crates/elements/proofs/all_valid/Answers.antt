-- `elements::all_valid` meets its contract. Assumes nothing.
use Prim.Native.Nat.{ℕ, ◌^◌}
use mathlib.Core.Path.{◌≡◌, ap, ◌∙◌}
use native.Mathlib.Omega.{arith}
use lib.Dec.{ltb}
use lib.IntN.{pos}
use lib.ListN.{length, get_or}
use Rattle.elements.specs.Steps.{low_bits}
use Rattle.elements.proofs.StepLaws.{read_back, all_valid-none, all_valid-next}
use Rattle.elements.proofs.all_valid.Goals as goal

pub loop-x-init : goal.loop-x-init
loop-x-init c = all_valid-none c.args.precision c.args.elements.now

pub loop-x-preserved : goal.loop-x-preserved
loop-x-preserved c =
    let l = c.loop-x in
    let a = c.args in
    let zs = a.elements.now in
    let k = low_bits a.precision in
    let x = read_back (get_or zs l.x-index (pos 0)) c.x-1.given in
    c.either-seen.ensures k ∙ all_valid-next a.precision zs l.x-index (ltb l.seen (2 ^ k)) (ltb c.raised.result (2 ^ k)) _ x l.invariant c.raised.ensures

pub returns : goal.returns
returns c =
    let whole : c.loop-x.x-index ≡ length c.args.elements.now = omega arith in
    let seen = c.loop-x.invariant in
    ap (λ (n : ℕ). ltb c.loop-x.seen n) (c.limit.ensures ∙ ap (λ (p : ℕ). 2 ^ low_bits p) {y = c.args.precision} (omega arith)) ∙ (rw whole at seen)
