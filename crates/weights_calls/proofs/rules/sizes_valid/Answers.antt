-- `weights_calls::rules::sizes_valid` meets its contract: its tests are the definition's. Assumes nothing.
use Rattle.weights.specs.Rules.{sizes_valid}
use Rattle.weights_calls.proofs.rules.sizes_valid.Goals as goal

pub returns : goal.returns
unfolding sizes_valid
returns c =
    let r = c in
    let d = r in
    rw (d.size_valid.ensures, d.size_valid-2.ensures, r.size_valid-3.ensures, c.size_valid-4.ensures)
