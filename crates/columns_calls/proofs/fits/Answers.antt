-- `columns_calls::fits` meets its contract: its tests are the definition's, where no number passes 64 bits. Assumes nothing.
use Prim.Native.Nat.{◌+◌, ◌-◌, ◌*◌, ◌≤◌}
use native.Mathlib.Omega.{arith}
use mathlib.Core.Path.{◌≡◌, sym, ◌∙◌}
use mathlib.Core.Bool.{true, ◌&&◌}
use lib.Dec.{leb}
use borrow.Author.Tests.{leb-true, le-leb}
use Rattle.general.proofs.TestLaws.{and_both}
use Rattle.general.proofs.TestLaws.{and-true}
use Rattle.columns.specs.Blocks.{block_fits}
use Rattle.columns.proofs.BlockLaws.{fitting-same, fitting-false}
use Rattle.columns_calls.proofs.fits.Goals as goal

-- the first tests hold
tests : (c : goal.Then-size-rows) → let a = c.args in (1 ≤ a.block.size) × (a.block.size ≤ 2) × (1 ≤ a.block.rows) × (1 ≤ a.block.count) × (a.block.from ≤ a.given) × (a.block.at ≤ a.len)
tests c =
    let a = c.args in
    let t : leb 1 a.block.size && leb a.block.size 2 && leb 1 a.block.rows && leb 1 a.block.count && leb a.block.from a.given && leb a.block.at a.len ≡ true = c.if-size-rows.true in
    let g = and-true _ _ t in
    let f = and-true _ _ g.0 in
    let e = and-true _ _ f.0 in
    let d = and-true _ _ e.0 in
    let b = and-true _ _ d.0 in
    (leb-true 1 a.block.size b.0, leb-true a.block.size 2 b.1, leb-true 1 a.block.rows d.1, leb-true 1 a.block.count e.1, leb-true a.block.from a.given f.1, leb-true a.block.at a.len g.1)

pub returns-then-size-rows : goal.returns-then-size-rows
unfolding block_fits
returns-then-size-rows c = let a = c.args in
    let t = tests c in
    let read = (a.block.rows - 1) * a.block.plane + a.block.count in
    let wide = (a.block.count - 1) * a.block.stride + a.block.rows * a.block.size in
    fitting-same (leb (a.block.rows * a.block.size) a.block.stride && leb read (a.given - a.block.from) && leb wide (a.len - a.block.at))
    (λ e.
    let p = and-true _ _ e in
    let q = and-true _ _ p.0 in
    record {
      some = t.0;
      small = t.1;
      rows_some = t.2;
      count_some = t.3;
      deep = leb-true (a.block.rows * a.block.size) a.block.stride q.0;
      elements = omega (arith, t.4, leb-true read (a.given - a.block.from) q.1);
      bytes = omega (arith, t.5, leb-true wide (a.len - a.block.at) p.1);
    })
    (λ f. and_both (and_both (le-leb (a.block.rows * a.block.size) a.block.stride f.deep) (le-leb read (a.given - a.block.from) (omega (arith, f.elements)))) (le-leb wide (a.len - a.block.at) (omega (arith, f.bytes))))

pub returns : goal.returns
unfolding block_fits
returns c = let a = c.args in
    fitting-false
    (λ f.
    sym c.if-size-rows.false
    ∙ and_both (and_both (and_both (and_both (and_both (le-leb 1 a.block.size f.some) (le-leb a.block.size 2 f.small)) (le-leb 1 a.block.rows f.rows_some)) (le-leb 1 a.block.count f.count_some)) (le-leb a.block.from a.given (omega (arith, f.elements)))) (le-leb a.block.at a.len (omega (arith, f.bytes))))
