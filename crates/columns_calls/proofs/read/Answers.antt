-- `columns_calls::read` meets its contract: a block that fits is read in strips. Assumes nothing.
use Prim.Native.Nat.{◌≤◌}
use native.Mathlib.Omega.{arith}
use mathlib.Core.Path.{sym, ap, ◌∙◌}
use mathlib.Core.Bool.{Bool, ◌&&◌}
use lib.Dec.{leb}
use lib.ListN.{length}
use borrow.Author.Tests.{leb-true}
use Rattle.general.proofs.TestLaws.{and-true}
use Rattle.columns.specs.Blocks.{block_fits}
use Rattle.columns.proofs.BlockLaws.{BlockFits, fitting-of, rows_end, columns-end, block-read, block-unread}
use Rattle.columns_calls.proofs.read.Goals as goal

pub place_of-requires : goal.place_of-requires
unfolding block_fits
place_of-requires c =
    let t = and-true c.fits-fit.result (leb c.args.block.count c.args.block.plane) c.if-fit-block.true in
    let fit : let a = c.args in BlockFits a.block (length a.elements.now) (length a.buffer.now) = fitting-of (sym c.fits-fit.ensures ∙ t.0) in
    (fit.some, fit.small)

pub read_strips-requires : goal.read_strips-requires
unfolding block_fits
read_strips-requires c =
    let fit : let a = c.args in BlockFits a.block (length a.elements.now) (length a.buffer.now) × (a.block.count ≤ a.block.plane) =
    let b = c.args.block in
    let t = and-true c.fits-fit.result (leb b.count b.plane) c.if-fit-block.true in
    (fitting-of (sym c.fits-fit.ensures ∙ t.0), leb-true b.count b.plane t.1) in
    let w = fit in
    let f = w.0 in
    let e = c.place_of.ensures in
    record {
      sizes = rw (e.0, e.2) (f.rows_some, f.count_some, omega (arith, f.deep), w.1);
      rows_in = rw (e.1, e.2) (rows_end f);
      columns_in = rw (e.0, e.3, e.4) (f.deep, columns-end f);
    }

pub returns-then-fit-block : goal.returns-then-fit-block
unfolding block_fits
returns-then-fit-block c =
    let fit : let a = c.args in BlockFits a.block (length a.elements.now) (length a.buffer.now) × (a.block.count ≤ a.block.plane) =
    let b = c.args.block in
    let t = and-true c.fits-fit.result (leb b.count b.plane) c.if-fit-block.true in
    (fitting-of (sym c.fits-fit.ensures ∙ t.0), leb-true b.count b.plane t.1) in
    let a = c.args in
    let e = c.place_of.ensures in
    rw (e.0, e.1, e.2, e.3, e.4) at c.read_strips.ensures ∙ sym (block-read a.block a.buffer.now a.elements.now fit.0 fit.1)

pub returns-else-fit-block : goal.returns-else-fit-block
unfolding block_fits
returns-else-fit-block c = let a = c.args in
    sym (block-unread a.block a.buffer.now a.elements.now (ap (λ (t : Bool). t && leb a.block.count a.block.plane) (sym c.fits-fit.ensures) ∙ c.if-fit-block.false))
