-- `columns_calls::write` meets its contract: a block that fits is written in strips. Assumes nothing.
use native.Mathlib.Omega.{arith}
use mathlib.Core.Path.{sym, ◌∙◌}
use lib.ListN.{length}
use Rattle.columns.specs.Blocks.{block_fits}
use Rattle.columns.proofs.BlockLaws.{BlockFits, fitting-of, rows_end, columns-end, stride-some, block-written, block-kept}
use Rattle.columns_calls.proofs.write.Goals as goal

pub place_of-requires : goal.place_of-requires
unfolding block_fits
place_of-requires c =
    let fit : let a = c.args in BlockFits a.block (length a.elements.now) (length a.buffer.now) = fitting-of (sym c.fits.ensures ∙ c.if-fits.true) in
    (fit.some, fit.small)

pub write_strips-requires : goal.write_strips-requires
unfolding block_fits
write_strips-requires c =
    let fit : let a = c.args in BlockFits a.block (length a.elements.now) (length a.buffer.now) = fitting-of (sym c.fits.ensures ∙ c.if-fits.true) in
    let f = fit in
    let e = c.place_of.ensures in
    record {
      sizes = rw e.0 (f.rows_some, f.count_some, omega (arith, f.deep));
      rows_in = rw (e.1, e.2) (rows_end f);
      columns_in = rw (e.0, e.3, e.4) (stride-some f, f.deep, columns-end f);
    }

pub returns-then-fits : goal.returns-then-fits
unfolding block_fits
returns-then-fits c =
    let fit : let a = c.args in BlockFits a.block (length a.elements.now) (length a.buffer.now) = fitting-of (sym c.fits.ensures ∙ c.if-fits.true) in
    let a = c.args in
    let e = c.place_of.ensures in
    rw (e.0, e.1, e.2, e.3, e.4) at c.write_strips.ensures ∙ sym (block-written a.block a.elements.now a.buffer.now fit)

pub returns-else-fits : goal.returns-else-fits
unfolding block_fits
returns-else-fits c = let a = c.args in
    sym (block-kept a.block a.elements.now a.buffer.now (sym c.fits.ensures ∙ c.if-fits.false))
