-- `mend_io::printing::print_lines` meets its contract: what is printed is the text of the lines that fit. Assumes nothing.
use Prim.Native.Nat.{◌≤◌, ◌<◌}
use native.Mathlib.Omega.{arith}
use mathlib.Core.Path.{sym, ap, subst, ◌∙◌}
use lib.ListN.{length}
use lib.Seq.{length-take-le}
use Rattle.lines.specs.Sums.{checksum}
use Rattle.mend_text.specs.declared.Gathered.{Gathered}
use Rattle.mend_text.proofs.GatherLaws.{gather-some}
use Rattle.mend_io.proofs.ReportLaws.{gathered-lines, gathered-bytes, gathered-text}
use Rattle.mend_io.proofs.printing.print_lines.Goals as goal

pub slice_bounds-print-end : goal.slice_bounds-print-end
slice_bounds-print-end c =
    let within : c.gather-gathered.result.bytes ≤ length c.gather-gathered.new.out = let a = c.args in gathered-bytes a.positions.now a.olds.now a.text.now c.gather-gathered.new.out c.gather-gathered.ensures.counted c.gather-gathered.ensures.left in
    within

pub slice_bounds-print-end-2 : goal.slice_bounds-print-end-2
slice_bounds-print-end-2 c =
    let within : c.gather-gathered.result.bytes ≤ length c.gather-gathered.new.out = let a = c.args in gathered-bytes a.positions.now a.olds.now a.text.now c.gather-gathered.new.out c.gather-gathered.ensures.counted c.gather-gathered.ensures.left in
    sym (length-take-le _ _ within)

pub returns : goal.returns
returns c =
    let g = c in
    let a = g.args in
    let counted = g.gather-gathered.ensures.counted in
    let left = g.gather-gathered.ensures.left in
    let ps = a.positions.now in
    let os = a.olds.now in
    record {
      printed = record {
        counted = gathered-lines ps os a.text.now g.gather-gathered.new.out counted left;
        text = c.print-printed.ensures ∙ ap (checksum a.sum) (gathered-text ps os a.text.now g.gather-gathered.new.out counted left);
      };
      some = λ room some. subst (λ (x : Gathered). 0 < x.lines) (sym counted) (gather-some ps os (length a.text.now) room (omega (arith, c.type_inv.positions 0)) (omega (arith, c.type_inv.olds 0)) some);
    }
