-- `mend_io::copying::give_part` meets its contract: where the part is accepted, what is printed is its report. Assumes nothing.
use Prim.Native.Nat.{ℕ}
use native.Mathlib.Omega.{arith}
use mathlib.Core.Path.{◌≡◌, sym, subst, ◌∙◌}
use mathlib.Core.List.{List}
use lib.Seq.{length-take-le}
use Rattle.padding.specs.Mending.{Dirt}
use Rattle.padding.specs.Calls.{lent}
use Rattle.mend_io.specs.Steps.{Shown}
use Rattle.mend_io.proofs.ReportLaws.{shown-none}
use Rattle.mend_io.proofs.PartLaws.{part-within, count-positions, count-olds, count-report}
use Rattle.mend_io.proofs.copying.give_part.Goals as goal

pub returns-in_default : goal.returns-in_default
returns-in_default c = record { shown = shown-none _ _; part_bound = λ e. absurd (let z : ◌≡◌ {A = ℕ} 0 1 = cc in omega arith) }

pub returns-then-not-write_part : goal.returns-then-not-write_part
returns-then-not-write_part c = record { shown = shown-none _ _; part_bound = λ e. absurd (let z : ◌≡◌ {A = ℕ} 0 1 = cc in omega arith) }

pub slice_bounds-print_report-end : goal.slice_bounds-print_report-end
slice_bounds-print_report-end c =
    let a = c.args in
    let m = c.mend-mended in
    count-positions a.layout a.first a.size (lent a.part.now a.positions.now a.olds.now) c.in-Ok.count (sym m.ensures.counted ∙ c.in-Ok.is) m.new.positions m.new.olds m.auto.positions

pub slice_bounds-print_report-end-2 : goal.slice_bounds-print_report-end-2
slice_bounds-print_report-end-2 c =
    let a = c.args in
    let m = c.mend-mended in
    sym (length-take-le _ _ (count-positions a.layout a.first a.size (lent a.part.now a.positions.now a.olds.now) c.in-Ok.count (sym m.ensures.counted ∙ c.in-Ok.is) m.new.positions m.new.olds m.auto.positions))

pub slice_bounds-print_report-end-3 : goal.slice_bounds-print_report-end-3
slice_bounds-print_report-end-3 c =
    let a = c.args in
    let m = c.mend-mended in
    count-olds a.layout a.first a.size (lent a.part.now a.positions.now a.olds.now) c.in-Ok.count (sym m.ensures.counted ∙ c.in-Ok.is) m.new.positions m.new.olds m.auto.olds

pub slice_bounds-print_report-end-4 : goal.slice_bounds-print_report-end-4
slice_bounds-print_report-end-4 c =
    let a = c.args in
    let m = c.mend-mended in
    sym (length-take-le _ _ (count-olds a.layout a.first a.size (lent a.part.now a.positions.now a.olds.now) c.in-Ok.count (sym m.ensures.counted ∙ c.in-Ok.is) m.new.positions m.new.olds m.auto.olds))

pub print_report-requires : goal.print_report-requires
print_report-requires c =
    let a = c.args in
    let m = c.mend-mended in
    let is = sym m.ensures.counted ∙ c.in-Ok.is in
    let lent_at = lent a.part.now a.positions.now a.olds.now in
    let places = count-positions a.layout a.first a.size lent_at c.in-Ok.count is m.new.positions m.new.olds m.auto.positions in
    let values = count-olds a.layout a.first a.size lent_at c.in-Ok.count is m.new.positions m.new.olds m.auto.olds in
    record { positions_len = length-take-le _ _ places ∙ sym (length-take-le _ _ values); in_bounds = omega arith }

pub returns : goal.returns
returns c =
    let a = c.args in
    let m = c.mend-mended in
    let is = sym m.ensures.counted ∙ c.in-Ok.is in
    let lent_at = lent a.part.now a.positions.now a.olds.now in
    let report = count-report a.layout a.first a.size lent_at c.in-Ok.count is m.new.positions m.new.olds m.ensures.positions_left m.ensures.olds_left in
    record {
      shown = subst (λ (l : List Dirt). Shown a.sum l c.print_report.result) report c.print_report.ensures;
      part_bound = λ e. part-within a.layout a.first a.size lent_at c.in-Ok.count is;
    }
