-- `mend_io::printing::print_report` meets its contract. The loop's invariant: the lines before `from` are printed. The measure is what is left of the report. Assumes nothing.
use Prim.Native.Nat.{◌-◌, ◌≤◌}
use mathlib.Core.Path.{◌≡◌}
use lib.ListN.{length, take}
use Rattle.lines.specs.Sums.{checksum}
use Rattle.padding.specs.Files.{lines}
use Rattle.mend_text.specs.Reports.{report_text}
use Rattle.mend_io.proofs.printing.print_report.Given as goal

abbrev pub invariant-loop-from : goal.invariant-loop-from
invariant-loop-from l = (l.from ≤ length l.positions) × (l.sum ≡ checksum l.initial.sum (report_text (take l.from (lines l.positions l.olds)))) × (length l.text ≡ length l.initial.text)

abbrev pub decreases-loop-from : goal.decreases-loop-from
decreases-loop-from l = length l.positions - l.from
