-- What a run of the sheet program wrote (scope paper, "The sheet program"). Assumes nothing.
use Prim.Native.Nat.{◌^◌, ◌<◌}
use mathlib.Core.Path.{◌≡◌}
use mathlib.Core.List.{flatten}
use lib.ListN.{length}
use Rattle.lines.specs.Texts.{lines_of}
use Rattle.lines.specs.Sums.{checksum}
use Rattle.script.specs.Output.{output}
use Rattle.sheet_io.specs.declared.Printed.{Printed}
use Rattle.sheet_io.specs.Printing.{Whole}
use Rattle.sheet_io.proofs.PrintLaws.{whole-text}

-- the header, the row of each line and no more: the whole output of all that was read, if it has fewer than 2^64 lines
pub whole-output : (p : Printed) (w : Whole p) → length (lines_of (flatten w.parts)) < 2 ^ 64 → p.sum ≡ checksum 0 (output (flatten w.parts))
whole-output = whole-text
