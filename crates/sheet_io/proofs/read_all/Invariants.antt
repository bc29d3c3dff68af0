-- `sheet_io::read_all` meets its contract. The loop's invariant: some parts were read. Assumes nothing.
use Rattle.sheet_io.specs.Printing.{Reading}
use Rattle.sheet_io.proofs.read_all.Given as goal

abbrev pub invariant-loop : goal.invariant-loop
invariant-loop l = Reading l.printed
