-- `elements::all_valid` meets its contract. The loop's invariant: what was seen has no bit above the low ones just if each element so far is valid. Assumes nothing.
use Prim.Native.Nat.{◌^◌}
use mathlib.Core.Path.{◌≡◌}
use lib.Dec.{ltb}
use Rattle.elements.specs.Steps.{all_valid, low_bits}
use Rattle.elements.proofs.all_valid.Given as goal

abbrev pub invariant-loop-x : goal.invariant-loop-x
invariant-loop-x l = ltb l.seen (2 ^ low_bits l.precision) ≡ all_valid l.precision l.elements l.x-index
