-- `walk_calls::atoms::bytes_of` meets its contract. The loop's invariant: the first j elements are written, k bytes, and the next one has the index i,
-- held at the greatest number of 64 bits. Assumes nothing.
use Prim.Native.Nat.{◌+◌, ◌*◌, min}
use mathlib.Core.Path.{◌≡◌}
use Rattle.elements.specs.Bytes.{element_bytes}
use Rattle.walk_calls.proofs.AtomLaws.{elements_written}
use Rattle.walk_calls.proofs.atoms.bytes_of.Given as goal

abbrev pub invariant-loop-j : goal.invariant-loop-j
invariant-loop-j l =
    (l.k ≡ 0 + element_bytes l.precision * l._j)
    × (l.i ≡ min (l.index + l._j * l.plane) 18446744073709551615)
    × (l.bytes ≡ elements_written (element_bytes l.precision) l.index l.plane l.elements l._j)
