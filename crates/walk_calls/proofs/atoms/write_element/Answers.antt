-- `walk_calls::atoms::write_element` meets its contract: it sets one byte, or two. Assumes nothing.
use native.Mathlib.Nat.{add-zero}
use native.Mathlib.Omega.{arith}
use mathlib.Core.Path.{◌≡◌, ap, ◌∙◌}
use lib.IntN.{ℤ}
use mir.Facts.{to_z-of_z}
use Rattle.elements.specs.Bytes.{byte_of}
use Rattle.columns.specs.Columns.{bytes_set}
use Rattle.columns.proofs.UnitLaws.{byte-bytes}
use Rattle.walk_calls.proofs.atoms.write_element.Goals as goal

pub returns-then-e-eq2 : goal.returns-then-e-eq2
unfolding bytes_set
returns-then-e-eq2 c =
    let low : c.low_byte.result ≡ byte_of c.args.x 0 = c.low_byte.ensures ∙ ap (λ (z : ℤ). byte_of z 0) (to_z-of_z c.ranges.x) in
    let high : c.high_byte.result ≡ byte_of c.args.x 1 = c.high_byte.ensures ∙ ap (λ (z : ℤ). byte_of z 1) (to_z-of_z c.ranges.x) in
    rw (c.if-e-eq2.true, add-zero c.args.k, low, high)

pub returns-else-e-eq2 : goal.returns-else-e-eq2
returns-else-e-eq2 c =
    let a = c.args in
    let low : c.low_byte.result ≡ byte_of a.x 0 = c.low_byte.ensures ∙ ap (λ (z : ℤ). byte_of z 0) (to_z-of_z c.ranges.x) in
    let one : a.e ≡ 1 = omega arith in
    rw one (byte-bytes (byte_of a.x) a.k a.bytes.now _ low)
