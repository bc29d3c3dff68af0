-- `elements::word` meets its contract. Assumes nothing.
use mathlib.Core.Path.{◌≡◌, ◌∙◌}
use native.Mathlib.Omega.{arith}
use mir.Syntax.{w16}
use mir.Facts.{to_z-of_z}
use Rattle.elements.specs.Bytes.{bit_pattern}
use Rattle.elements.proofs.CastLaws.{both-bytes}
use Rattle.elements.proofs.word.Goals as goal

pub returns : goal.returns
returns c =
    let back = to_z-of_z {w = w16} c.ranges.x in
    let whole : c.cast_unsigned.result ≡ bit_pattern c.args.x = c.cast_unsigned.ensures ∙ rw back (both-bytes c.args.x c.ranges.x.sfits) in
    omega (arith, whole)
