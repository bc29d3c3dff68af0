-- `elements::high_byte` meets its contract. Assumes nothing.
use mir.Syntax.{w16}
use mir.Facts.{to_z-of_z}
use Rattle.elements.proofs.CastLaws.{high-byte}
use Rattle.elements.proofs.high_byte.Goals as goal

pub returns : goal.returns
returns c = let back = to_z-of_z {w = w16} c.ranges.x in
    rw (c.to_le_bytes.ensures, back) (high-byte c.args.x c.ranges.x.sfits)
