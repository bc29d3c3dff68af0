-- `lut_calls::rules::y_end_valid` meets its contract: what it hands on is read back. Assumes nothing.
use mathlib.Core.Path.{refl}
use lib.IntN.{pos, negsuc}
use lib.Dec.{lit≤}
use Rattle.general.proofs.NumberLaws.{back32}
use Rattle.lut.proofs.SideLaws.{wider}
use Rattle.lut_calls.proofs.rules.y_end_valid.Goals as goal

pub linear_end-requires : goal.linear_end-requires
linear_end-requires c = let d = c in
    let s = d in
    rw (back32 s.args.s.select d.struct_told-1.given.0.1)
    (lit≤ tt, wider (negsuc 7) (pos 23) (negsuc 7) (pos 25) s.args.s.select refl refl s.requires)
