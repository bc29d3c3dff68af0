-- Whose a byte is, as the call `whose` answers it: by its owner, and where it has none by the start and the extent (scope paper, "Cells and
-- cubes": "Bytes between lines or surfaces, and outside the extent, stay"). Assumes nothing.
use Rattle.std.specs.Prelude.{ℕ, ◌+◌, Bool, cond, ◌&&◌, leb, ltb, Result}
use Rattle.refusal.specs.declared.Fault.{Fault}
use Rattle.refusal.specs.Checks.{in_order, given}
use Rattle.layout.specs.declared.CubeLayout.{CubeLayout}
use Rattle.layout.specs.declared.ByteOwner.{ByteOwner}
use Rattle.layout.specs.declared.ByteOwner.TheVariants.{Element, Padding, Gap, Outside}
use Rattle.layout.specs.Geometry.{cube_extent}
use Rattle.layout.specs.Owners.{Owner, element, padding, outside, owner}
use Rattle.layout.specs.Rules.{layout_checks}

-- byte p lies between the start and the end of the extent
unfoldable pub in_extent : CubeLayout → ℕ → Bool
in_extent q p = leb q.start p && ltb p (q.start + cube_extent q)

-- an owner as it is answered; a byte of no atom is a gap where it lies in the extent
unfoldable pub byte_owner : Bool → Owner → ByteOwner
byte_owner within (element c h w b) = Element c h w b
byte_owner within padding = Padding
byte_owner within outside = cond within Gap Outside

-- whose byte p is: 1, 2, 3, 4
unfoldable pub whose_answer : CubeLayout → ℕ → Result ByteOwner Fault
whose_answer q p = given (in_order (layout_checks q)) (byte_owner (in_extent q p) (owner q p))
