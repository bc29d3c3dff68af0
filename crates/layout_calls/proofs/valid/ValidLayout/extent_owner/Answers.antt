-- `layout_calls::valid::ValidLayout::extent_owner` meets its contract: its quotients and remainders are the definition's digits. Assumes nothing.
use Prim.Native.Nat.{◌<◌}
use native.Mathlib.Omega.{arith}
use native.Mathlib.Nat.{mod-lt}
use mathlib.Core.Path.{sym, ap, ◌∙◌}
use mathlib.Core.Bool.{true}
use Rattle.layout.specs.Geometry.{surfaces}
use Rattle.layout.specs.Owners.{surface_of, row_of, column_of, byte_in_atom}
use Rattle.layout.specs.Whose.{byte_owner}
use Rattle.layout.proofs.Valid.{Valid, valid}
use Rattle.layout.proofs.Atoms.{line-pos, surface-pos}
use Rattle.layout.proofs.Extents.{surfaces-le}
use Rattle.layout.proofs.WhoseLaws.{owner-row, owner-column, owner-atom, surface_of-lt}
use Rattle.layout_calls.proofs.valid.ValidLayout.extent_owner.Goals as goal

pub nonzero_div-surface : goal.nonzero_div-surface
nonzero_div-surface c =
    let layout-valid : Valid c.args.self.layout = valid c.args.self.layout c.args.self.accepted in
    surface-pos c.args.self.layout layout-valid

pub nonzero_rem-in_surface : goal.nonzero_rem-in_surface
nonzero_rem-in_surface c =
    let layout-valid : Valid c.args.self.layout = valid c.args.self.layout c.args.self.accepted in
    surface-pos c.args.self.layout layout-valid

pub nonzero_div-row : goal.nonzero_div-row
nonzero_div-row c =
    let layout-valid : Valid c.args.self.layout = valid c.args.self.layout c.args.self.accepted in
    line-pos c.args.self.layout layout-valid

pub nonzero_rem-in_line : goal.nonzero_rem-in_line
nonzero_rem-in_line c =
    let layout-valid : Valid c.args.self.layout = valid c.args.self.layout c.args.self.accepted in
    line-pos c.args.self.layout layout-valid

pub returns-then-layout-row : goal.returns-then-layout-row
unfolding byte_owner row_of
returns-then-layout-row c =
    let layout-valid : Valid c.args.self.layout = valid c.args.self.layout c.args.self.accepted in
    let d = c in
    sym (ap (byte_owner true) (owner-row d.args.self.layout layout-valid d.args.position c.if-layout-row.true))

pub returns-then-layout-column : goal.returns-then-layout-column
unfolding byte_owner column_of
returns-then-layout-column c =
    let layout-valid : Valid c.args.self.layout = valid c.args.self.layout c.args.self.accepted in
    let d = c in
    sym (ap (byte_owner true) (owner-column d.args.self.layout layout-valid d.args.position c.if-layout-column.true))

pub overflow_cast-surface-2 : goal.overflow_cast-surface-2
unfolding surface_of
overflow_cast-surface-2 c =
    let layout-valid : Valid c.args.self.layout = valid c.args.self.layout c.args.self.accepted in
    let in-surfaces : surface_of c.args.self.layout c.args.position < surfaces c.args.self.layout = surface_of-lt c.args.self.layout layout-valid c.args.position c.requires.0 c.requires.1 in
    let d = c in
    omega (arith, in-surfaces, surfaces-le d.args.self.layout layout-valid)

pub atom_owner-requires : goal.atom_owner-requires
unfolding surface_of
atom_owner-requires c =
    let layout-valid : Valid c.args.self.layout = valid c.args.self.layout c.args.self.accepted in
    let in-surfaces : surface_of c.args.self.layout c.args.position < surfaces c.args.self.layout = surface_of-lt c.args.self.layout layout-valid c.args.position c.requires.0 c.requires.1 in
    let d = c in
    (in-surfaces, mod-lt _ (omega arith))

pub returns : goal.returns
unfolding surface_of row_of column_of byte_in_atom
returns c =
    let layout-valid : Valid c.args.self.layout = valid c.args.self.layout c.args.self.accepted in
    let in-surfaces : surface_of c.args.self.layout c.args.position < surfaces c.args.self.layout = surface_of-lt c.args.self.layout layout-valid c.args.position c.requires.0 c.requires.1 in
    let e = c in
    let d = e in
    c.atom_owner.ensures
    ∙ sym (ap (byte_owner true) (owner-atom d.args.self.layout layout-valid d.args.position d.requires.0 in-surfaces e.if-layout-row.false e.if-layout-column.false))
