-- `walk_calls::atoms::bytes_of` meets its contract. The loop's invariant: the first j elements are written, k bytes, and the next one has the index i,
-- held at the greatest number of 64 bits. Assumes nothing.
use Prim.Native.Nat.{ℕ, ◌+◌, ◌*◌, ◌≤◌, min}
use native.Mathlib.Omega.{arith}
use mathlib.Core.Path.{◌≡◌, ap, ◌∙◌}
use lib.IntN.{pos}
use lib.ListN.{get_or}
use mir.Syntax.{w16}
use mir.Val.{to_z, of_z}
use mir.Facts.{to_z-of_z}
use Rattle.elements.specs.Bytes.{element_bytes}
use Rattle.elements.proofs.ByteLaws.{element_bytes-pos, element_bytes-le}
use Rattle.walk.specs.Walks.{atom_elements}
use Rattle.walk.proofs.SizeLaws.{atom_elements-room}
use Rattle.walk_calls.proofs.AtomLaws.{held-element, written_none, written-more, written_all}
use borrow.Author.Rules.{sfits_of}
use Rattle.walk_calls.proofs.atoms.bytes_of.Goals as goal
use Rattle.walk_calls.proofs.atoms.bytes_of.Goals.{After-element}

pub loop-j-init : goal.loop-j-init
loop-j-init c = let a = c.args in
    (omega arith, omega (arith, c.ranges), written_none (element_bytes a.precision) a.index a.plane a.elements.now)

-- the next element is in the atom
room : (c : After-element) → c.loop-j.k + c.size-e.result ≤ 32
room c =
    let p = c.args.precision in
    omega (
      arith,
      c.loop-j.invariant.0,
      c.size-e.ensures,
      atom_elements-room p c.loop-j._j (omega (arith, c.loop-j-test.true, c.min-n.ensures, c.full.ensures)),
    )

pub write_element-requires : goal.write_element-requires
write_element-requires c =
    let p = c.args.precision in
    (omega (arith, c.size-e.ensures, element_bytes-pos p), omega (arith, c.size-e.ensures, element_bytes-le p), room c.before)

pub overflow_add-k : goal.overflow_add-k
overflow_add-k c = omega (arith, room (goal.at.overflow_add-k c).After-element)

pub loop-j-preserved : goal.loop-j-preserved
loop-j-preserved c =
    let a = c.args in
    let e = element_bytes a.precision in
    let element-is : to_z w16 (of_z w16 c.element.result) ≡ get_or a.elements.now (a.index + c.loop-j._j * a.plane) (pos 0) =
    to_z-of_z {w = w16} (sfits_of c.element.type_inv)
    ∙ c.element.ensures
    ∙ ap (λ (n : ℕ). get_or a.elements.now n (pos 0)) c.loop-j.invariant.1
    ∙ held-element a.elements.now (a.index + c.loop-j._j * a.plane) (omega arith) in (
      omega (arith, c.loop-j.invariant.0, c.size-e.ensures),
      omega (arith, c.saturating_add-i.ensures, c.loop-j.invariant.1),
      written-more e a.index a.plane a.elements.now c.loop-j._j c.loop-j.invariant.2
          (c.write_element.ensures ∙ rw (element-is, c.size-e.ensures, c.loop-j.invariant.0)),
    )

pub returns : goal.returns
returns c =
    let a = c.args in
    let all : c.loop-j._j ≡ min a.channels (atom_elements a.precision) = omega (arith, c.loop-j-test.false, c.min-n.ensures, c.full.ensures) in
    c.loop-j.invariant.2 ∙ written_all a.precision a.channels a.index a.plane a.elements.now c.loop-j._j all
