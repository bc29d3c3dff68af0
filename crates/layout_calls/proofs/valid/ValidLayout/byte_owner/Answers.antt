-- `layout_calls::valid::ValidLayout::byte_owner` meets its contract: before the start and past the extent a byte is outside. Assumes nothing.
use Prim.Native.Nat.{ℕ, ◌≤◌, ◌<◌}
use mathlib.Core.Path.{sym, ap, subst, ◌∙◌}
use mathlib.Core.Bool.{Bool}
use Rattle.layout.specs.Owners.{outside, owner}
use Rattle.layout.specs.Whose.{in_extent, byte_owner}
use Rattle.layout.proofs.Valid.{valid}
use Rattle.layout.proofs.WhoseLaws.{owner-before, owner-past, in_extent-before, in_extent-past, in_extent-true}
use Rattle.layout_calls.proofs.valid.ValidLayout.byte_owner.Goals as goal

pub returns-then-position-self : goal.returns-then-position-self
unfolding byte_owner
returns-then-position-self c = let d = c in
    let q = d.args.self.layout in
    let p = d.args.position in
    sym (ap (byte_owner (in_extent q p)) (owner-before q (valid q d.args.self.accepted) p c.if-position-self.true) ∙ ap (λ (t : Bool). byte_owner t outside) (in_extent-before q p c.if-position-self.true))

pub returns-then-end-position : goal.returns-then-end-position
unfolding byte_owner
returns-then-end-position c = let d = c in
    let q = d.args.self.layout in
    let p = d.args.position in
    let h = subst (λ (n : ℕ). n ≤ p) c.end.ensures c.if-end-position.true in
    sym (ap (byte_owner (in_extent q p)) (owner-past q (valid q d.args.self.accepted) p h) ∙ ap (λ (t : Bool). byte_owner t outside) (in_extent-past q p c.if-position-self.false h))

pub returns : goal.returns
returns c = let d = c in
    let q = d.args.self.layout in
    let p = d.args.position in
    c.extent_owner.ensures ∙ sym (ap (λ (t : Bool). byte_owner t (owner q p)) (in_extent-true q p d.if-position-self.false (subst (λ (n : ℕ). p < n) c.end.ensures c.if-end-position.false)))
