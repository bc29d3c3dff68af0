-- `walk_calls::strides::moved` meets its contract: both sums are taken where they are numbers of 64 bits. Assumes nothing.
use Prim.Native.Nat.{◌+◌, ◌^◌, ◌<◌}
use native.Mathlib.Omega.{arith}
use mathlib.Core.Path.{◌≡◌, ◌∙◌}
use borrow.Author.Tests.{lt-ltb, le-ltb}
use Rattle.walk.specs.Walks.{moved}
use Rattle.walk_calls.specs.Steps.{moved_on}
use Rattle.walk_calls.proofs.strides.moved.Goals as goal

pub returns-in_err-position : goal.returns-in_err-position
unfolding moved_on
returns-in_err-position c =
    let a = c.args in
    c.from_residual.ensures ∙ rw (le-ltb (a.walk.position + a.stride.bytes) (2 ^ 64) (omega (arith, c.in_err-position.ensures)))

pub returns-in_err-index : goal.returns-in_err-index
unfolding moved_on
returns-in_err-index c =
    let a = c.args in
    let fits : a.walk.position + a.stride.bytes < 2 ^ 64 = omega (arith, c.in_ok-position.ensures) in
    c.from_residual-in_err-index.ensures
    ∙ rw (
      lt-ltb (a.walk.position + a.stride.bytes) (2 ^ 64) fits,
      le-ltb (a.walk.index + a.stride.elements) (2 ^ 64) (omega (arith, c.in_err-index.ensures)),
    )

pub returns : goal.returns
unfolding moved_on moved
returns c =
    let a = c.args in
    -- each sum that was taken is the stride's, and a number of 64 bits
    let position : (a.walk.position + a.stride.bytes < 2 ^ 64) × (c.in_ok-position.position ≡ a.walk.position + a.stride.bytes) =
    (omega (arith, c.in_ok-position.ensures), omega (arith, c.in_ok-position.ensures)) in
    let index : (a.walk.index + a.stride.elements < 2 ^ 64) × (c.in_ok-index.index ≡ a.walk.index + a.stride.elements) =
    (omega (arith, c.in_ok-index.ensures), omega (arith, c.in_ok-index.ensures)) in
    rw (lt-ltb (a.walk.position + a.stride.bytes) (2 ^ 64) position.0, lt-ltb (a.walk.index + a.stride.elements) (2 ^ 64) index.0, position.1, index.1)
