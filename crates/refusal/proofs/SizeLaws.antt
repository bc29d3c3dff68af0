-- One size, by the tests of the code. Assumes nothing.
--     size_small, size-large     below 1, and from 1 on
--     size-pos, size-le          what a size that is valid tells
--     size-true                  a size in its range is valid
use Prim.Native.Nat.{ℕ, ◌≤◌, ◌<◌}
use mathlib.Core.Path.{◌≡◌}
use mathlib.Core.Bool.{true, false}
use lib.Dec.{leb}
use borrow.Author.Tests.{le-leb, lt-leb, leb-true}
use Rattle.general.proofs.TestLaws.{and_left, and_right, and_both}
use Rattle.refusal.specs.Sizes.{size_valid}

module _ (most n : ℕ) where
  pub size_small : n < 1 → false ≡ size_valid most n
  unfolding size_valid
  size_small h = rw (lt-leb 1 n h)

  pub size-large : 1 ≤ n → leb n most ≡ size_valid most n
  unfolding size_valid
  size-large h = rw (le-leb 1 n h)

  pub size-pos : size_valid most n ≡ true → 1 ≤ n
  unfolding size_valid
  size-pos e = leb-true 1 n (and_left (leb 1 n) (leb n most) e)

  pub size-le : size_valid most n ≡ true → n ≤ most
  unfolding size_valid
  size-le e = leb-true n most (and_right (leb 1 n) (leb n most) e)

  pub size-true : 1 ≤ n → n ≤ most → size_valid most n ≡ true
  unfolding size_valid
  size-true h k = and_both (le-leb 1 n h) (le-leb n most k)
