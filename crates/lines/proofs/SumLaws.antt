-- The checksum of bytes one after another. Assumes nothing.
--     checksum-fold                    it is the fold of the bytes
--     checksum-append                  bytes behind others
use Prim.Native.Nat.{ℕ}
use mathlib.Core.Path.{◌≡◌, refl}
use mathlib.Core.List.{List, [], ◌∷◌, ◌++◌}
use Rattle.std.specs.List.{fold}
use Rattle.lines.specs.Sums.{mixed, checksum}

pub checksum-fold : (text : List ℕ) (sum : ℕ) → fold mixed sum text ≡ checksum sum text
unfolding checksum
checksum-fold [] sum = refl
checksum-fold (b ∷ text) sum = checksum-fold text (mixed sum b)

pub checksum-append : (xs ys : List ℕ) (sum : ℕ) → checksum sum (xs ++ ys) ≡ checksum (checksum sum xs) ys
unfolding checksum
checksum-append [] ys sum = refl
checksum-append (b ∷ xs) ys sum = checksum-append xs ys (mixed sum b)
