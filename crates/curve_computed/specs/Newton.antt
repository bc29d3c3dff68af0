-- Newton's steps to a whole square root (change request K4): from above, while the estimate falls. Assumes nothing.
use Rattle.std.specs.Prelude.{ℕ, zero, suc, ◌+◌, ◌/◌, cond, List, [], ◌∷◌, ltb}

-- the estimate of n's root after e: the mean of e and n over e, rests dropped both times
unfoldable pub newton : ℕ → ℕ → ℕ
newton n e = (e + n / e) / 2

-- the estimates of n's root from e on while they fall, at most so many
unfoldable pub estimates : ℕ → ℕ → ℕ → List ℕ
estimates zero n e = []
estimates (suc most) n e = e ∷ cond (ltb (newton n e) e) (estimates most n (newton n e)) []

-- the last member, or the given number where there is none
unfoldable pub last_of : ℕ → List ℕ → ℕ
last_of none [] = none
last_of none (e ∷ es) = last_of e es
