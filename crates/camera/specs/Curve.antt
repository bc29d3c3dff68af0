-- The camera curve, a square root, and its X companion (scope paper, "Two tables"). Assumes nothing.
use Rattle.std.specs.Prelude.{ℕ, zero, suc, ◌*◌, min, cond, List, [], ◌∷◌, map, leb, ℤ, pos}

-- the greatest whole e at or below the limit with e² ≤ n
unfoldable pub root_up_to : ℕ → ℕ → ℕ
root_up_to zero n = 0
root_up_to (suc limit) n = cond (leb (suc limit * suc limit) n) (suc limit) (root_up_to limit n)

-- the greatest whole e with e² ≤ n: no such e is above n, so the limit n leaves none out
unfoldable pub root : ℕ → ℕ
root n = root_up_to n n

-- entry i of a curve with entries 0 to last: the greatest whole e with e² ≤ i·step; an index past the last gets the last entry
unfoldable pub curve_entry : ℕ → ℕ → ℕ → ℤ
curve_entry last step i = pos (root (min i last * step))

-- entry i of the Y curve
unfoldable pub curve_y : ℕ → ℤ
curve_y i = curve_entry 256 1048576 i

-- entry j of the X curve
unfoldable pub curve_x : ℕ → ℤ
curve_x j = curve_entry 64 262144 j

-- n indices, from the first on
unfoldable pub indices : ℕ → ℕ → List ℕ
indices first zero = []
indices first (suc n) = first ∷ indices (suc first) n

-- the 257 entries of Y
unfoldable pub y_table : List ℤ
y_table = map curve_y (indices 0 257)

-- the 65 entries of X
unfoldable pub x_table : List ℤ
x_table = map curve_x (indices 0 65)
