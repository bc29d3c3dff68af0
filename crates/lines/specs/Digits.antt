-- Numbers as text: decimal digits, no leading zero save 0 itself, a minus before a negative number. Assumes nothing.
use Rattle.std.specs.Prelude.{ℕ, zero, suc, ◌+◌, ◌/◌, ◌%◌, Bool, true, false, cond, List, [], ◌∷◌, ◌++◌, eqb, ℤ, pos, negsuc}

-- the digits from the first that is not 0, so none of 0; a count of steps ends the recursion, and the number itself is enough
unfoldable pub leading_in : ℕ → ℕ → List ℕ
leading_in zero n = []
leading_in (suc steps) n = let more = leading_in steps (n / 10) ++ (48 + n % 10) ∷ [] in cond (eqb n 0) [] more

abbrev pub leading : ℕ → List ℕ
leading n = leading_in n n

-- all but the last, and the last
unfoldable pub digits : ℕ → List ℕ
digits n = leading (n / 10) ++ (48 + n % 10) ∷ []

-- a sign and a magnitude
unfoldable pub signed : Bool → ℕ → ℤ
signed minus zero = pos zero
signed true (suc n) = negsuc n
signed false (suc n) = pos (suc n)

-- a minus before a negative number
unfoldable pub numeral : ℤ → List ℕ
numeral (pos n) = digits n
numeral (negsuc n) = 45 ∷ digits (suc n)
