-- A worked case: what the definitions give, and what the scope paper prints. An answer is given as its number, 0 where the call is accepted; a value that is
-- refused as no number. Assumes nothing.
use Rattle.std.specs.Prelude.{ℕ, Bool, true, false, ◌&&◌, not, List, [], ◌∷◌, ℤ, pos, Ok, Err}
use Rattle.refusal.specs.Checks.{Answer, Quantity}
use Rattle.refusal.specs.Codes.{answer_code}
use Rattle.lut.specs.Rules.{same_z}

pub record Case : Type 0 where
  pub given : List ℤ
  pub paper : List ℤ

abbrev pub gives : List ℤ → List ℤ → Case
gives given paper = record { given = given; paper = paper }

-- one number
abbrev pub number : ℕ → ℕ → Case
number given paper = gives (pos given ∷ []) (pos paper ∷ [])

-- an answer's number
abbrev pub answers : Answer → ℕ → Case
answers a paper = number (answer_code a) paper

-- a quantity
abbrev pub quantity_of : Quantity → List ℤ
quantity_of (Ok n) = pos n ∷ []
quantity_of (Err fault) = []

-- the same numbers in the same order
unfoldable pub same_numbers : List ℤ → List ℤ → Bool
same_numbers [] [] = true
same_numbers [] (y ∷ ys) = false
same_numbers (x ∷ xs) [] = false
same_numbers (x ∷ xs) (y ∷ ys) = same_z x y && same_numbers xs ys

-- every case gives what the paper prints
unfoldable pub all_given : List Case → Bool
all_given [] = true
all_given (c ∷ cs) = same_numbers c.given c.paper && all_given cs

-- no case gives what stands beside it
unfoldable pub none_given : List Case → Bool
none_given [] = true
none_given (c ∷ cs) = not (same_numbers c.given c.paper) && none_given cs
