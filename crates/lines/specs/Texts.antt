-- Lines and fields of a text, as bytes (scope paper, "The sheet program"). Assumes nothing.
use Rattle.std.specs.Prelude.{ℕ, zero, suc, ◌-◌, Bool, true, false, cond, ◌&&◌, List, [], ◌∷◌, ◌++◌, eqb, length, replicate}

-- a line of over 120 bytes, its newline not counted, is unreadable
abbrev pub longest : ℕ
longest = 120

-- a list, and 0 behind it up to a length
abbrev pub padded : ℕ → List ℕ → List ℕ
padded size l = l ++ replicate (size - length l) 0

-- ---- parts of a text

-- a byte before the first part
unfoldable pub before : ℕ → List (List ℕ) → List (List ℕ)
before b [] = (b ∷ []) ∷ []
before b (part ∷ parts) = (b ∷ part) ∷ parts

-- the parts of a text between its separators, empty ones among them: always one more than the separators
unfoldable pub split : ℕ → List ℕ → List (List ℕ)
split separator [] = [] ∷ []
split separator (b ∷ text) = cond (eqb b separator) ([] ∷ split separator text) (before b (split separator text))

-- fields are parted by tabs
unfoldable pub fields_of : List ℕ → List (List ℕ)
fields_of line = split 9 line

-- all parts but an empty last one: a last line may lack its newline
unfoldable pub without_empty_last : List (List ℕ) → List (List ℕ)
without_empty_last [] = []
without_empty_last ([] ∷ []) = []
without_empty_last ([] ∷ (part ∷ parts)) = [] ∷ without_empty_last (part ∷ parts)
without_empty_last ((b ∷ text) ∷ parts) = (b ∷ text) ∷ without_empty_last parts

-- lines end with a newline
unfoldable pub lines_of : List ℕ → List (List ℕ)
lines_of input = without_empty_last (split 10 input)

-- how many bytes stand before the first separator, or before the end
unfoldable pub part_length : ℕ → List ℕ → ℕ
part_length separator [] = zero
part_length separator (b ∷ text) = cond (eqb b separator) zero (suc (part_length separator text))

-- the parts behind a part, from the text that follows it: nothing, or its separator and the parts
unfoldable pub parts_behind : ℕ → List ℕ → List (List ℕ)
parts_behind separator [] = []
parts_behind separator (b ∷ text) = split separator text

-- two texts are the same
unfoldable pub same_text : List ℕ → List ℕ → Bool
same_text [] [] = true
same_text [] (b ∷ t) = false
same_text (a ∷ s) [] = false
same_text (a ∷ s) (b ∷ t) = eqb a b && same_text s t
