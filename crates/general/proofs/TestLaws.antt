-- The parts of a test that holds. Assumes nothing.
--     and_left, and_right     one half
--     and-true                both halves
--     and_both                the whole from its halves
--     and-all                 every part of a row of tests
--     and-four                four tests
use mathlib.Core.Path.{◌≡◌, refl}
use mathlib.Core.Bool.{Bool, true, false, ◌&&◌}
use mathlib.Core.List.{List, [], ◌∷◌}

pub and_left : (a b : Bool) → (a && b) ≡ true → a ≡ true
and_left true b e = refl
and_left false b e = e

pub and_right : (a b : Bool) → (a && b) ≡ true → b ≡ true
and_right true b e = e
and_right false b e = cc

pub and-true : (a b : Bool) → (a && b) ≡ true → (a ≡ true) × (b ≡ true)
and-true a b e = (and_left a b e, and_right a b e)

pub and_both : {a b : Bool} → a ≡ true → b ≡ true → (a && b) ≡ true
and_both p q = rw (p, q)

-- ---- every part of a row of tests, a && b && c ..
abbrev pub and_row : Bool → List Bool → Bool
and_row a [] = a
and_row a (b ∷ rest) = and_row (a && b) rest

abbrev pub AllTrue : Bool → List Bool → Type 0
AllTrue a [] = a ≡ true
AllTrue a (b ∷ rest) = (a ≡ true) × AllTrue b rest

and_split : (a b : Bool) (rest : List Bool) → AllTrue (a && b) rest → AllTrue a (b ∷ rest)
and_split a b [] h = (and_left a b h, and_right a b h)
and_split a b (c ∷ rest) h = (and_left a b h.0, (and_right a b h.0, h.1))

pub and-all : (a : Bool) (rest : List Bool) → and_row a rest ≡ true → AllTrue a rest
and-all a [] e = e
and-all a (b ∷ rest) e = and_split a b rest (and-all (a && b) rest e)

-- four tests that hold
pub and-four : (a b c d : Bool) → a && b && c && d ≡ true → (a ≡ true) × (b ≡ true) × (c ≡ true) × (d ≡ true)
and-four a b c d e =
    let f = and_left (a && b && c) d e in
    let g = and_left (a && b) c f in
    (and_left a b g, and_right a b g, and_right (a && b) c f, and_right (a && b && c) d e)
