-- An input fed in parts of any size to two calls, `feed` and `finish`, as a program makes them, one after another: over any state and any row, so that the
-- sheet and the log go by one definition (scope paper, "The sheet program"; change request K9). Assumes nothing.
use Rattle.std.specs.Prelude.{ℕ, zero, suc, ◌+◌, List, [], ◌∷◌, ◌++◌, length, drop}

-- what a call gives: the state after it, how many bytes of the part were read, and the row of a line that ended, if one did
pub record Reply (S R : Type 0) : Type 0 where
  pub state : S
  pub read : ℕ
  pub rows : List R

-- the two calls: `feed` reads a part up to its first newline, or whole; `finish` is the end of the input
pub record Feeder (S R : Type 0) : Type 0 where
  pub feed : S → List ℕ → Reply S R
  pub finish : S → Reply S R

-- the rows that calls gave, and the state after them
pub record Outcome (S R : Type 0) : Type 0 where
  pub rows : List R
  pub state : S

module _ {S R : Type 0} where
  -- rows that a call gave, before what the calls after it gave
  abbrev pub then_fed : List R → Outcome S R → Outcome S R
  then_fed rows o = record { rows = rows ++ o.rows; state = o.state }

  -- a part, fed so many times, each time what is left of it
  unfoldable pub part_fed : Feeder S R → ℕ → S → List ℕ → Outcome S R
  part_fed f zero s part = record { rows = []; state = s }
  part_fed f (suc calls) s part = let r = f.feed s part in then_fed r.rows (part_fed f calls r.state (drop r.read part))

  -- a part, fed until all of it is read: each call reads a byte at least, so its length is calls enough
  abbrev pub whole_part : Feeder S R → S → List ℕ → Outcome S R
  whole_part f s part = part_fed f (length part) s part

  -- all rows that parts give, one part after another, and the end
  unfoldable pub rows_of_parts : Feeder S R → S → List (List ℕ) → List R
  rows_of_parts f s [] = (f.finish s).rows
  rows_of_parts f s (part ∷ parts) = let o = whole_part f s part in o.rows ++ rows_of_parts f o.state parts

-- the rows of whole lines, the first of them after line n: each is told by its number, what stood before it and its text, and leaves what stands after it
unfoldable pub rows_of_lines : {D R : Type 0} → (ℕ → D → List ℕ → R) → (D → List ℕ → D) → ℕ → D → List (List ℕ) → List R
rows_of_lines row after n d [] = []
rows_of_lines row after n d (line ∷ lines) = row (n + 1) d line ∷ rows_of_lines row after (n + 1) (after d line) lines
