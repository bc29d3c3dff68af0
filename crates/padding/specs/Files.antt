-- The words of the claims about mending (proofs/Claims.antt): a report as its reader has it, a file mended part by part, old values written back (change
-- request K8). Assumes nothing.
use Rattle.std.specs.Prelude.{ℕ, suc, ◌+◌, ◌-◌, ◌≤◌, ◌<◌, ◌≡◌, ◌⊎◌, ◌≢◌, length, get_or, take, set, Ok, Err}
use mathlib.Core.List.{List, [], ◌∷◌, ◌++◌, map, flatten}
use Rattle.refusal.specs.Checks.{Accepted, Quantity}
use Rattle.layout.specs.declared.CubeLayout.{CubeLayout}
use Rattle.layout.specs.Places.{PaddingByte}
use Rattle.padding.specs.Mending.{Dirt}
use Rattle.padding.specs.Calls.{Lent, mend_answer, mend_count, mend_left}

-- positions and old values side by side
unfoldable pub lines : List ℕ → List ℕ → List Dirt
lines [] olds = []
lines (p ∷ positions) [] = []
lines (p ∷ positions) (v ∷ olds) = record { position = p; old = v } ∷ lines positions olds

-- the report that a call gives: so many of the first places, as its answer says
unfoldable pub first_lines : Quantity → Lent → List Dirt
first_lines (Ok n) l = lines (take n l.positions) (take n l.olds)
first_lines (Err fault) l = []

abbrev pub report_given : CubeLayout → ℕ → ℕ → Lent → List Dirt
report_given q first len l = first_lines (mend_count q first len l) (mend_left q first len l)

-- the report has a place for each byte of the part
pub record Roomy (l : Lent) : Type 0 where
  pub positions_ge : length l.part ≤ length l.positions
  pub olds_ge : length l.part ≤ length l.olds

-- ---- which bytes a report tells

-- a line of the report of bytes from `first` on: a byte of theirs that is padding by the paper's formula, and not zero
pub record DirtyByte (q : CubeLayout) (first : ℕ) (bytes : List ℕ) (d : Dirt) : Type 0 where
  pub i : ℕ
  pub inside : i < length bytes
  pub place : d.position ≡ first + i
  pub pad : PaddingByte q d.position
  pub value : d.old ≡ get_or bytes i 0
  pub dirty : d.old ≢ 0

-- d is one of the lines
unfoldable pub One_of : Dirt → List Dirt → Type 0
One_of d [] = ⊥
One_of d (x ∷ report) = (d ≡ x) ⊎ One_of d report

-- positions rise, from p or more on
unfoldable pub Ascending : ℕ → List Dirt → Type 0
Ascending p [] = Unit
Ascending p (d ∷ report) = (p ≤ d.position) × Ascending (suc d.position) report

-- ---- a file from `first` on, cut into parts: one call for each, one after another

-- its bytes
abbrev pub file_bytes : List Lent → List ℕ
file_bytes ls = flatten (map (λ (l : Lent). l.part) ls)

-- what the calls leave of it
unfoldable pub file_left : CubeLayout → ℕ → ℕ → List Lent → List ℕ
file_left q first len [] = []
file_left q first len (l ∷ ls) = (mend_left q first len l).part ++ file_left q (first + length l.part) len ls

-- the reports that they give, joined
unfoldable pub file_report : CubeLayout → ℕ → ℕ → List Lent → List Dirt
file_report q first len [] = []
file_report q first len (l ∷ ls) = report_given q first len l ++ file_report q (first + length l.part) len ls

-- each has room for its report
unfoldable pub All_roomy : List Lent → Type 0
All_roomy [] = Unit
All_roomy (l ∷ ls) = Roomy l × All_roomy ls

-- each is accepted
unfoldable pub All_accepted : CubeLayout → ℕ → ℕ → List Lent → Type 0
All_accepted q first len [] = Unit
All_accepted q first len (l ∷ ls) = (mend_answer q first len l ≡ Accepted) × All_accepted q (first + length l.part) len ls

-- ---- old values written back at their positions, into bytes from `first` on

unfoldable pub written_back : ℕ → List Dirt → List ℕ → List ℕ
written_back first [] bytes = bytes
written_back first (d ∷ report) bytes = written_back first report (set bytes (d.position - first) d.old)
