-- The mending program's input (change request K8): the scope paper's `frame` line, then two different file names, one a line, by the paper's line
-- rules. Anything else is unreadable. Assumes nothing.
use Rattle.std.specs.Prelude.{ℕ, ◌≤◌, ◌≡◌, Bool, cond, not, ◌&&◌, List, [], ◌∷◌, leb, eqb, length, Option, None, Some}
use Rattle.std.proofs.Math.Seq.{slice}
use Rattle.layout.specs.declared.CubeLayout.{CubeLayout}
use Rattle.lines.specs.Texts.{longest, fields_of, lines_of, same_text}
use Rattle.records.specs.declared.Record.{Record}
use Rattle.records.specs.declared.Record.TheVariants.{Frame, Stall, Cell, Leave}
use Rattle.records.specs.Records.{record_of}
use Rattle.mend_text.specs.declared.Names.{Names}

-- what an input asks for: a frame, the file that holds it, and the file to write
pub data Request : Type 0 where
  unreadable : Request
  mending : CubeLayout → List ℕ → List ℕ → Request

-- a name is one field of a line: at least one byte, at most 120, no tab
unfoldable pub is_name : List ℕ → Bool
is_name line = leb 1 (length line) && leb (length line) longest && eqb (length (fields_of line)) 1

-- two different names behind a frame; names are compared as bytes
unfoldable pub with_names : Option Record → List ℕ → List ℕ → Request
with_names (Some (Frame q)) first second = cond (is_name first && is_name second && not (same_text first second)) (mending q first second) unreadable
with_names (Some (Stall slot w0 h0 w h id)) first second = unreadable
with_names (Some (Cell slot c h w id)) first second = unreadable
with_names (Some (Leave slot id)) first second = unreadable
with_names None first second = unreadable

-- exactly three lines
unfoldable pub by_lines : List (List ℕ) → Request
by_lines [] = unreadable
by_lines (a ∷ []) = unreadable
by_lines (a ∷ b ∷ []) = unreadable
by_lines (a ∷ b ∷ c ∷ []) = with_names (record_of a) b c
by_lines (a ∷ b ∷ c ∷ d ∷ more) = unreadable

unfoldable pub request_of : List ℕ → Request
request_of text = by_lines (lines_of text)

-- what `read_input` answers, as a request
unfoldable pub meant : Option Names → Request
meant None = unreadable
meant (Some names) = mending names.layout names.first.now names.second.now

-- a name stands in the text: it is the part from byte `first` to before byte `behind`
pub record StandsIn (text name : List ℕ) : Type 0 where
  pub first : ℕ
  pub behind : ℕ
  pub ordered : first ≤ behind
  pub within : behind ≤ length text
  pub part : name ≡ slice first behind text

-- and the names stand in the text
unfoldable pub Placed : List ℕ → Option Names → Type 0
Placed text None = Unit {0}
Placed text (Some names) = StandsIn text names.first.now × StandsIn text names.second.now
