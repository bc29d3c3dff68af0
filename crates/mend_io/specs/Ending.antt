-- How a run of the mending program ends (change request K8): the number that it printed last, and by a checksum all that it gave to print. Whether a file opens,
-- is read and is written to its end, and what its bytes are, the system decides: where these are free, the definition says so. Assumes nothing.
use Rattle.std.specs.Prelude.{ℕ, ◌≡◌, ◌⊎◌, List, ◌++◌, length, take, Ok, Err}
use Rattle.refusal.specs.Codes.{code_of}
use Rattle.refusal.specs.Checks.{in_order, Answer}
use Rattle.layout.specs.declared.CubeLayout.{CubeLayout}
use Rattle.layout.specs.Rules.{layout_checks, room_checks}
use Rattle.lines.specs.Sums.{checksum}
use Rattle.padding.specs.Mending.{reported}
use Rattle.mend_text.specs.Requests.{Request, unreadable, mending}
use Rattle.mend_text.specs.Reports.{header, report_text, number_text, output}
use Rattle.mend_io.specs.declared.Ended.{Ended}

-- a refusal: its number alone was printed
pub record Alone (n : ℕ) (e : Ended) : Type 0 where
  pub code : e.code ≡ n
  pub sum : e.sum ≡ checksum 0 (number_text n)

-- what was printed is the text of the whole report of some bytes, as many as the length read; that they are the file's, nothing ties them to
pub record Whole (q : CubeLayout) (e : Ended) : Type 0 where
  pub file : List ℕ
  pub all : length file ≡ e.length
  pub code : e.code ≡ 0
  pub sum : e.sum ≡ checksum 0 (output q file)

-- a read or a write failed: of some bytes, of any length, some lines of the report, from the first on, and 24 were printed; how many lines is free
pub record BrokenOff (q : CubeLayout) (e : Ended) : Type 0 where
  pub file : List ℕ
  pub shown : ℕ
  pub code : e.code ≡ 24
  pub sum : e.sum ≡ checksum 0 (header ++ report_text (take shown (reported q 0 file)) ++ number_text 24)

-- the first file was read to its end, and the frame's checks over its length have answered
unfoldable pub Checked : Answer → CubeLayout → Ended → Type 0
Checked (Ok _) q e = Whole q e ⊎ BrokenOff q e
Checked (Err fault) q e = Alone (code_of fault.0) e

-- a run's end, by what its input asks for: where it is readable, 24 alone is the system's (a file that will not open or be read), and free
unfoldable pub Ends : Request → Ended → Type 0
Ends unreadable e = Alone 24 e
Ends (mending q first second) e = Alone 24 e ⊎ Checked (in_order (layout_checks q ++ room_checks q e.length)) q e
