-- The words of the contracts inside this crate (change request K8): what was given to print for some lines of a report, for a part of the file and for all parts; how a run ends
-- once the first file is open. Assumes nothing.
use Rattle.std.specs.Prelude.{ℕ, ◌+◌, ◌≤◌, ◌<◌, ◌≡◌, true, ◌⊎◌, List, ◌++◌, length, take}
use Rattle.refusal.specs.Checks.{in_order}
use Rattle.layout.specs.declared.CubeLayout.{CubeLayout}
use Rattle.layout.specs.Rules.{layout_checks, room_checks}
use Rattle.lines.specs.Sums.{checksum}
use Rattle.padding.specs.Mending.{Dirt, reported}
use Rattle.mend_text.specs.Reports.{header, report_text, number_text}
use Rattle.mend_io.specs.declared.Ended.{Ended}
use Rattle.mend_io.specs.declared.printing.Printed.{Printed}
use Rattle.mend_io.specs.declared.printing.Batch.{Batch}
use Rattle.mend_io.specs.declared.copying.Step.{Step}
use Rattle.mend_io.specs.declared.copying.Step.TheVariants.{More, End, Failed}
use Rattle.mend_io.specs.Ending.{Alone, Whole, BrokenOff, Checked}

-- a number is printed last
abbrev pub number_end : ℕ → ℕ → ℕ → Ended
number_end sum n len = record { code = n; length = len; sum = checksum sum (number_text n) }

-- lines were printed
pub record Batched (sum : ℕ) (given : List Dirt) (b : Batch) : Type 0 where
  pub counted : b.lines ≡ length given
  pub text : b.sum ≡ checksum sum (report_text given)

-- of a report the first lines were printed, and all of them where no write failed
pub record Shown (sum : ℕ) (report : List Dirt) (p : Printed) : Type 0 where
  pub shown : ℕ
  pub text : p.sum ≡ checksum sum (report_text (take shown report))
  pub all : p.whole ≡ true → take shown report ≡ report

-- a part from position `at` up to `to` was read, at least one byte, within the length read before, and its whole report was printed
pub record PartCopied (q : CubeLayout) (len at sum to after : ℕ) : Type 0 where
  pub bytes : List ℕ
  pub some : 0 < length bytes
  pub next : to ≡ at + length bytes
  pub within : to ≤ len
  pub text : after ≡ checksum sum (report_text (reported q at bytes))

-- of a part from position `at` on, some lines of the report were printed
pub record PartBroken (q : CubeLayout) (at sum after : ℕ) : Type 0 where
  pub bytes : List ℕ
  pub shown : ℕ
  pub text : after ≡ checksum sum (report_text (take shown (reported q at bytes)))

unfoldable pub Stepped : CubeLayout → ℕ → ℕ → ℕ → Step → Type 0
Stepped q len at sum (More to after) = PartCopied q len at sum to after
Stepped q len at sum End = Unit {0}
Stepped q len at sum (Failed after) = PartBroken q at sum after

-- the header and some lines of the report of what was read were printed; where nothing failed, that is a file of the length read before, and all lines
pub record Copied (q : CubeLayout) (len : ℕ) (p : Printed) : Type 0 where
  pub file : List ℕ
  pub shown : ℕ
  pub text : p.sum ≡ checksum 0 (header ++ report_text (take shown (reported q 0 file)))
  pub all : p.whole ≡ true → (length file ≡ len) × (take shown (reported q 0 file) ≡ reported q 0 file)

-- the frame's checks over the length read accepted
pub record Written (q : CubeLayout) (len : ℕ) (e : Ended) : Type 0 where
  pub read : e.length ≡ len
  pub ended : Alone 24 e ⊎ (Whole q e ⊎ BrokenOff q e)

-- the input was readable
abbrev pub Mends : CubeLayout → Ended → Type 0
Mends q e = Alone 24 e ⊎ Checked (in_order (layout_checks q ++ room_checks q e.length)) q e
