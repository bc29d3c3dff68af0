-- What is promised of a file's parts and of calls of `gather`, one after another, and of a long input (change request K8). Each proof cites a law. Assumes nothing.
use Prim.Native.Nat.{ℕ, ◌^◌, ◌≤◌, ◌<◌}
use mathlib.Core.Path.{◌≡◌}
use mathlib.Core.List.{List, ◌++◌}
use lib.ListN.{length, get_or}
use Rattle.refusal.specs.Checks.{Accepted}
use Rattle.layout.specs.declared.CubeLayout.{CubeLayout}
use Rattle.padding.specs.Calls.{Lent, lent, mend_answer}
use Rattle.padding.specs.Files.{lines, file_bytes, All_roomy}
use Rattle.mend_text.specs.Requests.{unreadable, request_of}
use Rattle.mend_text.specs.Reports.{header, report_text, output, parts_text, gathered, all_gathered}
use Rattle.mend_text.proofs.LongLaws as input
use Rattle.mend_text.proofs.TextLaws as text
use Rattle.mend_text.proofs.GatherLaws as gather

-- however a file is cut into parts, the header and the lines for each part are the text for the whole file, if it is accepted as a whole; that calls of `gather` give the lines of a part is `gathered-joined`
pub however-cut : (q : CubeLayout) (len : ℕ) (ls : List Lent) (positions olds : List ℕ) → All_roomy ls → mend_answer q 0 len (lent (file_bytes ls) positions olds) ≡ Accepted
    → header ++ parts_text q 0 len ls ≡ output q (file_bytes ls)
however-cut = text.output-cut

-- with room for the longest line, 25 bytes, a call for some lines gathers one at least
pub gathers-some : (positions olds : List ℕ) (room : ℕ) → 25 ≤ room → ((k : ℕ) → get_or positions k 0 < 2 ^ 64) → ((k : ℕ) → get_or olds k 0 < 256)
    → 0 < length (lines positions olds) → 0 < (gathered positions olds room).lines
gathers-some positions olds room r p v = gather.gather-some positions olds room r (p 0) (v 0)

-- so as many calls as there are lines gather the text of the whole report
pub gathered-joined : (calls : ℕ) (positions olds buffer : List ℕ) → 25 ≤ length buffer → ((k : ℕ) → get_or positions k 0 < 2 ^ 64) → ((k : ℕ) → get_or olds k 0 < 256)
    → length (lines positions olds) ≤ calls → all_gathered calls positions olds buffer ≡ report_text (lines positions olds)
gathered-joined = gather.gather-all

-- a readable input has at most 363 bytes
pub too-long : (text : List ℕ) → 363 < length text → request_of text ≡ unreadable
too-long = input.request-long
