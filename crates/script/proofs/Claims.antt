-- The theorem about the whole input (scope paper, "The sheet program"; change request K1). `rows_of_parts` folds the very definitions that the contracts of
-- `begin`, `feed` and `finish` cite, over parts of any number and size, empty ones too; `sheet` has no parts and no state, only lines and records. Each
-- proof cites CallLaws.antt, RowLaws.antt or SheetLaws.antt. Assumes nothing.
use Prim.Native.Nat.{ℕ, ◌+◌, ◌^◌, ◌≤◌, ◌<◌}
use native.Mathlib.Nat.{le_refl}
use mathlib.Core.Path.{◌≡◌}
use mathlib.Core.Bool.{true, false}
use mathlib.Core.List.{List, map, flatten}
use lib.ListN.{length, get_or}
use Rattle.std.proofs.Common.{Option, Some}
use Rattle.refusal.specs.declared.Refusal.{Refusal}
use Rattle.refusal.specs.declared.Refusal.TheVariants.{Size}
use Rattle.refusal.specs.Checks.{Accepted, Refused}
use Rattle.layout.specs.declared.CubeLayout.{CubeLayout}
use Rattle.layout.specs.Geometry.{cube_extent}
use Rattle.layout.specs.Contents.{zeros_of}
use Rattle.lines.specs.Texts.{lines_of}
use Rattle.records.specs.declared.Record.{Record}
use Rattle.records.specs.declared.Record.TheVariants.{Frame, Stall, Cell, Leave}
use Rattle.regions.specs.Rules.{region_box, whole_region}
use Rattle.regions.specs.Calls.{no_region, empty_table, with_slot, release_answer, release_table}
use Rattle.script.specs.declared.Sheet.{Sheet}
use Rattle.script.specs.declared.Desk.{Desk}
use Rattle.script.specs.Rows.{on_stall, record_answer, value_after, desk_after}
use Rattle.script.specs.Sheets.{sheet, line_number}
use Rattle.script.specs.Output.{output, output_of_parts}
use Rattle.script.specs.Feed.{start_sheet, fed, part_fed, whole_part, rows_of_parts}
use Rattle.script.proofs.CallLaws as call
use Rattle.script.proofs.RowLaws as row
use Rattle.script.proofs.SheetLaws as whole

-- however the input is cut into parts, the calls give the rows of the whole input, if it has fewer than 2^64 lines
pub however-cut : (parts : List (List ℕ)) → length (lines_of (flatten parts)) < 2 ^ 64 → rows_of_parts start_sheet parts ≡ sheet (flatten parts)
however-cut = whole.rows_whole

-- and so does their text: what is handed over to be written, one after another, is the whole output of the whole input
pub output-cut : (parts : List (List ℕ)) → length (lines_of (flatten parts)) < 2 ^ 64 → output_of_parts parts ≡ output (flatten parts)
output-cut = whole.text-whole

-- two ways to cut one input give the same rows, however many lines it has
pub same_rows : (parts others : List (List ℕ)) → flatten parts ≡ flatten others → rows_of_parts start_sheet parts ≡ rows_of_parts start_sheet others
same_rows = whole.rows_same

-- a call reads no more than it was given, and a byte at least if it was given one
pub reads : (s : Sheet) (bytes : List ℕ) → ((fed s bytes).read ≤ length bytes) × (0 < length bytes → 0 < (fed s bytes).read)
reads s bytes = (call.read-within s bytes, call.read_some s bytes)

-- so a part takes at most as many calls as it has bytes: further calls with nothing left give nothing
pub calls-enough : (calls : ℕ) (s : Sheet) (bytes : List ℕ) → length bytes ≤ calls → part_fed calls s bytes ≡ whole_part s bytes
calls-enough calls s bytes h = call.calls-enough calls (length bytes) s bytes h (le_refl (length bytes))

-- a row for each line, an empty last one left out
pub row_count : (input : List ℕ) → length (sheet input) ≡ length (lines_of input)
row_count = whole.count_is

-- the lines are counted from 1
pub row_number : (input : List ℕ) (k : ℕ) → k < length (lines_of input) → get_or (map line_number (sheet input)) k 0 ≡ k + 1
row_number = whole.number-at

-- a refused record, a frame too, leaves the frame and the slots, and its value is 0
pub refused-changes-nothing : (d : Desk) (r : Option Record) {x : Refusal} {i : ℕ} → record_answer d r ≡ Refused x i → (desk_after d r ≡ d) × (value_after d r ≡ 0)
refused-changes-nothing d r e = (row.refused-desk d r e, row.refused-value d r e)

-- an accepted frame is the frame, and empties the slots
pub frame-empties : (d : Desk) (q : CubeLayout) → record_answer d (Some (Frame q)) ≡ Accepted → desk_after d (Some (Frame q)) ≡ record { framed = true; table = empty_table q }
frame-empties = whole.frame-done

-- an accepted leave empties its slot; the frame and every other slot stay
pub leave-empties : (d : Desk) (slot id : ℕ) → record_answer d (Some (Leave slot id)) ≡ Accepted
    → desk_after d (Some (Leave slot id)) ≡ record { framed = d.framed; table = with_slot d.table slot no_region }
leave-empties = whole.leave-done

-- and its value is the count of elements that a release of that stall sets to 0 (`release_buffer`)
pub leave-counts : (d : Desk) (slot id : ℕ) → record_answer d (Some (Leave slot id)) ≡ Accepted
    → value_after d (Some (Leave slot id)) ≡ length (zeros_of (region_box (on_stall d slot id) (whole_region (on_stall d slot id))))
leave-counts = whole.leave-value

-- after a frame a leave answers what a release with a buffer long enough answers, and leaves its table
pub leave-is-release : (d : Desk) → d.framed ≡ true → (slot id len : ℕ) → d.table.layout.start + cube_extent d.table.layout ≤ len
    → (record_answer d (Some (Leave slot id)) ≡ release_answer d.table slot id len) × ((desk_after d (Some (Leave slot id))).table ≡ release_table d.table slot id len)
leave-is-release d f slot id len room = (whole.leave-answer d f slot id len room, whole.leave-table d f slot id len room)

-- before an accepted frame a stall, a cell or a leave gets 1, whatever its numbers
pub before-a-frame : (d : Desk) → d.framed ≡ false
    → ((slot w0 h0 w h id : ℕ) → record_answer d (Some (Stall slot w0 h0 w h id)) ≡ Refused Size 0)
    × ((slot c h w id : ℕ) → record_answer d (Some (Cell slot c h w id)) ≡ Refused Size 0)
    × ((slot id : ℕ) → record_answer d (Some (Leave slot id)) ≡ Refused Size 0)
before-a-frame d f = (whole.stall-first d f, whole.cell-first d f, whole.leave-first d f)
