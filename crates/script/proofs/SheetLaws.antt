-- Parts, rows and texts of a whole sheet, from an empty state: the laws that the claims cite. Assumes nothing.
--     rows_whole, text-whole         the rows and the text of parts are those of the whole input
--     rows_same                      two ways to cut one input
--     count_is, number-at            how many rows, and their numbers
--     frame-done, leave-done         the desk after an accepted frame, and after an accepted leave
--     stall-first .. leave-first     records before a frame
--     leave-value                    the value of an accepted leave
--     leave-answer, leave-table      a leave, as a release with a buffer long enough
use Prim.Native.Nat.{ℕ, ◌+◌, ◌^◌, ◌≤◌, ◌<◌}
use native.Mathlib.Nat.{zero-add}
use native.Mathlib.Omega.{arith}
use mathlib.Core.Path.{◌≡◌, sym, ap, ◌∙◌}
use mathlib.Core.Bool.{true, false}
use mathlib.Core.List.{List, [], map, flatten, append-nil}
use lib.ListN.{length, get_or, length-replicate}
use lib.IntN.{pos}
use borrow.Author.Tests.{le-leb}
use Rattle.std.proofs.Common.{Some}
use Rattle.refusal.specs.declared.Refusal.TheVariants.{Size, BufferLength}
use Rattle.refusal.specs.Checks.{in_order, leaves, Answer, Accepted, Refused}
use Rattle.refusal.proofs.CheckLaws.{in_order-next, in_order-then, leaves-ap}
use Rattle.layout.specs.declared.CubeLayout.{CubeLayout}
use Rattle.layout.specs.Geometry.{cube_extent}
use Rattle.layout.specs.Boxes.{box_count}
use Rattle.layout.specs.Rules.{room_checks}
use Rattle.layout.specs.Contents.{zeros_of}
use Rattle.lines.specs.Texts.{lines_of}
use Rattle.lines.proofs.HoldLaws.{holds-empty, written-text}
use Rattle.lines.proofs.CollectLaws.{lines_from-none}
use Rattle.records.specs.declared.Record.TheVariants.{Frame, Stall, Cell, Leave}
use Rattle.regions.specs.Rules.{region_box, whole_region, region_box_checks, release_checks}
use Rattle.regions.specs.Calls.{no_region, empty_table, with_slot, release_answer, release_table}
use Rattle.script.specs.declared.Desk.{Desk}
use Rattle.script.specs.Rows.{start_desk, on_stall, record_answer, record_value, record_done, value_after, desk_after}
use Rattle.script.specs.Sheets.{sheet, line_number}
use Rattle.script.specs.Output.{header, output, output_of_parts}
use Rattle.script.specs.Feed.{start_sheet, rows_of_parts}
use Rattle.script.proofs.CutLaws as cut
use Rattle.script.proofs.OutputLaws as out
use Rattle.script.proofs.RowLaws as row

pub rows_whole : (parts : List (List ℕ)) → length (lines_of (flatten parts)) < 2 ^ 64 → rows_of_parts start_sheet parts ≡ sheet (flatten parts)
unfolding start_sheet sheet
rows_whole parts h =
    cut.rows-parts parts start_sheet [] holds-empty
    ∙ ap (cut.rows_from 0 start_desk) (lines_from-none (flatten parts))
    ∙ cut.rows-wrap (lines_of (flatten parts)) 0 start_desk (omega arith)

pub text-whole : (parts : List (List ℕ)) → length (lines_of (flatten parts)) < 2 ^ 64 → output_of_parts parts ≡ output (flatten parts)
unfolding output_of_parts output
text-whole parts h = rw (written-text header, out.handed-over (rows_of_parts start_sheet parts), rows_whole parts h)

pub rows_same : (parts others : List (List ℕ)) → flatten parts ≡ flatten others → rows_of_parts start_sheet parts ≡ rows_of_parts start_sheet others
unfolding start_sheet
rows_same parts others e =
    cut.rows-parts parts start_sheet [] holds-empty ∙ ap (cut.rows_in start_sheet []) e ∙ sym (cut.rows-parts others start_sheet [] holds-empty)

pub count_is : (input : List ℕ) → length (sheet input) ≡ length (lines_of input)
unfolding sheet
count_is input = row.rows-count 0 start_desk (lines_of input)

pub number-at : (input : List ℕ) (k : ℕ) → k < length (lines_of input) → get_or (map line_number (sheet input)) k 0 ≡ k + 1
unfolding sheet
number-at input k h = row.rows-number 0 start_desk (lines_of input) k h ∙ ap (λ (n : ℕ). n + 1) (zero-add k)

pub frame-done : (d : Desk) (q : CubeLayout) → record_answer d (Some (Frame q)) ≡ Accepted → desk_after d (Some (Frame q)) ≡ record { framed = true; table = empty_table q }
unfolding record_done
frame-done d q e = row.accepted-desk d (Some (Frame q)) e

pub leave-done : (d : Desk) (slot id : ℕ) → record_answer d (Some (Leave slot id)) ≡ Accepted
    → desk_after d (Some (Leave slot id)) ≡ record { framed = d.framed; table = with_slot d.table slot no_region }
unfolding record_done
leave-done d slot id e = row.accepted-desk d (Some (Leave slot id)) e

module _ (d : Desk) (f : d.framed ≡ false) where
  pub stall-first : (slot w0 h0 w h id : ℕ) → record_answer d (Some (Stall slot w0 h0 w h id)) ≡ Refused Size 0
  unfolding record_answer
  stall-first slot w0 h0 w h id = row.unframed d _ f

  pub cell-first : (slot c h w id : ℕ) → record_answer d (Some (Cell slot c h w id)) ≡ Refused Size 0
  unfolding record_answer
  cell-first slot c h w id = row.unframed d _ f

  pub leave-first : (slot id : ℕ) → record_answer d (Some (Leave slot id)) ≡ Refused Size 0
  unfolding record_answer
  leave-first slot id = row.unframed d _ f

-- ---- a leave, as a release
pub leave-value : (d : Desk) (slot id : ℕ) → record_answer d (Some (Leave slot id)) ≡ Accepted
    → value_after d (Some (Leave slot id)) ≡ length (zeros_of (region_box (on_stall d slot id) (whole_region (on_stall d slot id))))
unfolding record_value box_count
leave-value d slot id e = row.accepted-value d (Some (Leave slot id)) e ∙ sym (length-replicate (record_value d (Some (Leave slot id))) (pos 0))

-- with a buffer long enough
module _ (d : Desk) (f : d.framed ≡ true) (slot id len : ℕ) (room : d.table.layout.start + cube_extent d.table.layout ≤ len) where
  pub leave-answer : record_answer d (Some (Leave slot id)) ≡ release_answer d.table slot id len
  unfolding record_answer release_answer release_checks
  leave-answer =
      let checks = region_box_checks (on_stall d slot id) (whole_region (on_stall d slot id)) in
      row.framed_is d _ f
      ∙ ap in_order (sym (append-nil checks))
      ∙ in_order-then checks [] (room_checks d.table.layout len) (sym (in_order-next 0 BufferLength [] (le-leb _ _ room)))

  pub leave-table : (desk_after d (Some (Leave slot id))).table ≡ release_table d.table slot id len
  unfolding desk_after record_done release_table
  leave-table =
      leaves-ap (λ (e : Desk). e.table) (record_answer d (Some (Leave slot id))) _ d
      ∙ ap (λ (a : Answer). leaves a (with_slot d.table slot no_region) d.table) leave-answer
