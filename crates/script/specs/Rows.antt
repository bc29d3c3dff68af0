-- What each record answers, its value, and the desk after it (scope paper, "The sheet program"; change request K1). Assumes nothing.
use Rattle.std.specs.Prelude.{ℕ, ◌+◌, ◌*◌, true, false, cond, Option, None, Some}
use Rattle.refusal.specs.declared.Refusal.TheVariants.{Size, ScriptLine}
use Rattle.refusal.specs.Checks.{in_order, leaves, Answer, Refused}
use Rattle.layout.specs.Geometry.{layout_of, element_position, cube_extent}
use Rattle.layout.specs.Boxes.{one_element, box_count}
use Rattle.layout.specs.Rules.{layout_checks}
use Rattle.records.specs.declared.Record.{Record}
use Rattle.records.specs.declared.Record.TheVariants.{Frame, Stall, Cell, Leave}
use Rattle.regions.specs.Slots.{rectangle}
use Rattle.regions.specs.Rules.{Access, access_of, rectangle_named, whole_region, region_box_checks}
use Rattle.regions.specs.Calls.{no_region, empty_table, with_slot, place_answer, place_table}
use Rattle.script.specs.declared.Desk.{Desk}

-- before any frame
abbrev pub start_desk : Desk
start_desk = record { framed = false; table = empty_table (layout_of 0 0 0 0 0 0 0) }

-- what a record on a stall goes by: the desk's table, the slot that it names, and the id that it gives
abbrev pub on_stall : Desk → ℕ → ℕ → Access
on_stall d slot id = access_of d.table slot id

-- before an accepted frame other records get 1
unfoldable pub framed_or : Desk → Answer → Answer
framed_or d a = cond d.framed a (Refused Size 0)

-- the refusal, or accepted: no buffer is at hand, so 5 isn't checked. A stall: 25, 8, 9, 10; a cell, and a leave of the whole stall: 8, 25, 9; a line that is
-- no record: 24
unfoldable pub record_answer : Desk → Option Record → Answer
record_answer d (Some (Frame q)) = in_order (layout_checks q)
record_answer d (Some (Stall slot w0 h0 w h id)) = framed_or d (place_answer d.table slot id (rectangle w0 h0 w h))
record_answer d (Some (Cell slot c h w id)) = framed_or d (in_order (region_box_checks (on_stall d slot id) (one_element c h w)))
record_answer d (Some (Leave slot id)) = framed_or d (in_order (region_box_checks (on_stall d slot id) (whole_region (on_stall d slot id))))
record_answer d None = Refused ScriptLine 0

-- extent, cell count of the stall, byte position, count of cells cleared
unfoldable pub record_value : Desk → Option Record → ℕ
record_value d (Some (Frame q)) = cube_extent q
record_value d (Some (Stall slot w0 h0 w h id)) = w * h * d.table.layout.channels
record_value d (Some (Cell slot c h w id)) =
    let g = rectangle_named (on_stall d slot id) in
    element_position d.table.layout c (g.row + h) (g.column + w)
record_value d (Some (Leave slot id)) = box_count (whole_region (on_stall d slot id))
record_value d None = 0

-- an accepted frame empties the slots, an accepted stall is placed, an accepted leave empties its slot
unfoldable pub record_done : Desk → Option Record → Desk
record_done d (Some (Frame q)) = record { framed = true; table = empty_table q }
record_done d (Some (Stall slot w0 h0 w h id)) = record { framed = d.framed; table = place_table d.table slot id (rectangle w0 h0 w h) }
record_done d (Some (Cell slot c h w id)) = d
record_done d (Some (Leave slot id)) = record { framed = d.framed; table = with_slot d.table slot no_region }
record_done d None = d

-- 0 if refused
unfoldable pub value_after : Desk → Option Record → ℕ
value_after d r = leaves (record_answer d r) (record_value d r) 0

-- a refused record changes nothing
unfoldable pub desk_after : Desk → Option Record → Desk
desk_after d r = leaves (record_answer d r) (record_done d r) d
