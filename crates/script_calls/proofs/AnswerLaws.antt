-- A record's answer, value and desk in terms of what the code calls: a refused record changes nothing, an accepted one does what it says. By taking the
-- definitions of script/specs/Rows.antt apart. Assumes nothing.
--     recorded-refused, recorded-done    any record, by its answer
--     framed_or-refused, framed_or-passed  a record that is no frame, by the test for a frame before it
--     frame-refused, frame-valid         a frame, by its extent
--     stall-unframed, -refused, -placed  a stall, by its placing
--     cell-unframed, -refused, cell_at   a cell, by its position
--     leave-unframed .. leave-counted    a leave, by its stall's count
--     count-all-le                       the elements of a placed region, counted in 64 bits
--     line-refused, line-done            a line that has ended
use Prim.Native.Nat.{ℕ, ◌*◌, ◌≤◌, ◌<◌}
use native.Mathlib.Nat.{mul-le-mul}
use native.Mathlib.Omega.{arith}
use mathlib.Core.Path.{◌≡◌, refl, sym, ap, ◌∙◌}
use mathlib.Core.Bool.{Bool, true, false, cond}
use Rattle.std.specs.Prelude.{Option, Some, Result, Ok, Err}
use Rattle.refusal.specs.declared.Fault.{Fault}
use Rattle.refusal.specs.declared.Refusal.TheVariants.{Size}
use Rattle.refusal.specs.Checks.{Answer, Accepted, Refused}
use Rattle.refusal.proofs.CheckLaws.{given-accepted, given-refused, given-ok, given-err, leaves-done, leaves-before}
use Rattle.layout.specs.declared.CubeLayout.{CubeLayout}
use Rattle.layout.specs.Calls.{extent_quantity}
use Rattle.lines.specs.declared.Lines.{Lines}
use Rattle.lines.specs.Collecting.{next_lines}
use Rattle.records.specs.declared.Record.{Record}
use Rattle.records.specs.declared.Record.TheVariants.{Frame, Stall, Cell, Leave}
use Rattle.records.specs.Records.{line_record}
use Rattle.regions.specs.declared.Rectangle.{Rectangle}
use Rattle.regions.specs.declared.RegionTable.{RegionTable}
use Rattle.regions.specs.Rules.{access_of}
use Rattle.regions.specs.Calls.{no_region, empty_table, with_slot, place_answer, place_table, region_position, region_count}
use Rattle.regions.proofs.RuleLaws.{place-accepted, rectangle-columns, rectangle-rows, box-accepted}
use Rattle.script.specs.declared.Desk.{Desk}
use Rattle.script.specs.declared.Sheet.{Sheet}
use Rattle.script.specs.declared.Fed.{Fed}
use Rattle.script.specs.Rows.{on_stall, framed_or, record_answer, record_value, record_done, value_after, desk_after}
use Rattle.script.specs.Sheets.{row_of}
use Rattle.script.specs.Feed.{line_ended, line_row, line_fed}
use Rattle.script_calls.specs.declared.answers.Done.{Done}
use Rattle.script_calls.specs.Steps.{recorded}

module _ (d : Desk) where
  -- ---- any record
  pub recorded-refused : (r : Option Record) {f : Fault} → record_answer d r ≡ Err f → Err f ≡ recorded d r
  unfolding recorded
  recorded-refused r e = sym (given-refused _ e)

  pub recorded-done : (r : Option Record) {v : ℕ} {after : Desk} → record_answer d r ≡ Accepted → v ≡ record_value d r → after ≡ record_done d r
      → ◌≡◌ {A = Result Done Fault} (Ok (record { value = v; desk = after })) (recorded d r)
  unfolding recorded
  recorded-done r e v a = rw (v, a) (sym (given-accepted _ e))

  -- ---- a record that is no frame
  refused-so : (t : Bool) (a : Answer) {f : Fault} → cond t Accepted (Refused Size 0) ≡ Err f → cond t a (Refused Size 0) ≡ Err f
  refused-so true a e = cc
  refused-so false a e = e

  passed-so : (t : Bool) (a : Answer) → cond t Accepted (Refused Size 0) ≡ Accepted → cond t a (Refused Size 0) ≡ a
  passed-so true a e = refl
  passed-so false a e = cc

  pub framed_or-refused : (a : Answer) {f : Fault} → framed_or d Accepted ≡ Err f → framed_or d a ≡ Err f
  unfolding framed_or
  framed_or-refused a e = refused-so d.framed a e

  pub framed_or-passed : (a : Answer) → framed_or d Accepted ≡ Accepted → framed_or d a ≡ a
  unfolding framed_or
  framed_or-passed a e = passed-so d.framed a e

  -- ---- frame
  module _ (q : CubeLayout) where
    pub frame-refused : {f : Fault} → extent_quantity q ≡ Err f → Err f ≡ recorded d (Some (Frame q))
    unfolding extent_quantity record_answer
    frame-refused e = recorded-refused (Some (Frame q)) (given-err _ _ _ e)

    pub frame-valid : {v : ℕ} → extent_quantity q ≡ Ok v
        → ◌≡◌ {A = Result Done Fault} (Ok (record { value = v; desk = record { framed = true; table = empty_table q } })) (recorded d (Some (Frame q)))
    unfolding extent_quantity record_answer record_value record_done
    frame-valid e = let g = given-ok _ _ _ e in recorded-done (Some (Frame q)) g.0 (sym g.1) refl

  -- ---- stall
  module _ (slot id : ℕ) (g : Rectangle) where
    abbrev stall : Option Record
    stall = Some (Stall slot g.column g.row g.columns g.rows id)

    pub stall-unframed : {f : Fault} → framed_or d Accepted ≡ Err f → Err f ≡ recorded d stall
    unfolding record_answer
    stall-unframed e = recorded-refused stall (framed_or-refused _ e)

    module _ (framed : framed_or d Accepted ≡ Accepted) where
      pub stall-refused : {f : Fault} → place_answer d.table slot id g ≡ Err f → Err f ≡ recorded d stall
      unfolding record_answer
      stall-refused e = recorded-refused stall (framed_or-passed _ framed ∙ e)

      pub stall-placed : {v : ℕ} {t : RegionTable} → place_answer d.table slot id g ≡ Accepted → v ≡ g.columns * g.rows * d.table.layout.channels
          → t ≡ place_table d.table slot id g
          → ◌≡◌ {A = Result Done Fault} (Ok (record { value = v; desk = record { framed = d.framed; table = t } })) (recorded d stall)
      unfolding record_answer record_value record_done
      stall-placed e v p = recorded-done stall (framed_or-passed _ framed ∙ e) v (ap (λ (t : RegionTable). record { framed = d.framed; table = t }) p)

  -- ---- cell
  module _ (slot c h w id : ℕ) where
    pub cell-unframed : {f : Fault} → framed_or d Accepted ≡ Err f → Err f ≡ recorded d (Some (Cell slot c h w id))
    unfolding record_answer
    cell-unframed e = recorded-refused (Some (Cell slot c h w id)) (framed_or-refused _ e)

    module _ (framed : framed_or d Accepted ≡ Accepted) where
      pub cell-refused : {f : Fault} → region_position d.table slot id c h w ≡ Err f → Err f ≡ recorded d (Some (Cell slot c h w id))
      unfolding record_answer region_position
      cell-refused e = recorded-refused (Some (Cell slot c h w id)) (framed_or-passed _ framed ∙ given-err _ _ _ e)

      pub cell_at : {v : ℕ} → region_position d.table slot id c h w ≡ Ok v
          → ◌≡◌ {A = Result Done Fault} (Ok (record { value = v; desk = d })) (recorded d (Some (Cell slot c h w id)))
      unfolding record_answer record_value record_done region_position
      cell_at e = let g = given-ok _ _ _ e in recorded-done (Some (Cell slot c h w id)) (framed_or-passed _ framed ∙ g.0) (sym g.1) refl

  -- ---- leave
  module _ (slot id : ℕ) where
    pub leave-unframed : {f : Fault} → framed_or d Accepted ≡ Err f → Err f ≡ recorded d (Some (Leave slot id))
    unfolding record_answer
    leave-unframed e = recorded-refused (Some (Leave slot id)) (framed_or-refused _ e)

    pub leave-slot : {v : ℕ} → region_count d.table slot id ≡ Ok v → slot < 16
    unfolding region_count
    leave-slot e = (box-accepted (on_stall d slot id) _ (given-ok _ _ _ e).0).slot.number

    module _ (framed : framed_or d Accepted ≡ Accepted) where
      pub leave-refused : {f : Fault} → region_count d.table slot id ≡ Err f → Err f ≡ recorded d (Some (Leave slot id))
      unfolding record_answer region_count
      leave-refused e = recorded-refused (Some (Leave slot id)) (framed_or-passed _ framed ∙ given-err _ _ _ e)

      pub leave-counted : {v : ℕ} {t : RegionTable} → region_count d.table slot id ≡ Ok v → t ≡ with_slot d.table slot no_region
          → ◌≡◌ {A = Result Done Fault} (Ok (record { value = v; desk = record { framed = d.framed; table = t } })) (recorded d (Some (Leave slot id)))
      unfolding record_answer record_value record_done region_count
      leave-counted e p =
          let g = given-ok _ _ _ e in
          recorded-done (Some (Leave slot id)) (framed_or-passed _ framed ∙ g.0) (sym g.1) (ap (λ (t : RegionTable). record { framed = d.framed; table = t }) p)

-- ---- the elements of a placed region
module _ (t : RegionTable) (slot id : ℕ) (g : Rectangle) (ok : place_answer t slot id g ≡ Accepted) where
  count_le : g.columns * g.rows ≤ 8192 * 8192
  unfolding place_answer
  count_le =
      let p = place-accepted (access_of t slot id) g ok in
      mul-le-mul {n₁ = g.columns} {m₁ = g.rows} {n₂ = 8192} {m₂ = 8192} (omega (arith, p.layout.width_le, (rectangle-columns t.layout g p.inside).fit)) (omega (arith, p.layout.height_le, (rectangle-rows t.layout g p.inside).fit))

  pub count-all-le : g.columns * g.rows * t.layout.channels ≤ 8192 * 8192 * 8192
  unfolding place_answer
  count-all-le = mul-le-mul count_le (place-accepted (access_of t slot id) g ok).layout.channels_le

-- ---- a line ended is its record's row, and the state after it
module _ (s : Sheet) (read : ℕ) {r : Option Record} {l : Lines} (e : r ≡ line_record s.lines.line) (n : l ≡ next_lines s.lines) where
  line_fed-is : {a : Answer} {v : ℕ} {d : Desk} → a ≡ record_answer s.desk r → v ≡ value_after s.desk r → d ≡ desk_after s.desk r
      → ◌≡◌ {A = Fed} (record { sheet = record { lines = l; desk = d }; read = read; given = Some (record { line = l.count; answer = a; value = v }) }) (line_fed s read)
  unfolding line_ended line_row row_of
  line_fed-is a v d = rw (a, v, d, e, n)

  pub line-refused : {f : Fault} → recorded s.desk r ≡ Err f
      → ◌≡◌ {A = Fed} (record { sheet = record { lines = l; desk = s.desk }; read = read; given = Some (record { line = l.count; answer = Err f; value = 0 }) }) (line_fed s read)
  unfolding recorded value_after desk_after
  line-refused h = let a = given-err _ _ _ h in line_fed-is (sym a) (sym (leaves-before _ 0 a)) (sym (leaves-before _ s.desk a))

  pub line-done : {done : Done} → recorded s.desk r ≡ Ok done
      → ◌≡◌ {A = Fed} (record { sheet = record { lines = l; desk = done.desk }; read = read; given = Some (record { line = l.count; answer = Accepted; value = done.value }) }) (line_fed s read)
  unfolding recorded value_after desk_after
  line-done {done} h =
      let a = given-ok _ _ _ h in
      line_fed-is (sym a.0) (sym (leaves-done _ 0 a.0 ∙ ap (λ (x : Done). x.value) a.1)) (sym (leaves-done _ s.desk a.0 ∙ ap (λ (x : Done). x.desk) a.1))
