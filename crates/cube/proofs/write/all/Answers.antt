-- `cube::write::all` meets its contract. The outer loop's invariant: the buffer came toward what it is to become, and reached it in the channels
-- before n; the inner one's: whatever it is to become, since the loop began it came nearer, and reached it in the rows before r. Assumes nothing.
use Prim.Native.Nat.{ℕ, ◌+◌, ◌-◌, ◌*◌, ◌%◌, ◌<◌, ◌≤◌}
use native.Mathlib.Omega.{arith}
use native.Mathlib.Decide.{dec_lt}
use native.Mathlib.Nat.{mul-le-mul_right}
use borrow.Author.Tests.{lt-ltb, le-ltb}
use mathlib.Core.Path.{◌≡◌, refl, sym, ap, subst, subst⁻¹, ◌∙◌}
use mathlib.Core.Bool.{Bool, true, cond, ◌&&◌}
use mathlib.Core.List.{List}
use lib.Dec.{ltb}
use lib.ListN.{length}
use Rattle.general.proofs.Toward.{toward-trans}
use Rattle.general.proofs.NestLaws.{rows_more, before_more}
use Rattle.elements.proofs.ByteLaws.{element_bytes-pos, element_bytes-le}
use Rattle.columns.specs.declared.ColumnBlock.{ColumnBlock}
use Rattle.columns.specs.Blocks.{block_written, cleared}
use Rattle.layout.specs.declared.ElementBox.{ElementBox}
use Rattle.layout.specs.Geometry.{size_of, cube_extent}
use Rattle.layout.proofs.CallLaws.{clear-admitted, clear-front}
use Rattle.cube.specs.Steps.{AtomEnd, row_block, row_written, gathered, box_written}
use Rattle.cube.proofs.GoalLaws.{Goal, Reached, reached-keep, written-goal}
use Rattle.cube.proofs.WriteLaws.{RowDone, row_done}
use Rattle.cube.proofs.write.all.Invariants.{pad}
use Rattle.cube.proofs.write.all.Goals as goal
use Rattle.cube.proofs.write.all.Goals.{then-clear, else-clear}

pub atom_end-m-requires : goal.atom_end-m-requires
atom_end-m-requires g c =
    let a = c.args in
    let d = clear-admitted a.layout a.b (length a.buffer.now) c.requires.buffer_value in (
      subst⁻¹ (λ (e : ℕ). 1 ≤ e) c.element_bytes-e.ensures (element_bytes-pos a.layout.precision),
      subst⁻¹ (λ (e : ℕ). e ≤ 2) c.element_bytes-e.ensures (element_bytes-le a.layout.precision),
      c.loop-n-test.true,
      omega (arith, d.inside.channels.fit, d.layout.channels_le),
    )

pub row-block-requires-clause-b_value : goal.row-block-requires-clause-b_value
row-block-requires-clause-b_value g c = let a = c.args in clear-front a.layout a.b (length a.buffer.now) c.requires.buffer_value

-- two tests that are met by the same numbers
agree : (k x : ℕ) → (k < 32 → x < 32) → (x < 32 → k < 32) → ltb k 32 ≡ ltb x 32
agree k x f g = elim (dec_lt x 32) [
  | yes h ↦ lt-ltb k 32 (g h) ∙ sym (lt-ltb x 32 h)
  | no h ↦ elim (dec_lt k 32) [ yes i ↦ absurd (h (f i)) | no i ↦ le-ltb k 32 (omega (arith, i)) ∙ sym (le-ltb x 32 (omega (arith, h))) ]
]

-- one turn of the rows' loop: where its atoms are to be cleared, they are cleared before the row is written
pub loop-r-preserved : goal.loop-r-preserved
unfolding row_written
loop-r-preserved o c = λ before g h w.
    let a = c.args in
    let d = clear-admitted a.layout a.b (length a.buffer.now) c.requires.buffer_value in
    let end : AtomEnd (size_of a.layout) a.b.channel a.b.channels c.loop-n.n c.atom_end-m.result =
    subst (λ (e : ℕ). AtomEnd e a.b.channel a.b.channels c.loop-n.n c.atom_end-m.result) c.element_bytes-e.ensures c.atom_end-m.ensures in
    let n = c.loop-n.n in
    let m = c.atom_end-m.result in
    let r = c.loop-r.r in
    let b = c.row-block.result in
    let after = c.write.new.buffer in
    let clears = pad o && ltb ((m - n) * size_of a.layout) 32 in
    let so = c.loop-r.invariant before g h w in
    let room = subst (λ (x : ℕ). a.layout.start + cube_extent a.layout ≤ x) (sym c.loop-n.invariant.2.long ∙ h) d.room in
    let made : Bool → List ℕ = λ x. cond x (cleared b.at (32 * b.count) c.loop-r.buffer) c.loop-r.buffer in
    let bytes = (m - n) * c.element_bytes-e.result in
    let some : 1 ≤ bytes = omega (
      arith,
      mul-le-mul_right {m = 1} {n = m - n} c.element_bytes-e.result (omega (arith, c.atom_end-m.ensures.some)),
      subst⁻¹ (λ (e : ℕ). 1 ≤ e) c.element_bytes-e.ensures (element_bytes-pos a.layout.precision),
    ) in
    let fill : (k : ℕ) → (k < 32 → bytes < 32) → (bytes < 32 → k < 32) → pad o && ltb k 32 ≡ clears =
    λ k f g. ap (λ (b : Bool). pad o && b) (agree k bytes f g) ∙ ap (λ (e : ℕ). pad o && ltb ((m - n) * e) 32) c.element_bytes-e.ensures in
    let whole = c.atom_end-m.ensures.one in
    let came : c.if-clear.buffer ≡ made clears =
    elim c.if-clear.branch [
      | then-clear w ↦ w.buffer-is ∙ w.clear.ensures ∙ ap made (sym w.if-clear.true ∙ fill _ (λ h. omega (arith, h, some, whole)) (λ h. omega (arith, h, some, whole)))
      | else-clear w ↦ w.buffer-is ∙ ap made (sym w.if-clear.false ∙ fill _ (λ h. omega (arith, h, some, whole)) (λ h. omega (arith, h, some, whole)))
    ] in
    let is : after ≡ row_written (row_block a.layout a.b a.spacing.plane a.spacing.line n m r) clears a.elements.now c.loop-r.buffer =
    c.write.ensures ∙ ap (block_written b a.elements.now) came ∙ ap (λ (x : ColumnBlock). row_written x clears a.elements.now c.loop-r.buffer) c.row-block.ensures in
    let one = row_done a.layout d.layout a.b d.inside (pad o) a.spacing.plane a.spacing.line a.elements.now c.requires.columns_in_bounds before g room w n m r end c.loop-r-test.true
    (λ pt. c.loop-n.invariant.1 pt c.loop-n-test.true) c.loop-r.buffer (so.0.long ∙ h) clears refl in
    let two = subst⁻¹ (λ (x : List ℕ). RowDone a.layout d.layout a.b d.inside (pad o) a.spacing.plane a.spacing.line a.elements.now c.requires.columns_in_bounds before g room w n m r end c.loop-r-test.true c.loop-r.buffer x)
    is one in (
      toward-trans 0 g so.0 two.near,
      rows_more (Reached a.layout a.b (pad o) g c.loop-r.buffer) (Reached a.layout a.b (pad o) g after) (λ x k t. reached-keep a.layout a.b (pad o) g two.near x k t) n m r so.1 two.reached,
    )

pub loop-n-preserved : goal.loop-n-preserved
loop-n-preserved g c =
    let a = c.args in
    let d = clear-admitted a.layout a.b (length a.buffer.now) c.requires.buffer_value in
    let goal : List ℕ = box_written a.layout a.b (pad g) (gathered a.b a.spacing.plane a.spacing.line a.elements.now) a.buffer.now in
    let is-goal : Goal a.layout a.b (pad g) a.spacing.plane a.spacing.line a.elements.now a.buffer.now goal =
    written-goal a.layout d.layout a.b d.inside (pad g) c.requires.b_value a.spacing.plane a.spacing.line a.elements.now a.buffer.now d.room in
    let end : AtomEnd (size_of a.layout) a.b.channel a.b.channels c.loop-n.n c.atom_end-m.result =
    subst (λ (e : ℕ). AtomEnd e a.b.channel a.b.channels c.loop-n.n c.atom_end-m.result) c.element_bytes-e.ensures c.atom_end-m.ensures in
    let i = c.loop-r.invariant a.buffer.now goal c.loop-n.invariant.2.long is-goal in
    -- in the whole cube, the next channels begin an atom
    let begins : (pad g) ≡ true → (m : ℕ) → (a.b.channel + m) * size_of a.layout % 32 ≡ 0 → m * size_of a.layout % 32 ≡ 0 =
    λ t m e.
    let zero : a.b.channel + m ≡ m = omega (arith, ap (λ (b : ElementBox). b.channel) (c.requires.b_value t)) in
    ap (λ (x : ℕ). x * size_of a.layout % 32) (sym zero) ∙ e in (
      end.le,
      λ pt h. begins pt c.atom_end-m.result (end.next h),
      toward-trans 0 goal c.loop-n.invariant.2 i.0,
      before_more (Reached a.layout a.b (pad g) goal c.loop-n.buffer) (Reached a.layout a.b (pad g) goal c.loop-r.buffer)
          (λ x k t. reached-keep a.layout a.b (pad g) goal i.0 x k t)
          a.b.rows c.loop-n.n c.atom_end-m.result c.loop-r.r c.loop-r-test.false c.loop-n.invariant.3 i.1,
    )

pub returns : goal.returns
returns g c =
    let a = c.args in
    let d = clear-admitted a.layout a.b (length a.buffer.now) c.requires.buffer_value in
    let goal : List ℕ = box_written a.layout a.b (pad g) (gathered a.b a.spacing.plane a.spacing.line a.elements.now) a.buffer.now in
    let is-goal : Goal a.layout a.b (pad g) a.spacing.plane a.spacing.line a.elements.now a.buffer.now goal =
    written-goal a.layout d.layout a.b d.inside (pad g) c.requires.b_value a.spacing.plane a.spacing.line a.elements.now a.buffer.now d.room in
    is-goal.only c.loop-n.buffer c.loop-n.invariant.2 (λ x k hx hk. c.loop-n.invariant.3 x k (omega (arith, hx, c.loop-n-test.false)) hk)
