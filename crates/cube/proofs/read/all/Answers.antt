-- `cube::read::all` meets its contract. The outer loop's invariant: the elements of the channels before n are read; the inner one's: since it began
-- the elements came toward the box's, and those of the rows before r are read. Assumes nothing.
use Prim.Native.Nat.{ℕ, ◌*◌, ◌≤◌}
use native.Mathlib.Omega.{arith}
use mathlib.Core.Path.{◌≡◌, ap, subst, subst⁻¹, ◌∙◌}
use mathlib.Core.List.{List}
use lib.ListN.{length}
use lib.IntN.{ℤ, pos}
use Rattle.general.proofs.Toward.{Toward, toward-trans}
use Rattle.general.proofs.NestLaws.{before-none, rows_more}
use Rattle.elements.proofs.ByteLaws.{element_bytes-pos, element_bytes-le}
use Rattle.columns.specs.declared.ColumnBlock.{ColumnBlock}
use Rattle.columns.specs.Blocks.{block_read}
use Rattle.layout.specs.Geometry.{size_of}
use Rattle.layout.specs.Boxes.{box_count}
use Rattle.layout.specs.Contents.{box_elements}
use Rattle.layout.proofs.CallLaws.{admitted, admit-front}
use Rattle.cube.specs.declared.runs.Spacing.{Spacing}
use Rattle.cube.specs.Steps.{AtomEnd, row_block}
use Rattle.cube.proofs.RunLaws.{plane-le}
use Rattle.cube.proofs.ReadLaws.{RowRead, read-keep, read-toward, read-reached, read_only}
use Rattle.cube.proofs.read.all.Goals as goal

pub raw-spacing-requires : goal.raw-spacing-requires
raw-spacing-requires c =
    let a = c.args in
    let d = admitted a.layout a.b (length a.elements.now) (length a.buffer.now) c.requires in
    omega (arith, plane-le a.layout a.b d.layout d.inside)

pub loop-n-init : goal.loop-n-init
loop-n-init c =
    let a = c.args in
    let d = admitted a.layout a.b (length a.elements.now) (length a.buffer.now) c.requires in
    (omega arith, d.count, before-none (RowRead a.b (box_elements a.layout a.b a.buffer.now) a.elements.now) a.b.rows)

pub atom_end-m-requires : goal.atom_end-m-requires
atom_end-m-requires c =
    let a = c.args in
    let d = admitted a.layout a.b (length a.elements.now) (length a.buffer.now) c.requires in (
      subst⁻¹ (λ (e : ℕ). 1 ≤ e) c.element_bytes-e.ensures (element_bytes-pos a.layout.precision),
      subst⁻¹ (λ (e : ℕ). e ≤ 2) c.element_bytes-e.ensures (element_bytes-le a.layout.precision),
      c.loop-n-test.true,
      omega (arith, d.inside.channels.fit, d.layout.channels_le),
    )

pub row-block-requires-clause-b_value : goal.row-block-requires-clause-b_value
row-block-requires-clause-b_value c = let a = c.args in admit-front a.layout a.b (length a.elements.now) (length a.buffer.now) c.requires

-- one turn of the rows' loop
pub loop-r-preserved : goal.loop-r-preserved
loop-r-preserved c = λ h.
    let a = c.args in
    let d = admitted a.layout a.b (length a.elements.now) (length a.buffer.now) c.requires in
    let goal : List ℤ = box_elements a.layout a.b a.buffer.now in
    let end : AtomEnd (size_of a.layout) a.b.channel a.b.channels c.loop-n.n c.atom_end-m.result =
    subst (λ (e : ℕ). AtomEnd e a.b.channel a.b.channels c.loop-n.n c.atom_end-m.result) c.element_bytes-e.ensures c.atom_end-m.ensures in
    let n = c.loop-n.n in
    let m = c.atom_end-m.result in
    let r = c.loop-r.r in
    let after = c.read.new.elements in
    let so = c.loop-r.invariant h in
    let block = row_block a.layout a.b (a.b.rows * a.b.columns) a.b.columns n m r in
    let long : length c.loop-r.elements ≡ box_count a.b = so.0.long ∙ h in
    let is : after ≡ block_read block a.buffer.now c.loop-r.elements =
    c.read.ensures
    ∙ ap (λ (b : ColumnBlock). block_read b a.buffer.now c.loop-r.elements) c.row-block.ensures
    ∙ ap (λ (s : Spacing). block_read (row_block a.layout a.b s.plane s.line n m r) a.buffer.now c.loop-r.elements) c.raw-spacing.ensures in
    let near = subst⁻¹ (λ (x : List ℤ). Toward (pos 0) goal c.loop-r.elements x) is
    (read-toward a.layout a.b a.buffer.now d.layout d.inside d.room n m r end c.loop-r-test.true c.loop-r.elements long) in (
      toward-trans (pos 0) goal so.0 near,
      rows_more (RowRead a.b goal c.loop-r.elements) (RowRead a.b goal after) (λ x k t. read-keep a.b goal near x k t) n m r so.1
          (λ x low high. subst⁻¹ (λ (y : List ℤ). RowRead a.b goal y x r) is
          (read-reached a.layout a.b a.buffer.now d.layout d.inside d.room n m r end c.loop-r-test.true c.loop-r.elements long x low high)),
    )

pub returns : goal.returns
returns c =
    let a = c.args in
    let d = admitted a.layout a.b (length a.elements.now) (length a.buffer.now) c.requires in
    read_only a.layout a.b a.buffer.now d.inside c.loop-n.elements c.loop-n.invariant.1 (λ x k hx hk. c.loop-n.invariant.2 x k (omega (arith, hx, c.loop-n-test.false)) hk)
