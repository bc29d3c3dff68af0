-- What the private functions of this crate leave. Their contracts cite these; no public promise rests on them, and proofs/RowLaws.antt and
-- proofs/GatherLaws.antt prove what they come to. Assumes nothing.
use Rattle.std.specs.Prelude.{ℕ, ◌+◌, ◌-◌, ◌*◌, ◌%◌, ◌≤◌, ◌<◌, ◌≡◌, Bool, cond, List, get_or, ℤ, pos}
use Rattle.columns.specs.declared.ColumnBlock.{ColumnBlock}
use Rattle.columns.specs.Blocks.{block_written, cleared}
use Rattle.layout.specs.declared.CubeLayout.{CubeLayout}
use Rattle.layout.specs.declared.ElementBox.{ElementBox}
use Rattle.layout.specs.Geometry.{size_of, element_position}
use Rattle.layout.specs.Contents.{packed, edited, elements_by}
use Rattle.cube.specs.declared.runs.Spacing.{Spacing}

-- where channel n of row r begins in a list of elements whose channels lie `plane` apart and whose rows lie `line` apart
unfoldable pub run_from : (plane line n r : ℕ) → ℕ
run_from plane line n r = n * plane + r * line

-- how far apart the elements lie in raw order over the box
abbrev pub raw_spacing : ElementBox → Spacing
raw_spacing box = record { plane = box.rows * box.columns; line = box.columns }

-- where it begins in raw order, and in the buffer
abbrev pub run_index : ElementBox → ℕ → ℕ → ℕ
run_index box n r = run_from (box.rows * box.columns) box.columns n r

unfoldable pub run_position : CubeLayout → ElementBox → ℕ → ℕ → ℕ
run_position q box n r = element_position q (box.channel + n) (box.row + r) box.column

-- channels n to m of the box, m not included, lie in one atom with n; and m, unless all channels are done, begins the next
pub record AtomEnd (e channel channels n m : ℕ) : Type 0 where
  pub some : n < m
  pub le : m ≤ channels
  pub one : (channel + n) * e % 32 + (m - n) * e ≤ 32
  pub next : m < channels → (channel + m) * e % 32 ≡ 0

-- these channels of the box's row r as columns, one in each atom
abbrev pub row_block : CubeLayout → ElementBox → (plane line n m r : ℕ) → ColumnBlock
row_block q box plane line n m r =
    record {
      size = size_of q;
      rows = m - n;
      count = box.columns;
      from = run_from plane line n r;
      plane = plane;
      at = run_position q box n r;
      stride = 32;
    }

-- a block written, one in each atom; its atoms from the first one's begin on are cleared before, where `clear` says so
unfoldable pub row_written : ColumnBlock → Bool → List ℤ → List ℕ → List ℕ
row_written b clear xs buf = block_written b xs (cond clear (cleared b.at (32 * b.count) buf) buf)

-- the elements of the box, in raw order over it, where they lie `plane` and `line` apart in a list
unfoldable pub gathered : ElementBox → (plane line : ℕ) → List ℤ → List ℤ
gathered box plane line xs =
    elements_by box (λ (c h w : ℕ). get_or xs (run_from plane line (c - box.channel) (h - box.row) + (w - box.column)) (pos 0))

-- the box written, and, where `pad` says so, the padding of the whole cube cleared
unfoldable pub box_written : CubeLayout → ElementBox → Bool → List ℤ → List ℕ → List ℕ
box_written q box pad xs before = cond pad (packed q xs before) (edited q box xs before)
