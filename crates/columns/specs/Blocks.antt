-- A block: rows of elements as columns of bytes, where both lie in their lists (scope paper, "Cells and cubes", "Weights"), and bytes cleared.
-- Assumes nothing.
use Rattle.std.specs.Prelude.{ℕ, ◌+◌, ◌-◌, ◌*◌, Bool, cond, ◌&&◌, List, leb, ltb, ℤ, length}
use Rattle.elements.specs.Lists.{remade}
use Rattle.columns.specs.declared.ColumnBlock.{ColumnBlock}
use Rattle.columns.specs.Columns.{listed, rows_written, rows_read}

-- whether the elements are 1 or 2 bytes each and some, a column ends before the next begins, and the block's elements and columns lie among
-- `given` elements and in `len` bytes
unfoldable pub fitting : (size rows count from plane at stride given len : ℕ) → Bool
fitting size rows count from plane at stride given len =
    leb 1 size && leb size 2 && leb 1 rows && leb 1 count && leb (rows * size) stride && leb (from + (rows - 1) * plane + count) given
    && leb (at + (count - 1) * stride + rows * size) len

unfoldable pub block_fits : ColumnBlock → (given len : ℕ) → Bool
block_fits b given len = fitting b.size b.rows b.count b.from b.plane b.at b.stride given len

-- the columns of a block written; a block that does not fit writes nothing
unfoldable pub block_written : ColumnBlock → List ℤ → List ℕ → List ℕ
block_written b xs before =
    cond (block_fits b (length xs) (length before))
    (rows_written b.size (listed xs) b.from b.plane b.rows b.count b.at b.stride before)
    before

-- the rows of a block read; a block that does not fit, or whose rows meet, reads nothing
unfoldable pub block_read : ColumnBlock → List ℕ → List ℤ → List ℤ
block_read b buf before =
    cond (block_fits b (length before) (length buf) && leb b.count b.plane)
    (rows_read b.size buf b.at b.stride b.rows b.count b.from b.plane before)
    before

-- `count` bytes from `at` on made 0, as far as they are there
unfoldable pub cleared : (at count : ℕ) → List ℕ → List ℕ
cleared at count before = remade (λ (p : ℕ) (old : ℕ). cond (leb at p && ltb p (at + count)) 0 old) before
