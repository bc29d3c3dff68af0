-- Columns of bytes: n columns begin `stride` bytes apart at `at`, and the first k bytes of each are made anew. Rows of elements that lie
-- `plane` apart are written so, one element of each row after another in each column. Assumes nothing.
use Rattle.std.specs.Prelude.{ℕ, zero, suc, ◌+◌, ◌-◌, ◌*◌, ◌/◌, ◌%◌, ◌^◌, Bool, cond, ◌&&◌, List, get_or, set, ltb, leb, ℤ, pos, ◌≡◌}
use Rattle.elements.specs.Bytes.{byte_of, signed, element_at}
use Rattle.elements.specs.Lists.{remade}

-- whether position p is one of the first k bytes of one of n columns
unfoldable pub in_columns : (k n at stride p : ℕ) → Bool
in_columns k n at stride p = leb at p && ltb ((p - at) / stride) n && ltb ((p - at) % stride) k

-- entry b of column i made entry i b, for the first k entries of each of n columns; every other entry kept
unfoldable pub columns : {A : Type 0} → (ℕ → ℕ → A) → (k n at stride : ℕ) → List A → List A
columns {A} entry k n at stride l =
    remade (λ (p : ℕ) (old : A). cond (in_columns k n at stride p) (entry ((p - at) / stride) ((p - at) % stride)) old) l

-- byte b of column i of elements of e bytes: byte b mod e of the column's element b / e
unfoldable pub column_byte : ℕ → (ℕ → ℤ) → (from plane i b : ℕ) → ℕ
column_byte e source from plane i b = byte_of (source (from + i + b / e * plane)) (b % e)

-- `rows` rows of n elements of e bytes, `plane` apart in the source, written in n columns
unfoldable pub rows_written : ℕ → (ℕ → ℤ) → (from plane rows n at stride : ℕ) → List ℕ → List ℕ
rows_written e source from plane rows n at stride buf = columns (column_byte e source from plane) (rows * e) n at stride buf

-- the elements of a list as a source
unfoldable pub listed : List ℤ → ℕ → ℤ
listed xs i = get_or xs i (pos 0)

-- ---- units of two bytes

-- unit j of column i: its bytes 2j and 2j + 1, the first one low
unfoldable pub column_unit : ℕ → (ℕ → ℤ) → (from plane i j : ℕ) → ℕ
column_unit e source from plane i j = column_byte e source from plane i (2 * j) + 256 * column_byte e source from plane i (2 * j + 1)

-- byte b of column i of a tile of so many units a column
unfoldable pub tile_byte : ℕ → List ℕ → (i b : ℕ) → ℕ
tile_byte units tile i b = get_or tile (units * i + b / 2) 0 / 256 ^ (b % 2) % 256

-- ---- one write after another

-- k entries from p on set, one after another
unfoldable pub bytes_set : {A : Type 0} → (ℕ → A) → (k p : ℕ) → List A → List A
bytes_set f zero p buf = buf
bytes_set f (suc k) p buf = set (bytes_set f k p buf) (p + k) (f k)

-- ---- reading: the elements are the columns, of n elements each, `plane` apart, and the bytes the source

-- the element of row r of column i: the e bytes behind those of the rows before
unfoldable pub column_element : ℕ → List ℕ → (at stride r i : ℕ) → ℤ
column_element e buf at stride r i = element_at e buf (at + stride * i + r * e)

-- `rows` rows of n elements of e bytes read from n columns, to `plane` apart
unfoldable pub rows_read : ℕ → List ℕ → (at stride rows n from plane : ℕ) → List ℤ → List ℤ
rows_read e buf at stride rows n from plane xs = columns (column_element e buf at stride) n rows from plane xs

-- a unit of the two bytes at p
abbrev pub Unit_is : List ℕ → ℕ → ℕ → Type 0
Unit_is buf p u = (u % 256 ≡ get_or buf p 0) × (u / 256 % 256 ≡ get_or buf (p + 1) 0)

-- element r of a unit
unfoldable pub unit_element : ℕ → ℕ → ℕ → ℤ
unit_element e u r = signed e (u / 256 ^ (r * e) % 256 ^ e)

-- the same for unit j of each column of a tile
unfoldable pub unit_row : ℕ → List ℕ → (j r i : ℕ) → ℤ
unit_row e tile j r i = unit_element e (get_or tile (4 * i + j) 0) r

-- element r of column i of a tile
unfoldable pub tile_element : ℕ → List ℕ → (r i : ℕ) → ℤ
tile_element e tile r i = unit_element e (get_or tile (4 * i + r / (3 - e)) 0) (r % (3 - e))
