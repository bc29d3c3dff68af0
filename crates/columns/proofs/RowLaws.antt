-- Rows below rows: the columns grow downward (specs/Columns.antt). Assumes nothing.
--     rows_left                    the rows before row r, and those from it on
--     Some, some-of                k of the rows lie where all do
--     one-row                      where a column has no room for two rows
--     band-bytes, band-planes      the rows of a band; half-bytes, half-planes of half a band
--     written-line, read-line      one row, its elements one behind another
--     written-rows, written_as     k rows more written; as so many bytes of each column
--     written_byte                 one row of one-byte elements
--     read-rows, read_first        k rows more read; the first one
use Prim.Native.Nat.{ℕ, ◌+◌, ◌-◌, ◌*◌, ◌≤◌, ◌<◌}
use native.Mathlib.Omega.{arith}
use native.Mathlib.Nat.{add-mul, mul_assoc, mul-le-mul_right}
use native.Mathlib.Decide.{dec_lt}
use mathlib.Core.Path.{◌≡◌, refl, sym, ap, ◌∙◌}
use mathlib.Core.List.{List}
use lib.IntN.{ℤ, pos}
use Rattle.columns.specs.Columns.{columns, bytes_set, column_byte, rows_written, column_element, rows_read}
use Rattle.columns.proofs.ColumnLaws.{columns-none, columns-ext}
use Rattle.columns.proofs.UnitLaws.{pair-two, rows_at, under-step, columns-step, first_byte}
use Rattle.columns.proofs.ReadLaws.{rows_more}

pub rows_left : (r rows x : ℕ) → r ≤ rows → r * x + (rows - r) * x ≡ rows * x
rows_left r rows x h = sym (add-mul r (rows - r) x) ∙ ap (λ (n : ℕ). n * x) (omega arith)

pub rows-le : (k rows x : ℕ) → k ≤ rows → k * x ≤ rows * x
rows-le k rows x h = mul-le-mul_right {m = k} {n = rows} x h

-- where a column has no room for two rows there is one
pub one-row : (rows e stride : ℕ) → 1 ≤ rows → 1 ≤ e → rows * e ≤ stride → stride ≤ e → rows ≡ 1
one-row rows e stride some he fit small = elim (dec_lt 1 rows) [
  | yes h ↦ absurd (omega (arith, rows-le 2 rows e h))
  | no f ↦ omega arith
]

module _ (e : ℕ) (low : 1 ≤ e) (high : e ≤ 2) where
  pub half-bytes : 2 * (3 - e) * e ≡ 4
  half-bytes = mul_assoc 2 (3 - e) e ∙ ap (λ (x : ℕ). 2 * x) (pair-two e low high)

  pub half-planes : (plane : ℕ) → 2 * (3 - e) * plane ≡ 2 * ((3 - e) * plane)
  half-planes plane = mul_assoc 2 (3 - e) plane

  pub band-bytes : 4 * (3 - e) * e ≡ 8
  band-bytes = mul_assoc 4 (3 - e) e ∙ ap (λ (x : ℕ). 4 * x) (pair-two e low high)

  pub band-planes : (plane : ℕ) → 4 * (3 - e) * plane ≡ 4 * ((3 - e) * plane)
  band-planes plane = mul_assoc 4 (3 - e) plane

module _ (e : ℕ) (source : ℕ → ℤ) (from plane n at stride : ℕ) where
  pub written-rows : 1 ≤ e → (r k : ℕ) {buf after : List ℕ} (before : List ℕ) → r * e + k * e ≤ stride
      → buf ≡ rows_written e source from plane r n at stride before
      → after ≡ rows_written e source (from + r * plane) plane k n (at + r * e) stride buf
      → after ≡ rows_written e source from plane (r + k) n at stride before
  unfolding rows_written
  written-rows he r k before fit hb ha =
      under-step 0 (column_byte e source from plane) (column_byte e source (from + r * plane) plane) (r * e) (k * e) n at stride (at + r * e) before fit
      (λ i b hi hx. rows_at e he source from plane r (r * e) (from + r * plane) i b refl refl) refl hb ha
      ∙ ap (λ (x : ℕ). columns (column_byte e source from plane) x n at stride before) (sym (add-mul r k e))

  pub written_as : (k x : ℕ) (buf : List ℕ) → k * e ≡ x → columns (column_byte e source from plane) x n at stride buf ≡ rows_written e source from plane k n at stride buf
  unfolding rows_written
  written_as k x buf h = ap (λ (y : ℕ). columns (column_byte e source from plane) y n at stride buf) (sym h)

  pub written_byte : e ≡ 1 → 1 ≤ stride → (buf : List ℕ) → columns (column_byte 1 source from 0) 1 n at stride buf ≡ rows_written e source from plane 1 n at stride buf
  unfolding rows_written
  written_byte one fit buf =
      columns-ext 0 (column_byte 1 source from 0) (column_byte 1 source from plane) 1 n at stride buf fit
      (λ i b hi hb. same i b hb)
      ∙ ap (λ (x : ℕ). rows_written x source from plane 1 n at stride buf) (sym one)
    where
      same : (i b : ℕ) → b < 1 → column_byte 1 source from 0 i b ≡ column_byte 1 source from plane i b
      same i b hb =
          let z : b ≡ 0 = omega arith in
          ap (column_byte 1 source from 0 i) z ∙ first_byte source from 0 i ∙ sym (first_byte source from plane i) ∙ ap (column_byte 1 source from plane i) (sym z)

pub written-line : (source : ℕ → ℤ) (from plane n at x e rows stride : ℕ) (buf : List ℕ) → e ≡ x → rows ≡ 1 → stride ≡ x
    → rows_written x source from plane 1 n at x buf ≡ rows_written e source from plane rows n at stride buf
written-line source from plane n at x e rows stride buf he hr hs = rw (he, hr, hs)

pub read-line : (buffer : List ℕ) (at n from plane x e rows stride : ℕ) (xs : List ℤ) → e ≡ x → rows ≡ 1 → stride ≡ x
    → rows_read x buffer at x 1 n from plane xs ≡ rows_read e buffer at stride rows n from plane xs
read-line buffer at n from plane x e rows stride xs he hr hs = rw (he, hr, hs)

module _ (e : ℕ) (buffer : List ℕ) (at stride n from plane : ℕ) (fit : n ≤ plane) where
  pub read-rows : (r k : ℕ) {xs after : List ℤ} (before : List ℤ) → xs ≡ rows_read e buffer at stride r n from plane before
      → after ≡ rows_read e buffer (at + r * e) stride k n (from + r * plane) plane xs → after ≡ rows_read e buffer at stride (r + k) n from plane before
  unfolding rows_read
  read-rows r k before hb ha = rows_more e buffer at stride n r k from plane (at + r * e) (from + r * plane) (r * e) before fit refl refl refl hb ha

  pub read_first : {after : List ℤ} (before : List ℤ) → after ≡ bytes_set (column_element e buffer at stride 0) n from before → after ≡ rows_read e buffer at stride 1 n from plane before
  unfolding rows_read
  read_first before ha =
      columns-step (pos 0) (column_element e buffer at stride) n 0 from plane before fit (columns-none (pos 0) (column_element e buffer at stride) n from plane before fit)
      (ha ∙ ap (λ (x : ℕ). bytes_set (column_element e buffer at stride 0) n x before) (omega arith))

  pub read-start : (before : List ℤ) → before ≡ rows_read e buffer at stride 0 n from plane before
  unfolding rows_read
  read-start before = columns-none (pos 0) (column_element e buffer at stride) n from plane before fit
