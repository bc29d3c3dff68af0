-- Strips: columns beside those that are written or read already (specs/Columns.antt). Assumes nothing.
--     strip-room                      the columns of a strip are among all columns
--     written_none, written-strip     no column written; a strip more
--     read_none, read-strip           no column read; a strip more
--     written-length, read_length     the lists keep their lengths
use Prim.Native.Nat.{ℕ, ◌+◌, ◌*◌, ◌%◌, ◌≤◌}
use native.Mathlib.Omega.{arith}
use native.Mathlib.Nat.{mul-add, mul-le-mul_left}
use mathlib.Core.Path.{◌≡◌, ap}
use mathlib.Core.List.{List}
use lib.IntN.{ℤ, pos}
use lib.ListN.{length}
use Rattle.elements.specs.Bytes.{byte_of, element_at}
use Rattle.columns.specs.Columns.{column_byte, rows_written, column_element, rows_read}
use Rattle.columns.proofs.ColumnLaws.{columns-none, columns-empty, columns-length}
use Rattle.columns.proofs.UnitLaws.{under-step, beside-step}

pub strip-room : (stride done n count : ℕ) → done + n ≤ count → stride * done + stride * n ≤ stride * count
strip-room stride done n count h = omega (arith, mul-add stride done n, mul-le-mul_left {m = done + n} {n = count} stride h)

module _ (e : ℕ) (source : ℕ → ℤ) (from plane rows at stride : ℕ) where
  pub written-length : (n : ℕ) (buf : List ℕ) → length (rows_written e source from plane rows n at stride buf) ≡ length buf
  unfolding rows_written
  written-length n buf = columns-length (column_byte e source from plane) (rows * e) n at stride buf

  module _ (fit : rows * e ≤ stride) where
    pub written_none : (buf : List ℕ) → buf ≡ rows_written e source from plane rows 0 at stride buf
    unfolding rows_written
    written_none buf = columns-none 0 (column_byte e source from plane) (rows * e) at stride buf fit

    pub written-strip : (done m p : ℕ) {buf after : List ℕ} (before : List ℕ) → p ≡ from + done
        → buf ≡ rows_written e source from plane rows done at stride before
        → after ≡ rows_written e source p plane rows m (at + stride * done) stride buf
        → after ≡ rows_written e source from plane rows (done + m) at stride before
    unfolding rows_written column_byte
    written-strip done m p before hp hb ha =
        beside-step 0 (column_byte e source from plane) (column_byte e source p plane) (rows * e) done m at stride (at + stride * done) before fit
        (λ i b hi hb. ap (λ (x : ℕ). byte_of (source x) (b % e)) (omega arith)) (omega arith) hb ha

module _ (e : ℕ) (buffer : List ℕ) (at stride rows from plane : ℕ) where
  pub read_length : (n : ℕ) (xs : List ℤ) → length (rows_read e buffer at stride rows n from plane xs) ≡ length xs
  unfolding rows_read
  read_length n xs = columns-length (column_element e buffer at stride) n rows from plane xs

  pub read_none : (xs : List ℤ) → xs ≡ rows_read e buffer at stride rows 0 from plane xs
  unfolding rows_read
  read_none xs = columns-empty (pos 0) (column_element e buffer at stride) rows from plane xs

  pub read-strip : (done m : ℕ) {xs after : List ℤ} (before : List ℤ) → done + m ≤ plane
      → xs ≡ rows_read e buffer at stride rows done from plane before
      → after ≡ rows_read e buffer (at + stride * done) stride rows m (from + done) plane xs
      → after ≡ rows_read e buffer at stride rows (done + m) from plane before
  unfolding rows_read column_element
  read-strip done m before fit hb ha =
      under-step (pos 0) (column_element e buffer at stride) (column_element e buffer (at + stride * done) stride) done m rows from plane (from + done) before fit
      (λ r i hr hi. ap (element_at e buffer) (omega (arith, mul-add stride done i))) (omega arith) hb ha
