-- A table of formats by one test of all its entries, and the bytes a pixel. By induction on the table, and on the paper's rows. Assumes nothing.
--     table_right, table_at     each entry is the format of its code, as one computed test; the rule at each code
--     every-format, bytes_le   what every format has; a pixel has at most 8 bytes
--     format-none              a code past the table
use Prim.Native.Nat.{ℕ, zero, suc, ◌+◌, ◌≤◌, ◌<◌}
use native.Mathlib.Nat.{not-suc-le-zero, le_of_suc-le-suc}
use native.Mathlib.Omega.{arith}
use mathlib.Core.Path.{◌≡◌, refl, ap, ◌∙◌}
use mathlib.Core.Bool.{Bool, true, false, cond, ◌&&◌}
use mathlib.Core.List.{List, [], ◌∷◌}
use lib.Dec.{T, leb, eqb, leb→le, eqb→eq}
use lib.ListN.{length, get_or}
use borrow.Author.Tests.{lt-leb}
use mir.Facts.{and_yes}
use Rattle.pixels.specs.declared.PixelFormat.{PixelFormat}
use Rattle.pixels.specs.Formats.{Row, no_format, format_table, format_in, format_of}

-- ---- a table's rule

-- the same four numbers
abbrev same_format : PixelFormat → PixelFormat → Bool
same_format f g = eqb f.channels g.channels && eqb f.bytes g.bytes && eqb f.precision g.precision && eqb f.offsets g.offsets

same-is : (f g : PixelFormat) → T (same_format f g) → f ≡ g
same-is f g t =
    let a = and_yes (eqb f.channels g.channels && eqb f.bytes g.bytes && eqb f.precision g.precision) (eqb f.offsets g.offsets) t in
    let b = and_yes (eqb f.channels g.channels && eqb f.bytes g.bytes) (eqb f.precision g.precision) a.0 in
    let d = and_yes (eqb f.channels g.channels) (eqb f.bytes g.bytes) b.0 in
    λ i. record {
      channels = eqb→eq f.channels g.channels d.0 i;
      bytes = eqb→eq f.bytes g.bytes d.1 i;
      precision = eqb→eq f.precision g.precision b.1 i;
      offsets = eqb→eq f.offsets g.offsets a.1 i;
    }

-- each entry, the first at code i, is the format of its code
abbrev pub table_right : ℕ → List PixelFormat → Bool
table_right i [] = true
table_right i (f ∷ fs) = same_format f (format_of i) && table_right (suc i) fs

entry_at : (fs : List PixelFormat) (i : ℕ) → T (table_right i fs) → (k : ℕ) → k < length fs → get_or fs k no_format ≡ format_of (i + k)
entry_at [] i t k h = absurd (not-suc-le-zero h)
entry_at (f ∷ fs) i t zero h = same-is f (format_of i) (and_yes (same_format f (format_of i)) (table_right (suc i) fs) t).0 ∙ ap format_of (omega arith)
entry_at (f ∷ fs) i t (suc k) h =
    entry_at fs (suc i) (and_yes (same_format f (format_of i)) (table_right (suc i) fs) t).1 k (le_of_suc-le-suc h) ∙ ap format_of (omega arith)

pub table_at : (fs : List PixelFormat) (k : ℕ) → T (table_right 0 fs) → k < length fs → get_or fs k no_format ≡ format_of k
table_at fs k t h = entry_at fs 0 t k h ∙ ap format_of (omega arith)

-- ---- what every format has

abbrev every : (PixelFormat → Bool) → List Row → Bool
every test [] = test no_format
every test (r ∷ rows) = test r.format && every test rows

row-or-rest : (test : PixelFormat → Bool) (t : Bool) (f g : PixelFormat) → T (test f) → T (test g) → T (test (cond t f g))
row-or-rest test true f g h k = h
row-or-rest test false f g h k = k

every_in : (test : PixelFormat → Bool) (rows : List Row) → T (every test rows) → (code : ℕ) → T (test (format_in rows code))
unfolding format_in
every_in test [] t code = t
every_in test (r ∷ rows) t code =
    let n = and_yes (test r.format) (every test rows) t in
    row-or-rest test (leb r.first code && leb code r.last) r.format (format_in rows code) n.0 (every_in test rows n.1 code)

-- a test that each row and a code past the table pass
pub every-format : (test : PixelFormat → Bool) → T (every test format_table) → (code : ℕ) → T (test (format_of code))
unfolding format_of
every-format test t code = every_in test format_table t code

pub bytes_le : (code : ℕ) → (format_of code).bytes ≤ 8
unfolding format_table
bytes_le code = leb→le _ 8 (every-format (λ (f : PixelFormat). leb f.bytes 8) tt code)

-- ---- a code past the table

abbrev ends_by : ℕ → List Row → Bool
ends_by n [] = true
ends_by n (r ∷ rows) = leb r.last n && ends_by n rows

skip : (x y : Bool) (f g : PixelFormat) → y ≡ false → g ≡ cond (x && y) f g
skip true y f g e = rw e
skip false y f g e = refl

none_in : (rows : List Row) (n : ℕ) → T (ends_by n rows) → (code : ℕ) → n < code → no_format ≡ format_in rows code
unfolding format_in
none_in [] n t code h = refl
none_in (r ∷ rows) n t code h =
    let e = and_yes (leb r.last n) (ends_by n rows) t in
    none_in rows n e.1 code h ∙ skip (leb r.first code) (leb code r.last) r.format (format_in rows code) (lt-leb code r.last (omega (arith, leb→le r.last n e.0, h)))

pub format-none : (code : ℕ) → 16 < code → no_format ≡ format_of code
unfolding format_of format_table
format-none code h = none_in format_table 16 tt code h
