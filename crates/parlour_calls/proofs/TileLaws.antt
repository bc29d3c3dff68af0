-- The tile of a strip: the runs of its components one behind another. Assumes nothing.
--     tile-none, tile-more       no component, and one more
--     below                      sizes of those before one more
--     tile-long                  its length
use Prim.Native.Nat.{ℕ, suc, ◌+◌, ◌*◌, ◌≤◌, ◌<◌}
use native.Mathlib.Omega.{arith}
use native.Mathlib.Numerals.{add-one}
use native.Mathlib.Nat.{le_refl, mul-le-mul_right}
use mathlib.Core.Path.{◌≡◌, sym, ap, ◌∙◌}
use mathlib.Core.List.{List}
use lib.ListN.{length}
use lib.IntN.{ℤ, pos}
use Rattle.columns.specs.Columns.{columns, bytes_set}
use Rattle.columns.proofs.ColumnLaws.{columns-none, columns-more, columns-length}
use Rattle.parlour.specs.declared.Conversion.{Conversion}
use Rattle.parlour_calls.specs.Steps.{run_element, strip_element}

module _ (code size channels : ℕ) (k : Conversion) (precision : ℕ) (pixels : List ℕ) (at count : ℕ) (before : List ℤ) where
  pub tile-none : before ≡ columns (strip_element code size channels k precision pixels at) count 0 0 count before
  tile-none = columns-none (pos 0) (strip_element code size channels k precision pixels at) count 0 count before (le_refl count)

  pub tile-more : (n : ℕ) {buf after : List ℤ} → buf ≡ columns (strip_element code size channels k precision pixels at) count n 0 count before
      → after ≡ bytes_set (run_element code k precision pixels (at + n * size) (channels * size)) count (count * n) buf
      → after ≡ columns (strip_element code size channels k precision pixels at) count (n + 1) 0 count before
  unfolding strip_element
  tile-more n {buf} {after} e w =
      let byte = strip_element code size channels k precision pixels at in
      let here : count * n ≡ 0 + count * n = omega arith in
      w
      ∙ ap (λ (l : List ℤ). bytes_set (byte n) count (count * n) l) e
      ∙ ap (λ (p : ℕ). bytes_set (byte n) count p (columns byte count n 0 count before)) here
      ∙ columns-more (pos 0) byte count n 0 count (le_refl count) before
      ∙ ap (λ (m : ℕ). columns byte count m 0 count before) (sym (add-one n))

-- those before one more
pub below : (n m e : ℕ) → n < m → n * e + e ≤ m * e
below n m e h = omega (arith, mul-le-mul_right {m = suc n} {n = m} e h)

-- a tile keeps its length
pub tile-long : (byte : ℕ → ℕ → ℤ) (count channels : ℕ) (before : List ℤ) {after : List ℤ} → length before ≡ 1024 → after ≡ columns byte count channels 0 count before → length after ≡ 1024
tile-long byte count channels before long e = ap length e ∙ columns-length byte count channels 0 count before ∙ long
