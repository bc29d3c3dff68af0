-- Blocks that fit (specs/Blocks.antt), and what they leave as columns. Assumes nothing.
--     Fits, fitting-of, fitting-is     the test as facts, and back
--     Fits-rows, Fits-columns          where the rows and the columns end
--     fitting-same, fitting-false      the test by another
--     block-written, block-read        a block that fits is columns
--     block-kept, block-unread         one that does not writes, reads nothing
use Prim.Native.Nat.{ℕ, zero, suc, ◌+◌, ◌-◌, ◌*◌, ◌≤◌}
use native.Mathlib.Omega.{arith}
use native.Mathlib.Nat.{suc-mul, mul_comm, mul-le-mul, not-suc-le-zero}
use mathlib.Core.Path.{◌≡◌, refl, sym, ap, ◌∙◌}
use mathlib.Core.Bool.{Bool, true, false, ◌&&◌}
use mathlib.Core.List.{List}
use lib.Dec.{leb}
use lib.IntN.{ℤ}
use lib.ListN.{length}
use borrow.Author.Tests.{leb-true, le-leb}
use Rattle.general.proofs.TestLaws.{and-true}
use Rattle.columns.specs.declared.ColumnBlock.{ColumnBlock}
use Rattle.columns.specs.Columns.{listed, rows_written, rows_read}
use Rattle.columns.specs.Blocks.{fitting, block_fits, block_written, block_read}

-- two tests that hold together are one
same_test : (a b : Bool) → (a ≡ true → b ≡ true) → (b ≡ true → a ≡ true) → a ≡ b
same_test true b f g = sym (f refl)
same_test false true f g = g refl
same_test false false f g = refl

false-test : (b : Bool) → (b ≡ true → false ≡ true) → false ≡ b
false-test true g = g refl
false-test false g = refl

pub record Fits (size rows count from plane at stride given len : ℕ) : Type 0 where
  pub some : 1 ≤ size
  pub small : size ≤ 2
  pub rows_some : 1 ≤ rows
  pub count_some : 1 ≤ count
  pub deep : rows * size ≤ stride
  pub elements : from + (rows - 1) * plane + count ≤ given
  pub bytes : at + (count - 1) * stride + rows * size ≤ len

-- n times m, less one m
less_one : (n m : ℕ) → 1 ≤ n → n * m ≡ (n - 1) * m + m
less_one zero m h = absurd (not-suc-le-zero h)
less_one (suc n) m h = suc-mul n m ∙ ap (λ (x : ℕ). x * m + m) (omega arith)

module _ {size rows count from plane at stride given len : ℕ} where
  pub fitting-of : fitting size rows count from plane at stride given len ≡ true → Fits size rows count from plane at stride given len
  unfolding fitting
  fitting-of e =
      let a = and-true _ _ e in
      let b = and-true _ _ a.0 in
      let c = and-true _ _ b.0 in
      let d = and-true _ _ c.0 in
      let f = and-true _ _ d.0 in
      let g = and-true _ _ f.0 in
      record {
        some = leb-true 1 size g.0;
        small = leb-true size 2 g.1;
        rows_some = leb-true 1 rows f.1;
        count_some = leb-true 1 count d.1;
        deep = leb-true (rows * size) stride c.1;
        elements = leb-true (from + (rows - 1) * plane + count) given b.1;
        bytes = leb-true (at + (count - 1) * stride + rows * size) len a.1;
      }

  pub fitting-is : Fits size rows count from plane at stride given len → fitting size rows count from plane at stride given len ≡ true
  unfolding fitting
  fitting-is f =
      rw (le-leb 1 size f.some, le-leb size 2 f.small, le-leb 1 rows f.rows_some, le-leb 1 count f.count_some, le-leb (rows * size) stride f.deep, le-leb (from + (rows - 1) * plane + count) given f.elements, le-leb (at + (count - 1) * stride + rows * size) len f.bytes)

  pub fitting-same : (t : Bool) → (t ≡ true → Fits size rows count from plane at stride given len) → (Fits size rows count from plane at stride given len → t ≡ true)
      → t ≡ fitting size rows count from plane at stride given len
  fitting-same t f g = same_test t (fitting size rows count from plane at stride given len) (λ e. fitting-is (f e)) (λ e. g (fitting-of e))

  pub fitting-false : (Fits size rows count from plane at stride given len → false ≡ true) → false ≡ fitting size rows count from plane at stride given len
  fitting-false g = false-test (fitting size rows count from plane at stride given len) (λ e. g (fitting-of e))

  module _ (f : Fits size rows count from plane at stride given len) where
    pub rows_end : from + rows * plane + count ≤ given + plane
    rows_end = omega (arith, f.elements, less_one rows plane f.rows_some)

    pub columns-end : at + stride * count + rows * size ≤ len + stride
    columns-end = omega (arith, f.bytes, less_one count stride f.count_some, mul_comm stride count)

    pub stride-some : 1 ≤ stride
    stride-some = omega (arith, f.deep, mul-le-mul {n₁ = 1} {m₁ = 1} {n₂ = rows} {m₂ = size} f.rows_some f.some)

-- the numbers of a block fit
abbrev pub BlockFits : ColumnBlock → (given len : ℕ) → Type 0
BlockFits b given len = Fits b.size b.rows b.count b.from b.plane b.at b.stride given len

module _ (b : ColumnBlock) where
  pub block-written : (xs : List ℤ) (before : List ℕ) → BlockFits b (length xs) (length before)
      → block_written b xs before ≡ rows_written b.size (listed xs) b.from b.plane b.rows b.count b.at b.stride before
  unfolding block_written block_fits
  block-written xs before f = rw (fitting-is f)

  pub block-kept : (xs : List ℤ) (before : List ℕ) → block_fits b (length xs) (length before) ≡ false → block_written b xs before ≡ before
  unfolding block_written
  block-kept xs before e = rw e

  pub block-read : (buf : List ℕ) (before : List ℤ) → BlockFits b (length before) (length buf) → b.count ≤ b.plane
      → block_read b buf before ≡ rows_read b.size buf b.at b.stride b.rows b.count b.from b.plane before
  unfolding block_read block_fits
  block-read buf before f h = rw (fitting-is f, le-leb b.count b.plane h)

  pub block-unread : (buf : List ℕ) (before : List ℤ) → block_fits b (length before) (length buf) && leb b.count b.plane ≡ false → block_read b buf before ≡ before
  unfolding block_read
  block-unread buf before e = rw e
