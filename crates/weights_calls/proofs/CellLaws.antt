-- The block of columns of a run (specs/Steps.antt): each of its elements is one of the run's, and each of the run's is one of its; they lie among
-- the elements and in the buffer. By the laws of an element's number. Assumes nothing.
--     Row, row-each, row-all      the channels of a run, one behind another
--     Cell, Holds, run_holds      what a block holds; the columns of a run hold the run
--     holds_fits                  such a block fits
use Prim.Native.Nat.{ℕ, suc, ◌+◌, ◌-◌, ◌*◌, ◌/◌, ◌%◌, ◌≤◌, ◌<◌}
use native.Mathlib.Nat.{mul-le-mul_right, mul-pos, mod-lt, div-add-mod', div-lt_iff_lt-mul}
use native.Mathlib.Decide.{ℕ_discrete, dec_le}
use native.Mathlib.Omega.{arith}
use mathlib.Core.Path.{◌≡◌, refl, sym, ap, ◌∙◌, subst}
use lib.Arith.{digits_lt}
use borrow.Author.Tests.{eq-eqb, ne_eqb, le-leb, lt-leb}
use Rattle.elements.proofs.ByteLaws.{element_bytes-pos, element_bytes-le}
use Rattle.columns.specs.declared.ColumnBlock.{ColumnBlock}
use Rattle.columns.proofs.BlockLaws.{BlockFits}
use Rattle.weights.specs.declared.WeightLayout.{WeightLayout}
use Rattle.weights_calls.specs.declared.runs.Run.{Run}
use Rattle.weights.specs.Geometry.{size_of, element_count, group_kernels, block_channels, raw_at}
use Rattle.weights.specs.StepsPixels.{pixel_number, pixel_index}
use Rattle.weights_calls.specs.Steps.{group_in, AtRun, width_of, run_columns, pixel_columns, channel_columns}
use Rattle.weights.proofs.Valid.{Valid}
use Rattle.weights.proofs.NumberLaws.{Place, number_lt, raw_at-pixel}
use Rattle.weights.proofs.IndexLaws.{raw_at-lt}

module _ (q : WeightLayout) (x : Run) where
  -- kernel j of the group is one of the run's
  abbrev pub OfRun : ℕ → Type 0
  OfRun j = (j < group_kernels q (group_in q x)) × (64 < q.channels → j ≡ x.kernel)

  -- the run's channel r is channel d of kernel j, in both orders
  pub record Row (r j d : ℕ) : Type 0 where
    pub row_lt : r < width_of q x
    pub kernel_lt : j < group_kernels q (group_in q x)
    pub channel_lt : d < block_channels q x.block
    pub packed : x.kernel * block_channels q x.block + r ≡ j * block_channels q x.block + d
    pub raw : x.kernel * q.channels + r ≡ j * q.channels + d

  -- row r of column i is the element of number n
  pub record Cell (k : ColumnBlock) (i r n : ℕ) : Type 0 where
    pub column_lt : i < k.count
    pub row_lt : r < k.rows
    pub number_lt : n < element_count q
    pub byte : k.at + k.stride * i + r * k.size ≡ n * size_of q
    pub index : k.from + k.plane * r + i ≡ raw_at q n

  -- the block has the run's elements, each in one place
  pub record Holds (k : ColumnBlock) : Type 0 where
    pub size_is : k.size ≡ size_of q
    pub some_rows : 0 < k.rows
    pub some_columns : 0 < k.count
    pub apart : k.rows * k.size ≤ k.stride
    pub wide : k.count ≤ k.plane
    pub each : (i r : ℕ) → i < k.count → r < k.rows → (n : ℕ) × Cell k i r n
    pub all : (j t d : ℕ) → OfRun j → t < q.rows * q.columns → d < block_channels q x.block
        → (i : ℕ) × (r : ℕ) × Cell k i r (pixel_number q (group_in q x) x.block t j d)

module _ (q : WeightLayout) (ok : Valid q) (x : Run) (a : AtRun q x) where
  some-channels : 0 < block_channels q x.block
  unfolding block_channels
  some-channels = omega (arith, a.here.block_lt)

  -- ---- the channels of a run

  module _ (one : q.channels ≤ 64) where
    width-all : width_of q x ≡ group_kernels q (group_in q x) * block_channels q x.block
    unfolding width_of
    width-all = rw (le-leb q.channels 64 one)

    channels-all : block_channels q x.block ≡ q.channels
    unfolding block_channels
    channels-all = omega (arith, a.here.block_lt)

    whole_row : (r j d : ℕ) → j < group_kernels q (group_in q x) → d < block_channels q x.block → r ≡ j * block_channels q x.block + d → Row q x r j d
    whole_row r j d hj hd e =
        let m = block_channels q x.block in
        record {
          row_lt = omega (arith, width-all, digits_lt {c = m} hj hd);
          kernel_lt = hj;
          channel_lt = hd;
          packed = rw (a.alone one) (omega (arith, e));
          raw = rw (a.alone one) (omega (arith, e, ap (λ (n : ℕ). j * n) channels-all));
        }

  module _ (more : 64 < q.channels) where
    width_one : width_of q x ≡ block_channels q x.block
    unfolding width_of
    width_one = rw (lt-leb q.channels 64 more)

    one-row : (d : ℕ) → d < block_channels q x.block → Row q x d x.kernel d
    one-row d hd = record { row_lt = omega (arith, width_one); kernel_lt = a.here.kernel_lt; channel_lt = hd; packed = refl; raw = refl }

  row-each : (r : ℕ) → r < width_of q x → (j : ℕ) × (d : ℕ) × Row q x r j d
  row-each r h =
      let m = block_channels q x.block in
      elim (dec_le q.channels 64) [
        | yes one ↦ (r / m, r % m, whole_row one r (r / m) (r % m) ((div-lt_iff_lt-mul some-channels).1 (omega (arith, width-all one))) (mod-lt r some-channels) (sym (div-add-mod' r m)))
        | no f ↦ (x.kernel, r, one-row (omega arith) r (omega (arith, width_one (omega arith))))
      ]

  row-all : (j d : ℕ) → OfRun q x j → d < block_channels q x.block → (r : ℕ) × Row q x r j d
  row-all j d of hd =
      elim (dec_le q.channels 64) [
        | yes one ↦ (j * block_channels q x.block + d, whole_row one (j * block_channels q x.block + d) j d of.0 hd refl)
        | no f ↦ (d, subst (λ (n : ℕ). Row q x d n d) (sym (of.1 (omega arith))) (one-row (omega arith) d hd))
      ]

  width_pos : 0 < width_of q x
  width_pos = let w = row-all x.kernel 0 (a.here.kernel_lt, λ _. refl) some-channels in omega (arith, w.1.row_lt)

  width_le : width_of q x * size_of q ≤ group_kernels q (group_in q x) * block_channels q x.block * size_of q
  width_le =
      let m = block_channels q x.block in
      mul-le-mul_right {m = width_of q x} {n = group_kernels q (group_in q x) * m} (size_of q)
      (elim (dec_le q.channels 64) [
        | yes one ↦ omega (arith, width-all one)
        | no f ↦ omega (arith, width_one (omega arith), mul-le-mul_right {m = 1} {n = group_kernels q (group_in q x)} m (omega (arith, a.here.kernel_lt)))
      ])

  -- ---- the columns of a run

  cell : (k : ColumnBlock) (i r t j d : ℕ) → i < k.count → r < k.rows → Place q (group_in q x) x.block t j d
      → k.at + k.stride * i + r * k.size ≡ pixel_number q (group_in q x) x.block t j d * size_of q
      → k.from + k.plane * r + i ≡ pixel_index q (group_in q x) x.block t j d → Cell q x k i r (pixel_number q (group_in q x) x.block t j d)
  cell k i r t j d hi hr p byte index =
      record {
        column_lt = hi;
        row_lt = hr;
        number_lt = number_lt q (group_in q x) x.block t j d p;
        byte = byte;
        index = index ∙ sym (raw_at-pixel q (group_in q x) x.block t j d p);
      }

  pixel-cell : (r t j d : ℕ) → t < q.rows * q.columns → Row q x r j d → Cell q x (pixel_columns q x) t r (pixel_number q (group_in q x) x.block t j d)
  unfolding pixel_number pixel_index
  pixel-cell r t j d ht w =
      cell (pixel_columns q x) t r t j d ht w.row_lt (record { pixel_lt = ht; kernel_lt = w.kernel_lt; channel_lt = w.channel_lt })
      (omega (arith, ap (λ (n : ℕ). n * size_of q) w.packed))
      (omega (arith, ap (λ (n : ℕ). n * (q.rows * q.columns)) w.raw))

  channel-cell : (r u t j d : ℕ) → q.rows * q.columns ≡ 1 → u < 1 → t < q.rows * q.columns → Row q x r j d
      → Cell q x (channel_columns q x) r u (pixel_number q (group_in q x) x.block t j d)
  unfolding pixel_number pixel_index
  channel-cell r u t j d one hu ht w =
      let y : u ≡ 0 = omega arith in
      let z : t ≡ 0 = omega (arith, one) in
      cell (channel_columns q x) r u t j d w.row_lt hu (record { pixel_lt = ht; kernel_lt = w.kernel_lt; channel_lt = w.channel_lt })
      (rw (y, z) (omega (arith, ap (λ (n : ℕ). n * size_of q) w.packed)))
      (rw (y, z) (omega (arith, ap (λ (n : ℕ). n * (q.rows * q.columns)) w.raw, ap (λ (n : ℕ). r * n) one)))

  pixel-holds : Holds q x (pixel_columns q x)
  pixel-holds =
      record {
        size_is = refl;
        some_rows = width_pos;
        some_columns = mul-pos ok.rows.some ok.columns.some;
        apart = width_le;
        wide = omega arith;
        each = λ i r hi hr. (let w = row-each r hr in (pixel_number q (group_in q x) x.block i w.0 w.1, pixel-cell r i w.0 w.1 hi w.2));
        all = λ j t d of ht hd. (let w = row-all j d of hd in (t, w.0, pixel-cell w.0 t j d ht w.1));
      }

  channel-holds : q.rows * q.columns ≡ 1 → Holds q x (channel_columns q x)
  channel-holds one =
      record {
        size_is = refl;
        some_rows = omega arith;
        some_columns = width_pos;
        apart = omega arith;
        wide = omega arith;
        each = λ i r hi hr. (let w = row-each i hi in
            (pixel_number q (group_in q x) x.block 0 w.0 w.1, channel-cell i r 0 w.0 w.1 one hr (omega (arith, one)) w.2));
        all = λ j t d of ht hd. (let w = row-all j d of hd in (w.0, 0, channel-cell w.0 0 t j d one (omega arith) ht w.1));
      }

  pub run_holds : Holds q x (run_columns q x)
  unfolding run_columns
  run_holds = elim (ℕ_discrete (q.rows * q.columns) 1) [
    | yes e ↦ rw (eq-eqb (q.rows * q.columns) 1 e) (channel-holds e)
    | no f ↦ rw (ne_eqb (q.rows * q.columns) 1 f) pixel-holds
  ]

  -- they lie among the elements and in the buffer
  pub holds_fits : (k : ColumnBlock) → Holds q x k → (given len : ℕ) → given ≡ element_count q → element_count q * size_of q ≤ len → BlockFits k given len
  holds_fits k h given len count room =
      let w = h.each (k.count - 1) (k.rows - 1) (omega (arith, h.some_columns)) (omega (arith, h.some_rows)) in
      let end = mul-le-mul_right {m = suc w.0} {n = element_count q} (size_of q) w.1.number_lt in
      let last : suc (k.rows - 1) ≡ k.rows = omega (arith, h.some_rows) in
      record {
        some = omega (arith, h.size_is, element_bytes-pos q.precision);
        small = omega (arith, h.size_is, element_bytes-le q.precision);
        rows_some = h.some_rows;
        count_some = h.some_columns;
        deep = h.apart;
        elements = omega (arith, w.1.index, raw_at-lt q ok w.0 w.1.number_lt, count, h.some_columns);
        bytes = omega (arith, w.1.byte, end, ap (λ (y : ℕ). y * k.size) last, h.size_is, room);
      }
