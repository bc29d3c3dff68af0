-- The numbering has the inverse that specs/Geometry.antt gives by division, so it is one to one onto 0 .. K·C·R·S − 1: each raw index and each
-- number below the count is an element's. Assumes nothing.
--     ElementNumbered, number-reached     an element of number i
--     raw_at-lt, number_at-lt, number_at-raw_at, raw_at-number_at     raw indices and numbers, inverse to each other
use Prim.Native.Nat.{ℕ, ◌+◌, ◌*◌, ◌/◌, ◌%◌, ◌<◌}
use native.Mathlib.Nat.{mod-lt, div-add-mod', div-lt_iff_lt-mul}
use mathlib.Core.Path.{◌≡◌, ◌∙◌}
use lib.Arith.{digits_div, digits_mod}
use Rattle.weights.specs.declared.WeightLayout.{WeightLayout}
use Rattle.weights.specs.Geometry.{group_of, element_count, raw_index, group_kernels, block_channels, element_number, group_at, in_block, block_at, pixel_at, kernel_at, channel_at, raw_at, number_at}
use Rattle.weights.proofs.Valid.{Valid}
use Rattle.weights.proofs.NumberLaws.{kernel_in, channel-in, kernel-below, channel-below}
use Rattle.weights.proofs.OffsetLaws.{place_at, number-at}
use Rattle.weights.proofs.ElementLaws.{Element, number_lt, element-pixel, raw_at-number, index_lt, number_at-index}

-- some element of the tensor has number i
pub record ElementNumbered (q : WeightLayout) (i : ℕ) : Type 0 where
  pub k : ℕ
  pub c : ℕ
  pub r : ℕ
  pub s : ℕ
  pub element : Element q k c r s
  pub number : element_number q k c r s ≡ i

module _ (q : WeightLayout) (ok : Valid q) (i : ℕ) (hi : i < element_count q) where
  index-element : Element q (i / q.columns / q.rows / q.channels) (i / q.columns / q.rows % q.channels) (i / q.columns % q.rows) (i % q.columns)
  unfolding element_count
  index-element =
      record {
        kernel_lt = (div-lt_iff_lt-mul ok.channels.some).1 ((div-lt_iff_lt-mul ok.rows.some).1 ((div-lt_iff_lt-mul ok.columns.some).1 hi));
        channel_lt = mod-lt (i / q.columns / q.rows) ok.channels.some;
        row_lt = mod-lt (i / q.columns) ok.rows.some;
        column_lt = mod-lt i ok.columns.some;
      }

  index_back : raw_index q (i / q.columns / q.rows / q.channels) (i / q.columns / q.rows % q.channels) (i / q.columns % q.rows) (i % q.columns) ≡ i
  unfolding raw_index
  index_back =
      rw (div-add-mod' (i / q.columns / q.rows) q.channels, div-add-mod' (i / q.columns) q.rows) (div-add-mod' i q.columns)

  pub number_at-lt : number_at q i < element_count q
  unfolding number_at
  number_at-lt = number_lt q _ _ _ _ index-element

  pub raw_at-number_at : raw_at q (number_at q i) ≡ i
  unfolding number_at
  raw_at-number_at = raw_at-number q _ _ _ _ index-element ∙ index_back

  abbrev j : ℕ
  j = in_block q i / block_channels q (block_at q i) % group_kernels q (group_at q i)

  abbrev d : ℕ
  d = in_block q i % block_channels q (block_at q i)

  -- the element at a number
  number-element : Element q (kernel_at q i) (channel_at q i) (pixel_at q i / q.columns) (pixel_at q i % q.columns)
  unfolding kernel_at channel_at
  number-element =
      let p = place_at q ok i hi in
      record {
        kernel_lt = kernel-below q (group_at q i) (block_at q i) (pixel_at q i) j d p;
        channel_lt = channel-below q (group_at q i) (block_at q i) (pixel_at q i) j d p;
        row_lt = (div-lt_iff_lt-mul ok.columns.some).1 p.pixel_lt;
        column_lt = mod-lt (pixel_at q i) ok.columns.some;
      }

  number-back : element_number q (kernel_at q i) (channel_at q i) (pixel_at q i / q.columns) (pixel_at q i % q.columns) ≡ i
  unfolding kernel_at channel_at
  number-back =
      let p = place_at q ok i hi in
      let g = group_at q i in
      let b = block_at q i in
      let t = pixel_at q i in
      let hj = kernel_in q g b t j d p in
      let hd = channel-in q g b t j d p in
      element-pixel q (g * group_of q + j) (b * 64 + d) (t / q.columns) (t % q.columns) number-element
      ∙ rw (digits_div g hj, digits_mod g hj, digits_div b hd, digits_mod b hd, div-add-mod' t q.columns) (number-at q ok i hi)

  pub number-reached : ElementNumbered q i
  number-reached =
      record {
        k = kernel_at q i;
        c = channel_at q i;
        r = pixel_at q i / q.columns;
        s = pixel_at q i % q.columns;
        element = number-element;
        number = number-back;
      }

  pub raw_at-lt : raw_at q i < element_count q
  unfolding raw_at
  raw_at-lt = index_lt q _ _ _ _ number-element

  pub number_at-raw_at : number_at q (raw_at q i) ≡ i
  unfolding raw_at
  number_at-raw_at = number_at-index q _ _ _ _ number-element ∙ number-back
