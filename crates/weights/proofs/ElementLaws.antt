-- Elements (k, c, r, s), their numbers and their raw indices: a number leads back to the raw index, and no two elements share either. A raw
-- index is a number of four digits. Assumes nothing.
--     number_lt, raw_at-number          its number is below the count, and leads back to its raw index
--     index_lt, number_at-index         its raw index is below the count, and leads to its number
--     index-inj, number-inj            no two elements share a raw index, or a number
use Prim.Native.Nat.{ℕ, ◌+◌, ◌*◌, ◌/◌, ◌%◌, ◌<◌}
use native.Mathlib.Nat.{mod-lt, div-add-mod'}
use native.Mathlib.Omega.{arith}
use mathlib.Core.Path.{◌≡◌, refl, sym, ap, ◌∙◌, subst}
use lib.Arith.{digits_div, digits_mod, digits_lt}
use Rattle.weights.specs.declared.WeightLayout.{WeightLayout}
use Rattle.weights.specs.Geometry.{group_of, element_count, raw_index, group_kernels, block_channels, offset_number, element_number, raw_at, number_at}
use Rattle.weights.specs.StepsPixels.{pixel_number, pixel_index}
use Rattle.weights.proofs.NumberLaws as number
use Rattle.weights.proofs.NumberLaws.{group_size-pos, Place, raw_at-pixel}
pub use Rattle.weights.specs.Places.{Element}

-- ---- from an element to its number and back to its raw index

module _ (q : WeightLayout) (k c r s : ℕ) (x : Element q k c r s) where
  element_place : Place q (k / group_of q) (c / 64) (r * q.columns + s) (k % group_of q) (c % 64)
  unfolding group_kernels block_channels
  element_place =
      record {
        pixel_lt = digits_lt x.row_lt x.column_lt;
        kernel_lt = omega (arith, x.kernel_lt, mod-lt k (group_size-pos q.precision), div-add-mod' k (group_of q));
        channel_lt = omega (arith, x.channel_lt);
      }

  pub element-pixel : element_number q k c r s ≡ pixel_number q (k / group_of q) (c / 64) (r * q.columns + s) (k % group_of q) (c % 64)
  unfolding element_number offset_number pixel_number
  element-pixel = refl

  pub number_lt : element_number q k c r s < element_count q
  number_lt =
      subst (λ (n : ℕ). n < element_count q) (sym element-pixel)
      (number.number_lt q (k / group_of q) (c / 64) (r * q.columns + s) (k % group_of q) (c % 64) element_place)

  element-index : pixel_index q (k / group_of q) (c / 64) (r * q.columns + s) (k % group_of q) (c % 64) ≡ raw_index q k c r s
  unfolding pixel_index raw_index
  element-index =
      let kernel : k / group_of q * group_of q + k % group_of q ≡ k = div-add-mod' k (group_of q) in
      let channel : c / 64 * 64 + c % 64 ≡ c = div-add-mod' c 64 in
      rw (kernel, channel) (omega arith)

  pub raw_at-number : raw_at q (element_number q k c r s) ≡ raw_index q k c r s
  raw_at-number = rw element-pixel (raw_at-pixel q (k / group_of q) (c / 64) (r * q.columns + s) (k % group_of q) (c % 64) element_place ∙ element-index)

  -- ---- the four digits of a raw index

  pub index_lt : raw_index q k c r s < element_count q
  unfolding raw_index element_count
  index_lt = digits_lt (digits_lt (digits_lt x.kernel_lt x.channel_lt) x.row_lt) x.column_lt

  index-column : raw_index q k c r s % q.columns ≡ s
  unfolding raw_index
  index-column = digits_mod ((k * q.channels + c) * q.rows + r) x.column_lt

  over-columns : raw_index q k c r s / q.columns ≡ (k * q.channels + c) * q.rows + r
  unfolding raw_index
  over-columns = digits_div ((k * q.channels + c) * q.rows + r) x.column_lt

  index-row : raw_index q k c r s / q.columns % q.rows ≡ r
  index-row = rw over-columns (digits_mod (k * q.channels + c) x.row_lt)

  over-rows : raw_index q k c r s / q.columns / q.rows ≡ k * q.channels + c
  over-rows = rw over-columns (digits_div (k * q.channels + c) x.row_lt)

  index-channel : raw_index q k c r s / q.columns / q.rows % q.channels ≡ c
  index-channel = rw over-rows (digits_mod k x.channel_lt)

  index-kernel : raw_index q k c r s / q.columns / q.rows / q.channels ≡ k
  index-kernel = rw over-rows (digits_div k x.channel_lt)

  pub number_at-index : number_at q (raw_index q k c r s) ≡ element_number q k c r s
  unfolding number_at
  number_at-index = rw (index-kernel, index-channel, index-row, index-column)

module _ (q : WeightLayout) (k c r s k' c' r' s' : ℕ) (x : Element q k c r s) (x' : Element q k' c' r' s') where
  pub index-inj : raw_index q k c r s ≡ raw_index q k' c' r' s' → (k ≡ k') × (c ≡ c') × (r ≡ r') × (s ≡ s')
  index-inj e = (
    sym (index-kernel q k c r s x) ∙ ap (λ (i : ℕ). i / q.columns / q.rows / q.channels) e ∙ index-kernel q k' c' r' s' x',
    sym (index-channel q k c r s x) ∙ ap (λ (i : ℕ). i / q.columns / q.rows % q.channels) e ∙ index-channel q k' c' r' s' x',
    sym (index-row q k c r s x) ∙ ap (λ (i : ℕ). i / q.columns % q.rows) e ∙ index-row q k' c' r' s' x',
    sym (index-column q k c r s x) ∙ ap (λ (i : ℕ). i % q.columns) e ∙ index-column q k' c' r' s' x',
  )

  pub number-inj : element_number q k c r s ≡ element_number q k' c' r' s' → (k ≡ k') × (c ≡ c') × (r ≡ r') × (s ≡ s')
  number-inj e = index-inj (sym (raw_at-number q k c r s x) ∙ ap (raw_at q) e ∙ raw_at-number q k' c' r' s' x')
