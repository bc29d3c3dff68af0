-- Columns as a step toward a goal list (elements' Toward): the way to what a nest of loops leaves. Assumes nothing.
--     columns-toward, columns-reached                columns of the goal's entries are such a step, and reach them
--     block-written-toward, block-written-reached    so is a block of elements whose bytes are the goal's
--     block-read-toward, block-read-reached          and one that reads the goal's elements
use Prim.Native.Nat.{ℕ, ◌+◌, ◌*◌, ◌/◌, ◌%◌, ◌≤◌, ◌<◌}
use native.Mathlib.Omega.{arith}
use native.Mathlib.Nat.{div-add-mod', mod-lt, div-lt_iff_lt-mul, mul_comm}
use native.Mathlib.Decide.{dec_lt}
use mathlib.Core.Path.{◌≡◌, sym, ap, subst, ◌∙◌}
use mathlib.Core.Logic.{inl, inr, ⊎_elim}
use mathlib.Core.List.{List}
use lib.ListN.{length, get_or, get_or-eq_default}
use lib.Arith.{digits_lt}
use lib.IntN.{ℤ, pos}
use Rattle.general.proofs.Toward.{Toward}
use Rattle.elements.specs.Bytes.{byte_of, element_at}
use Rattle.columns.specs.declared.ColumnBlock.{ColumnBlock}
use Rattle.columns.specs.Columns.{columns, column_byte, listed, rows_written, column_element, rows_read}
use Rattle.columns.specs.Blocks.{block_written, block_read}
use Rattle.columns.proofs.BlockLaws.{BlockFits, columns-end, rows_end, block-written, block-read}
use Rattle.columns.proofs.UnitLaws.{column-room}
use Rattle.columns.proofs.ColumnLaws.{place, columns-length, columns-hit, columns-miss}

module _ {A : Type 0} (d : A) (goal : List A) (entry : ℕ → ℕ → A) (k n at stride : ℕ) (fit : k ≤ stride) (l : List A)
    (same : (i b : ℕ) → i < n → b < k → entry i b ≡ get_or goal (at + stride * i + b) d) where
  pub columns-reached : (i b : ℕ) → i < n → b < k → at + stride * i + b < length l
      → get_or (columns entry k n at stride l) (at + stride * i + b) d ≡ get_or goal (at + stride * i + b) d
  columns-reached i b hi hb lt = columns-hit d entry k n at stride fit l i b hi hb lt ∙ same i b hi hb

  pub columns-toward : Toward d goal l (columns entry k n at stride l)
  columns-toward =
      let long = columns-length entry k n at stride l in
      record {
        long = long;
        each = λ p. elim (dec_lt p (length l)) [
          | yes lt ↦ ⊎_elim
              (λ w. inr (subst (λ (x : ℕ). get_or (columns entry k n at stride l) x d ≡ get_or goal x d) (sym w.is)
              (columns-reached w.i w.b w.i_lt w.b_lt (subst (λ (x : ℕ). x < length l) w.is lt))))
              (λ o. inl (columns-miss d entry k n at stride fit l p lt o))
              (place k n at stride fit p)
          | no f ↦ inl (get_or-eq_default (columns entry k n at stride l) d (omega (arith, long)) ∙ sym (get_or-eq_default l d (omega arith)))
        ];
      }

-- ---- blocks

module _ (b : ColumnBlock) (xs : List ℤ) (goal before : List ℕ) (fit : BlockFits b (length xs) (length before))
    (same : (r i j : ℕ) → r < b.rows → i < b.count → j < b.size
    → byte_of (get_or xs (b.from + i + r * b.plane) (pos 0)) j ≡ get_or goal (b.at + b.stride * i + r * b.size + j) 0) where
  byte-same : (i x : ℕ) → i < b.count → x < b.rows * b.size
      → column_byte b.size (listed xs) b.from b.plane i x ≡ get_or goal (b.at + b.stride * i + x) 0
  unfolding column_byte listed
  byte-same i x hi hx =
      let e = b.size in
      same (x / e) i (x % e) ((div-lt_iff_lt-mul fit.some).1 hx) hi (mod-lt x fit.some)
      ∙ ap (λ (p : ℕ). get_or goal p 0) (omega (arith, div-add-mod' x e))

  pub block-written-toward : Toward 0 goal before (block_written b xs before)
  unfolding rows_written
  block-written-toward =
      subst (λ (l : List ℕ). Toward 0 goal before l) (sym (block-written b xs before fit))
      (columns-toward 0 goal (column_byte b.size (listed xs) b.from b.plane) (b.rows * b.size) b.count b.at b.stride fit.deep before byte-same)

  pub block-written-reached : (r i j : ℕ) → r < b.rows → i < b.count → j < b.size
      → get_or (block_written b xs before) (b.at + b.stride * i + r * b.size + j) 0 ≡ get_or goal (b.at + b.stride * i + r * b.size + j) 0
  unfolding rows_written
  block-written-reached r i j hr hi hj =
      let x = r * b.size + j in
      let hx : x < b.rows * b.size = digits_lt hr hj in
      let p : b.at + b.stride * i + x ≡ b.at + b.stride * i + r * b.size + j = omega arith in
      subst (λ (q : ℕ). get_or (block_written b xs before) q 0 ≡ get_or goal q 0) p
      (ap (λ (l : List ℕ). get_or l (b.at + b.stride * i + x) 0) (block-written b xs before fit)
      ∙ columns-reached 0 goal (column_byte b.size (listed xs) b.from b.plane) (b.rows * b.size) b.count b.at b.stride fit.deep before byte-same i x hi hx
      (omega (arith, column-room b.at b.stride i b.count (b.rows * b.size) (length before) hi (columns-end fit))))

module _ (b : ColumnBlock) (buf : List ℕ) (goal before : List ℤ) (fit : BlockFits b (length before) (length buf)) (apart : b.count ≤ b.plane)
    (same : (r i : ℕ) → r < b.rows → i < b.count → element_at b.size buf (b.at + b.stride * i + r * b.size) ≡ get_or goal (b.from + b.plane * r + i) (pos 0)) where
  element-same : (r i : ℕ) → r < b.rows → i < b.count → column_element b.size buf b.at b.stride r i ≡ get_or goal (b.from + b.plane * r + i) (pos 0)
  unfolding column_element
  element-same r i hr hi = same r i hr hi

  pub block-read-toward : Toward (pos 0) goal before (block_read b buf before)
  unfolding rows_read
  block-read-toward =
      subst (λ (l : List ℤ). Toward (pos 0) goal before l) (sym (block-read b buf before fit apart))
      (columns-toward (pos 0) goal (column_element b.size buf b.at b.stride) b.count b.rows b.from b.plane apart before element-same)

  pub block-read-reached : (r i : ℕ) → r < b.rows → i < b.count
      → get_or (block_read b buf before) (b.from + b.plane * r + i) (pos 0) ≡ get_or goal (b.from + b.plane * r + i) (pos 0)
  unfolding rows_read
  block-read-reached r i hr hi =
      ap (λ (l : List ℤ). get_or l (b.from + b.plane * r + i) (pos 0)) (block-read b buf before fit apart)
      ∙ columns-reached (pos 0) goal (column_element b.size buf b.at b.stride) b.count b.rows b.from b.plane apart before element-same r i hr hi
      (omega (arith, column-room b.from b.plane r b.rows b.count (length before) hr (omega (arith, rows_end fit, mul_comm b.plane b.rows))))
