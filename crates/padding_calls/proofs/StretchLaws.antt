-- Where padding lies (specs/Steps.antt): only in the last surface, since the channels' bytes end in its atoms; a row of it is left behind, is under way, or its gap is.
-- By the paper's formula, whose rows are told apart by division. Assumes nothing.
--     channels_pos, surfaces-before, before-lt     the surfaces before the last one
--     before_last, past-rows, in-atoms, in-gap     the four kinds of stretch
use Prim.Native.Nat.{ℕ, suc, ◌+◌, ◌-◌, ◌*◌, ◌/◌, ◌%◌, ◌^◌, ◌≤◌, ◌<◌}
use native.Mathlib.Nat.{mul-le-mul, mul-le-mul_right, div-add-mod', mod-lt}
use native.Mathlib.Decide.{dec_le}
use native.Mathlib.Omega.{arith}
use mathlib.Core.Path.{◌≡◌, refl, sym, ap, ◌∙◌}
use mathlib.Core.Bool.{true, false}
use lib.Arith.{digits_div}
use lib.Dec.{leb}
use borrow.Author.Tests.{le-leb, lt-leb}
use Rattle.elements.proofs.ByteLaws.{element_bytes-pos}
use Rattle.layout.specs.declared.CubeLayout.{CubeLayout}
use Rattle.layout.specs.Geometry.{size_of, surfaces}
use Rattle.layout.specs.Owners.{Owner, element, padding, outside, owner}
use Rattle.layout.specs.Places.{PaddingByte}
use Rattle.layout.proofs.Valid.{Valid}
use Rattle.layout.proofs.Extents.{surfaces-le}
use Rattle.layout.proofs.Formulas.{padding-exactly}
use Rattle.padding_calls.specs.Steps.{is_padding, last_surface, elements_end, IsStretch}

-- a multiple of 32, so many times
times-whole : (s n : ℕ) → n % 32 ≡ 0 → s * n % 32 ≡ 0
times-whole s n e =
    let whole : n ≡ n / 32 * 32 = omega (arith, div-add-mod' n 32) in
    omega (arith, ap (λ (x : ℕ). s * x) whole)

module _ (q : CubeLayout) (ok : Valid q) where
  pub channels_pos : 0 < q.channels * size_of q
  channels_pos = mul-le-mul ok.channels_pos (element_bytes-pos q.precision)

  pub surfaces-before : (q.channels * size_of q - 1) / 32 ≡ surfaces q - 1
  unfolding surfaces
  surfaces-before = omega (arith, channels_pos)

  pub before-lt : 32 * (surfaces q - 1) < q.channels * size_of q
  unfolding surfaces
  before-lt = omega (arith, channels_pos)

  -- byte x is a byte of the last surface's atoms behind their elements
  record LastByte (x : ℕ) : Type 0 where
    h : ℕ
    w : ℕ
    k : ℕ
    row_lt : h < q.height
    column_lt : w < q.width
    byte_lt : k < 32
    past : elements_end q ≤ k
    place : x ≡ last_surface q + h * q.line + 32 * w + k

  to_last : (x : ℕ) → PaddingByte q x → LastByte x
  unfolding last_surface elements_end
  to_last x b =
      let a = b.atom in
      let last : a.s ≡ surfaces q - 1 = omega (arith, b.past, a.byte_lt, a.surface_lt, before-lt) in
      record {
        h = a.h;
        w = a.w;
        k = a.k;
        row_lt = a.row_lt;
        column_lt = a.column_lt;
        byte_lt = a.byte_lt;
        past = omega (arith, b.past, last);
        place = a.place ∙ ap (λ (s : ℕ). q.start + s * q.surface + a.h * q.line + 32 * a.w + a.k) last;
      }

  surfaces-some : surfaces q - 1 < surfaces q
  unfolding surfaces
  surfaces-some = omega (arith, channels_pos)

  from_last : (x : ℕ) → LastByte x → PaddingByte q x
  unfolding last_surface elements_end
  from_last x b =
      record {
        atom =
            record {
              s = surfaces q - 1;
              h = b.h;
              w = b.w;
              k = b.k;
              surface_lt = surfaces-some;
              row_lt = b.row_lt;
              column_lt = b.column_lt;
              byte_lt = b.byte_lt;
              place = b.place;
            };
        past = omega (arith, b.past);
      }

  some-padding : (x : ℕ) → LastByte x → is_padding (owner q x) ≡ true
  unfolding is_padding
  some-padding x b = rw ((padding-exactly q ok x).1 (from_last x b))

  no-padding : (x : ℕ) → (LastByte x → ⊥) → is_padding (owner q x) ≡ false
  unfolding is_padding
  no-padding x f = by (owner q x) refl
    where
      by : (o : Owner) → owner q x ≡ o → is_padding o ≡ false
      by (element c h w b) e = refl
      by padding e = absurd (f (to_last x ((padding-exactly q ok x).0 e)))
      by outside e = refl

  -- the row behind a row of padding begins past it
  row-end : (x : ℕ) (b : LastByte x) → x < last_surface q + suc b.h * q.line
  row-end x b = omega (arith, b.place, b.byte_lt, b.column_lt, ok.line_ge, mul-le-mul_right {m = b.w} {n = q.width - 1} 32 (omega (arith, b.column_lt)))

  pub before_last : (p : ℕ) → p < last_surface q → IsStretch q p (record { end = last_surface q; atoms = false })
  before_last p h = record { onward = h; owners = λ x hp hx. no-padding x (λ b. omega (arith, hx, b.place)) }

  -- a position from the last surface's start on, its row and where that begins
  module _ (p base : ℕ) (is : base ≡ last_surface q) (from : base ≤ p) where
    abbrev row : ℕ
    row = (p - base) / q.line

    abbrev row_start : ℕ
    row_start = p - (p - base) % q.line

    pub line-pos : 0 < q.line
    line-pos = omega (arith, ok.line_ge, ok.width_pos)

    pub row_start-is : row_start ≡ last_surface q + row * q.line
    row_start-is = omega (arith, div-add-mod' (p - base) q.line, from, is)

    pub in-row-le : (p - base) % q.line ≤ p
    in-row-le = omega (arith, div-add-mod' (p - base) q.line)

    pub in-line : p < row_start + q.line
    in-line = omega (arith, mod-lt (p - base) line-pos, row_start-is, div-add-mod' (p - base) q.line, is)

    pub row_fits : q.start < 2 ^ 32 → q.surface < 2 ^ 32 → q.line < 2 ^ 32 → row < q.height → row_start + q.line < 2 ^ 64
    unfolding last_surface
    row_fits hs hf hl hr =
        let a : (surfaces q - 1) * q.surface ≤ 512 * 2 ^ 32 = mul-le-mul {n₂ = 512} {m₂ = 2 ^ 32} (omega (arith, surfaces-le q ok)) (omega (arith, hf)) in
        let b : row * q.line ≤ 8192 * 2 ^ 32 = mul-le-mul {n₂ = 8192} {m₂ = 2 ^ 32} (omega (arith, hr, ok.height_le)) (omega (arith, hl)) in
        omega (arith, row_start-is, a, b, hs, hl)

    pub past-rows : (end : ℕ) → p < end → q.height ≤ row → IsStretch q p (record { end = end; atoms = false })
    past-rows end h hr =
        record {
          onward = h;
          owners =
              λ x hp hx. no-padding x
              (λ b. omega (arith, row-end x b, hp, row_start-is, mul-le-mul_right {m = suc b.h} {n = row} q.line (omega (arith, b.row_lt, hr))));
        }

    base-whole : last_surface q % 32 ≡ 0
    unfolding last_surface
    base-whole = omega (arith, ok.start_atoms, times-whole (surfaces q - 1) q.surface ok.surface_atoms)

    -- the byte of its atom at which x lies
    byte-is : (x h t : ℕ) → x ≡ last_surface q + h * q.line + t → x % 32 ≡ t % 32
    byte-is x h t e = omega (arith, e, base-whole, times-whole h q.line ok.line_atoms)

    pub in-atoms : row < q.height → p < row_start + 32 * q.width → IsStretch q p (record { end = row_start + 32 * q.width; atoms = true })
    in-atoms hr h = record { onward = h; owners = λ x hp hx. elim (dec_le (elements_end q) (x % 32)) [ yes g ↦ some x hp hx g | no g ↦ none x g ] }
      where
        some : (x : ℕ) → p ≤ x → x < row_start + 32 * q.width → elements_end q ≤ x % 32 → is_padding (owner q x) ≡ leb (elements_end q) (x % 32)
        some x hp hx g =
            let d = x - row_start in
            let at : x ≡ last_surface q + row * q.line + d = omega (arith, hp, row_start-is) in
            some-padding x
            (record {
              h = row;
              w = d / 32;
              k = d % 32;
              row_lt = hr;
              column_lt = omega (arith, hx, hp);
              byte_lt = omega arith;
              past = omega (arith, g, byte-is x row d at);
              place = omega (arith, at);
            })
            ∙ sym (le-leb _ _ g)

        none : (x : ℕ) → (elements_end q ≤ x % 32 → ⊥) → is_padding (owner q x) ≡ leb (elements_end q) (x % 32)
        none x g =
            no-padding x (λ b. g (omega (arith, b.past, b.byte_lt, byte-is x b.h (32 * b.w + b.k) (omega (arith, b.place)))))
            ∙ sym (lt-leb (elements_end q) (x % 32) (omega (arith, g)))

    pub in-gap : row_start + 32 * q.width ≤ p → IsStretch q p (record { end = row_start + q.line; atoms = false })
    in-gap h = record { onward = in-line; owners = λ x hp hx. no-padding x (λ b. none x hp hx b) }
      where
        none : (x : ℕ) → p ≤ x → x < row_start + q.line → LastByte x → ⊥
        none x hp hx b =
            let t = 32 * b.w + b.k in
            let d = x - row_start in
            let below : t < 32 * q.width = omega (arith, b.byte_lt, b.column_lt) in
            let at : x ≡ last_surface q + row * q.line + d = omega (arith, hp, h, row_start-is) in
            let same : row * q.line + d ≡ b.h * q.line + t = omega (arith, at, b.place) in
            let rows : row ≡ b.h =
            sym (digits_div row {m = q.line} {r = d} (omega (arith, hx))) ∙ ap (λ (n : ℕ). n / q.line) same ∙ digits_div b.h {m = q.line} {r = t} (omega (arith, below, ok.line_ge)) in
            omega (arith, same, ap (λ (n : ℕ). n * q.line) rows, below, hp, h)
