-- The bytes of a column of elements, two by two as units, and tiles of units (specs/Columns.antt). Assumes nothing.
--     column_byte-lt, column_byte-column, column_byte-rows    its range; counted from a later column, from a later row
--     pair-two, plane-le     the rows of a unit
--     unit-one, unit-two     the unit of two elements of one byte, of one of two
--     unit-at                unit j of column i by the place of its first element
--     held_more              one unit more in a tile
--     tile-column            a tile's bytes are the columns'
--     columns-step, unit-bytes, byte-bytes, tile-unit-bytes    one turn of a loop
use Prim.Native.Nat.{ℕ, zero, suc, ◌+◌, ◌-◌, ◌*◌, ◌/◌, ◌%◌, ◌^◌, ◌≤◌, ◌<◌}
use native.Mathlib.Omega.{arith}
use native.Mathlib.Numerals.{add-one}
use native.Mathlib.Nat.{add-zero, mul-suc, mul-le-mul_left, add-mul, mul_assoc, mul-add-div_right, mul-add-mod_self_right, mul_comm, mod-lt, le_of_suc-le-suc, not-suc-le-zero, eq-or-lt_of_le}
use mathlib.Core.Path.{◌≡◌, refl, sym, ap, subst, ◌∙◌}
use mathlib.Core.Logic.{◌⊎◌, inl, inr, ⊎_elim}
use mathlib.Core.List.{List}
use lib.ListN.{length, get_or, set}
use lib.Arith.{digits_div, digits_mod, digits_lt}
use lib.Seq.{get_or-set_same, get_or-set_other}
use lib.IntN.{ℤ}
use Rattle.elements.specs.Bytes.{byte_of}
use Rattle.elements.proofs.ByteLaws.{byte_of-lt}
use Rattle.columns.specs.Columns.{columns, column_byte, column_unit, tile_byte, bytes_set}
use Rattle.columns.proofs.ColumnLaws.{columns-more, columns-under, columns-beside}

-- ---- the bytes of a column

module _ (e : ℕ) (source : ℕ → ℤ) where
  pub column_byte-lt : (from plane i b : ℕ) → column_byte e source from plane i b < 256
  unfolding column_byte
  column_byte-lt from plane i b = byte_of-lt _ _

  column_byte-at : (from plane i b r j p : ℕ) → b / e ≡ r → b % e ≡ j → from + i + r * plane ≡ p → column_byte e source from plane i b ≡ byte_of (source p) j
  unfolding column_byte
  column_byte-at from plane i b r j p hr hj hp = rw (hr, hj, hp)

  pub column_byte-column : (from plane i b : ℕ) → column_byte e source (from + i) plane 0 b ≡ column_byte e source from plane i b
  unfolding column_byte
  column_byte-column from plane i b = rw (add-zero (from + i))

  pub column_byte-rows : 0 < e → (from plane a i b : ℕ) → column_byte e source (from + a * plane) plane i b ≡ column_byte e source from plane i (a * e + b)
  unfolding column_byte
  column_byte-rows he from plane a i b =
      let p : from + a * plane + i + b / e * plane ≡ from + i + (a + b / e) * plane = omega (arith, add-mul a (b / e) plane) in
      rw (mul-add-div_right he a b, mul-add-mod_self_right a e b, p)

pub pair-two : (e : ℕ) → 1 ≤ e → e ≤ 2 → (3 - e) * e ≡ 2
pair-two zero low high = absurd (not-suc-le-zero low)
pair-two (suc zero) low high = refl
pair-two (suc (suc zero)) low high = refl
pair-two (suc (suc (suc e))) low high = absurd (not-suc-le-zero (le_of_suc-le-suc (le_of_suc-le-suc high)))

-- the rows of a unit: one or two
pub pair-rows : (e plane : ℕ) → 1 ≤ e → e ≤ 2 → ((e ≡ 1) × ((3 - e) * plane ≡ plane + plane)) ⊎ ((e ≡ 2) × ((3 - e) * plane ≡ plane))
pair-rows zero plane low high = absurd (not-suc-le-zero low)
pair-rows (suc zero) plane low high = inl (refl, omega arith)
pair-rows (suc (suc zero)) plane low high = inr (refl, omega arith)
pair-rows (suc (suc (suc e))) plane low high = absurd (not-suc-le-zero (le_of_suc-le-suc (le_of_suc-le-suc high)))

pub plane-le : (e plane : ℕ) → 1 ≤ e → e ≤ 2 → plane ≤ (3 - e) * plane
plane-le e plane low high = ⊎_elim (λ h. omega arith) (λ h. omega arith) (pair-rows e plane low high)

-- from a unit's elements to the next unit's
pub step_of : (e plane step : ℕ) → 1 ≤ e → e ≤ 2 → ((e ≡ 1) × (step ≡ 2 * plane)) ⊎ ((e ≡ 1 → ⊥) × (step ≡ plane)) → step ≡ (3 - e) * plane
step_of e plane step low high (inl w) = ⊎_elim (λ h. omega (arith, w.1, h.1)) (λ h. absurd (omega (arith, w.0, h.0))) (pair-rows e plane low high)
step_of e plane step low high (inr w) = ⊎_elim (λ h. absurd (w.0 h.0)) (λ h. omega (arith, w.1, h.1)) (pair-rows e plane low high)

-- ---- units

pub unit-one : (source : ℕ → ℤ) (at plane : ℕ) → column_unit 1 source at plane 0 0 ≡ byte_of (source at) 0 + 256 * byte_of (source (at + plane)) 0
unfolding column_unit
unit-one source at plane =
    rw (column_byte-at 1 source at plane 0 (2 * 0) 0 0 at refl refl (omega arith), column_byte-at 1 source at plane 0 (2 * 0 + 1) 1 0 (at + plane) refl refl (omega arith))

pub unit-two : (source : ℕ → ℤ) (at plane : ℕ) → column_unit 2 source at plane 0 0 ≡ byte_of (source at) 0 + 256 * byte_of (source at) 1
unfolding column_unit
unit-two source at plane =
    rw (column_byte-at 2 source at plane 0 (2 * 0) 0 0 at refl refl (omega arith), column_byte-at 2 source at plane 0 (2 * 0 + 1) 0 1 at refl refl (omega arith))

module _ (e : ℕ) (low : 1 ≤ e) (high : e ≤ 2) (source : ℕ → ℤ) (from plane i j p : ℕ) (is : p ≡ from + i + j * ((3 - e) * plane)) where
  byte_at : (b : ℕ) → column_byte e source p plane 0 b ≡ column_byte e source from plane i (2 * j + b)
  byte_at b =
      let q : p ≡ from + j * (3 - e) * plane + i = omega (arith, is, mul_assoc j (3 - e) plane) in
      let two : j * (3 - e) * e ≡ 2 * j = mul_assoc j (3 - e) e ∙ ap (λ (x : ℕ). j * x) (pair-two e low high) ∙ omega arith in
      ap (λ (x : ℕ). column_byte e source x plane 0 b) q
      ∙ column_byte-column e source (from + j * (3 - e) * plane) plane i b
      ∙ column_byte-rows e source low from plane (j * (3 - e)) i b
      ∙ ap (λ (x : ℕ). column_byte e source from plane i (x + b)) two

  pub unit-at : column_unit e source p plane 0 0 ≡ column_unit e source from plane i j
  unfolding column_unit
  unit-at =
      let zero-at : column_byte e source p plane 0 (2 * 0) ≡ column_byte e source from plane i (2 * j) = byte_at 0 ∙ ap (λ (x : ℕ). column_byte e source from plane i x) (omega arith) in
      rw (zero-at, byte_at 1)

-- ---- tiles

module _ (units i j : ℕ) (h : j < units) where
  turned : units * i + j ≡ i * units + j
  turned = omega (arith, mul_comm units i)

  column-of-unit : (units * i + j) / units ≡ i
  column-of-unit = rw turned (digits_div i h)

  unit-of-column : (units * i + j) % units ≡ j
  unit-of-column = rw turned (digits_mod i h)

module _ (P : ℕ → ℕ → ℕ → Type 0) where
  -- the first q units of a tile of so many units a column
  abbrev pub Held : (units q : ℕ) → List ℕ → Type 0
  Held units q l = (m : ℕ) → m < q → P (m / units) (m % units) (get_or l m 0)

  -- unit j of column i more
  pub held_more : (units : ℕ) (l : List ℕ) (i j v : ℕ) → j < units → units * i + j < length l → Held units (units * i + j) l → P i j v
      → Held units (units * i + (j + 1)) (set l (units * i + j) v)
  held_more units l i j v hj lt h e m hm =
      let q = units * i + j in
      let k : m < suc q = omega arith in
      ⊎_elim
      (λ t. subst (λ (x : ℕ). P (x / units) (x % units) (get_or (set l q v) x 0)) (sym t) (rw (get_or-set_same l q v 0 lt, column-of-unit units i j hj, unit-of-column units i j hj) e))
      (λ s. rw (get_or-set_other l q m v 0 (λ z. omega arith)) (h m s))
      (eq-or-lt_of_le (le_of_suc-le-suc k))

-- the low byte and the high byte of a unit
two_bytes : (t x y v b s : ℕ) → t ≡ x + 256 * y → x < 256 → y < 256 → s < 2 → (s ≡ 0 → v ≡ x) → (s ≡ 1 → v ≡ y) → t / 256 ^ s % 256 ≡ v
two_bytes t x y v b zero e hx hy hs low high = omega (arith, low refl)
two_bytes t x y v b (suc zero) e hx hy hs low high = omega (arith, high refl)
two_bytes t x y v b (suc (suc s)) e hx hy hs low high = absurd (omega arith)

module _ (units e : ℕ) (source : ℕ → ℤ) (from plane n : ℕ) (tile : List ℕ) (held : Held (λ (i : ℕ) (j : ℕ) (v : ℕ). v ≡ column_unit e source from plane i j) units (units * n) tile) where
  pub tile-column : (i b : ℕ) → i < n → b < 2 * units → tile_byte units tile i b ≡ column_byte e source from plane i b
  unfolding tile_byte column_unit
  tile-column i b hi hb =
      let j = b / 2 in
      let hj : j < units = omega arith in
      let u : get_or tile (units * i + j) 0 ≡ column_unit e source from plane i j = held (units * i + j) (omega (arith, digits_lt {q = i} {m = n} hi hj, mul_comm units i, mul_comm units n)) ∙ rw (column-of-unit units i j hj, unit-of-column units i j hj) in
      two_bytes (get_or tile (units * i + j) 0) (column_byte e source from plane i (2 * j)) (column_byte e source from plane i (2 * j + 1)) (column_byte e source from plane i b) b (b % 2)
      u (column_byte-lt e source from plane i (2 * j)) (column_byte-lt e source from plane i (2 * j + 1)) (mod-lt b (omega arith))
      (λ s. ap (column_byte e source from plane i) (omega arith))
      (λ s. ap (column_byte e source from plane i) (omega arith))

-- ---- one turn of a loop

pub columns-step : {A : Type 0} (dflt : A) (byte : ℕ → ℕ → A) (k i at stride : ℕ) {buf after : List A} (before : List A) → k ≤ stride → buf ≡ columns byte k i at stride before
    → after ≡ bytes_set (byte i) k (at + stride * i) buf → after ≡ columns byte k (i + 1) at stride before
columns-step dflt byte k i at stride before fit e s =
    s ∙ ap (bytes_set (byte i) k (at + stride * i)) e ∙ columns-more dflt byte k i at stride fit before ∙ ap (λ (n : ℕ). columns byte k n at stride before) (sym (add-one i))

module _ (f : ℕ → ℕ) (p : ℕ) (buf : List ℕ) where
  pub unit-bytes : (u : ℕ) → u ≡ f 0 + 256 * f 1 → f 0 < 256 → f 1 < 256 → set (set buf p (u % 256)) (p + 1) (u / 256) ≡ bytes_set f 2 p buf
  unfolding bytes_set
  unit-bytes u e h0 h1 =
      let e0 : u % 256 ≡ f 0 = omega arith in
      let e1 : u / 256 ≡ f 1 = omega arith in
      rw (add-zero p, e0, e1)

  pub byte-bytes : (v : ℕ) → v ≡ f 0 → set buf p v ≡ bytes_set f 1 p buf
  unfolding bytes_set
  byte-bytes v e = rw (add-zero p, e)

-- unit j of column i of a tile, written behind those before it
module _ (units : ℕ) (tile : List ℕ) (i : ℕ) where
  low_byte : (j u : ℕ) → u ≡ get_or tile (units * i + j) 0 → u % 256 ≡ tile_byte units tile i (2 * j)
  unfolding tile_byte
  low_byte j u e =
      let d : 2 * j / 2 ≡ j = omega arith in
      let m : 2 * j % 2 ≡ 0 = omega arith in
      rw (d, m, ← e) (omega arith)

  high_byte : (j u : ℕ) → u ≡ get_or tile (units * i + j) 0 → u < 65536 → u / 256 ≡ tile_byte units tile i (2 * j + 1)
  unfolding tile_byte
  high_byte j u e h =
      let d : (2 * j + 1) / 2 ≡ j = omega arith in
      let m : (2 * j + 1) % 2 ≡ 1 = omega arith in
      rw (d, m, ← e) (omega arith)

  pub tile-unit-bytes : (j u p q : ℕ) {buf after : List ℕ} (before : List ℕ) → buf ≡ bytes_set (tile_byte units tile i) (2 * j) p before
      → after ≡ set (set buf q (u % 256)) (q + 1) (u / 256) → u ≡ get_or tile (units * i + j) 0 → u < 65536 → q ≡ p + 2 * j
      → after ≡ bytes_set (tile_byte units tile i) (2 * (j + 1)) p before
  unfolding bytes_set
  tile-unit-bytes j u p q before hb ha e h hq =
      let two : 2 * (j + 1) ≡ suc (suc (2 * j)) = omega arith in
      let q1 : q + 1 ≡ p + suc (2 * j) = omega arith in
      let high : u / 256 ≡ tile_byte units tile i (suc (2 * j)) = high_byte j u e h ∙ ap (tile_byte units tile i) (add-one (2 * j)) in
      rw two (ha ∙ rw (hb, q1, hq, low_byte j u e, high))

-- the first byte of a column of elements of one byte
pub first_byte : (source : ℕ → ℤ) (from plane i : ℕ) → column_byte 1 source from plane i 0 ≡ byte_of (source (from + i)) 0
first_byte source from plane i = column_byte-at 1 source from plane i 0 0 0 (from + i) refl refl (omega arith)

-- the first unit of column i
pub unit-first : (e : ℕ) (source : ℕ → ℤ) (from plane i : ℕ) → column_unit e source (from + i) plane 0 0 ≡ column_byte e source from plane i 0 + 256 * column_byte e source from plane i 1
unfolding column_unit
unit-first e source from plane i = rw (column_byte-column e source from plane i (2 * 0), column_byte-column e source from plane i (2 * 0 + 1))

-- column i is in the buffer
pub column-room : (at stride i n k len : ℕ) → i < n → at + stride * n + k ≤ len + stride → at + stride * i + k ≤ len
column-room at stride i n k len hi h = omega (arith, h, mul-le-mul_left {m = suc i} {n = n} stride hi, mul-suc stride i)

-- ---- rows below rows

-- bytes of a column counted from row a on
pub rows_at : (e : ℕ) → 0 < e → (source : ℕ → ℤ) (from plane a k p i b : ℕ) → p ≡ from + a * plane → a * e ≡ k
    → column_byte e source p plane i b ≡ column_byte e source from plane i (k + b)
rows_at e he source from plane a k p i b hp hk =
    ap (λ (x : ℕ). column_byte e source x plane i b) hp ∙ column_byte-rows e source he from plane a i b ∙ ap (λ (x : ℕ). column_byte e source from plane i (x + b)) hk

pub under-step : {A : Type 0} (dflt : A) (f g : ℕ → ℕ → A) (k d n at stride q : ℕ) {buf after : List A} (before : List A) → k + d ≤ stride
    → ((i b : ℕ) → i < n → b < d → g i b ≡ f i (k + b)) → q ≡ at + k → buf ≡ columns f k n at stride before → after ≡ columns g d n q stride buf
    → after ≡ columns f (k + d) n at stride before
under-step dflt f g k d n at stride q {buf} {after} before fit e hq hb ha =
    ha ∙ ap (λ (x : ℕ). columns g d n x stride buf) hq ∙ ap (columns g d n (at + k) stride) hb ∙ columns-under dflt f g k d n at stride fit before e

pub stride-le : (stride n : ℕ) → 1 ≤ n → stride ≤ stride * n
stride-le stride n h = omega (arith, mul-le-mul_left {m = 1} {n = n} stride h)

pub beside-step : {A : Type 0} (dflt : A) (f g : ℕ → ℕ → A) (k n m at stride q : ℕ) {buf after : List A} (before : List A) → k ≤ stride
    → ((i b : ℕ) → i < m → b < k → g i b ≡ f (n + i) b) → q ≡ at + stride * n → buf ≡ columns f k n at stride before → after ≡ columns g k m q stride buf
    → after ≡ columns f k (n + m) at stride before
beside-step dflt f g k n m at stride q {buf} {after} before fit e hq hb ha =
    ha ∙ ap (λ (x : ℕ). columns g k m x stride buf) hq ∙ ap (columns g k m (at + stride * n) stride) hb ∙ columns-beside dflt f g k n m at stride fit before e
