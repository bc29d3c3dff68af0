-- The bytes of an atom, element by element: its elements are columns of bytes that stand one behind another. Assumes nothing.
--     held-element                                an index held at the greatest number of 64 bits has its element: none
--     channel_byte, elements_written                a byte of an element; an atom with its first elements written
--     written_none, written-more, written_all     how it is filled
use Prim.Native.Nat.{ℕ, ◌+◌, ◌*◌, ◌/◌, ◌%◌, ◌≤◌, ◌<◌, min}
use native.Mathlib.Nat.{sub-zero, mod-lt, le_refl, div-lt_iff_lt-mul}
use native.Mathlib.Decide.{dec_lt, dec_le}
use native.Mathlib.Omega.{arith}
use mathlib.Core.Path.{◌≡◌, sym, ap, ◌∙◌}
use mathlib.Core.List.{List}
use lib.Dec.{ltb}
use lib.IntN.{ℤ, pos}
use lib.ListN.{length, get_or, replicate, get_or-replicate, get_or-eq_default}
use lib.Seq.{ext_get_or}
use borrow.Author.Tests.{lt-ltb, le-ltb, le-leb}
use Rattle.elements.specs.Bytes.{element_bytes, byte_of}
use Rattle.elements.specs.Lists.{tabulate}
use Rattle.elements.proofs.ByteLaws.{element_bytes-pos}
use Rattle.elements.proofs.ListLaws.{get_or-remade}
use Rattle.elements.proofs.TabulateLaws.{length-tabulate, get_d_tabulate}
use Rattle.columns.specs.Columns.{in_columns, columns, bytes_set}
use Rattle.columns.proofs.ColumnLaws.{columns-length, columns-none}
use Rattle.columns.proofs.UnitLaws.{columns-step}
use Rattle.walk.specs.Walks.{atom_elements, atom_byte}
use Rattle.walk.proofs.SizeLaws.{atom_elements-bytes}

pub held-element : (raw : List ℤ) (i : ℕ) → length raw ≤ 18446744073709551615
    → get_or raw (min i 18446744073709551615) (pos 0) ≡ get_or raw i (pos 0)
held-element raw i h = elim (dec_le i 18446744073709551615) [
  | yes k ↦ ap (λ (n : ℕ). get_or raw n (pos 0)) (omega arith)
  | no k ↦ get_or-eq_default raw (pos 0) (omega arith) ∙ sym (get_or-eq_default raw (pos 0) (omega arith))
]

-- byte b of element n of an atom
abbrev pub channel_byte : (index plane : ℕ) → List ℤ → (n b : ℕ) → ℕ
channel_byte index plane raw n b = byte_of (get_or raw (index + n * plane) (pos 0)) b

-- an atom with its first n elements written, of e bytes each, and 0 behind them
abbrev pub elements_written : (e index plane : ℕ) → List ℤ → ℕ → List ℕ
elements_written e index plane raw n = columns (channel_byte index plane raw) e n 0 e (replicate 32 0)

module _ (e index plane : ℕ) (raw : List ℤ) where
  pub written_none : replicate 32 0 ≡ elements_written e index plane raw 0
  written_none = columns-none 0 (channel_byte index plane raw) e 0 e (replicate 32 0) (le_refl e)

  pub written-more : (j : ℕ) {before after : List ℕ} → before ≡ elements_written e index plane raw j
      → after ≡ bytes_set (channel_byte index plane raw j) e (0 + e * j) before → after ≡ elements_written e index plane raw (j + 1)
  written-more j b a = columns-step 0 (channel_byte index plane raw) e j 0 e (replicate 32 0) (le_refl e) b a

module _ (p channels index plane : ℕ) (raw : List ℤ) (n : ℕ) (all : n ≡ min channels (atom_elements p)) where
  abbrev e : ℕ
  e = element_bytes p

  -- a byte of the atom is one of its elements' where a channel is left for it
  in-atom : (k : ℕ) → k < 32 → in_columns e n 0 e k ≡ ltb (k / e) channels
  unfolding in_columns
  in-atom k h =
      let inside : k / e < atom_elements p = (div-lt_iff_lt-mul (element_bytes-pos p)).1 (omega (arith, atom_elements-bytes p)) in
      rw (sub-zero k, le-leb 0 k (omega arith), lt-ltb (k % e) e (mod-lt k (element_bytes-pos p)))
      (elim (dec_lt (k / e) channels) [
        | yes l ↦ rw (lt-ltb (k / e) n (omega arith), lt-ltb (k / e) channels l)
        | no f ↦ rw (le-ltb (k / e) n (omega arith), le-ltb (k / e) channels (omega arith))
      ])

  byte-written : (k : ℕ) → k < 32 → get_or (elements_written e index plane raw n) k 0 ≡ atom_byte e channels index plane raw k
  unfolding columns atom_byte
  byte-written k h = get_or-remade _ (replicate 32 0) k 0 h ∙ rw (in-atom k h, sub-zero k, get_or-replicate {A = ℕ} 32 k 0 0 h)

  -- with as many as it has
  pub written_all : elements_written e index plane raw n ≡ tabulate 32 (atom_byte e channels index plane raw)
  written_all =
      let long = columns-length (channel_byte index plane raw) e n 0 e (replicate 32 0) in
      ext_get_or 0 _ _ (long ∙ sym (length-tabulate (atom_byte e channels index plane raw) 32))
      (λ k h. let l : k < 32 = omega arith in byte-written k l ∙ sym (get_d_tabulate (atom_byte e channels index plane raw) 32 k 0 l))
