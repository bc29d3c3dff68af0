-- The entries of the curve and of its tables. By induction on the number of entries. Assumes nothing.
--     entries-length, entries_at     how many entries a table has, and the entry at each index
--     curve-rule                     an entry's square, and the next square
--     entry-read                     the entry that is read: an index past the last has the last entry
use Prim.Native.Nat.{ℕ, zero, suc, ◌+◌, ◌*◌, ◌≤◌, ◌<◌, min}
use native.Mathlib.Nat.{zero-add, min-eq_left, min-le_right}
use native.Mathlib.Numerals.{add-one}
use native.Mathlib.Omega.{arith}
use mathlib.Core.Path.{◌≡◌, refl, ap, ◌∙◌}
use mathlib.Core.List.{List, map}
use lib.IntN.{ℤ, pos, nat_abs}
use lib.ListN.{length, get_or}
use Rattle.camera.specs.Curve.{curve_entry, indices}
use Rattle.camera.proofs.RootLaws.{root-square, root-next}

-- ---- the entries of a table

pub entries-length : (f : ℕ → ℤ) (i n : ℕ) → length (map f (indices i n)) ≡ n
unfolding indices
entries-length f i zero = refl
entries-length f i (suc n) = ap suc (entries-length f (suc i) n)

pub entries_at : (f : ℕ → ℤ) (i n k : ℕ) → k < n → get_or (map f (indices i n)) k (pos 0) ≡ f (i + k)
unfolding indices
entries_at f i zero k h = absurd (omega arith)
entries_at f i (suc n) zero h = ap f (omega arith)
entries_at f i (suc n) (suc k) h = entries_at f (suc i) n k (omega arith) ∙ ap f (omega arith)

-- ---- the entries of a curve

module _ (last step : ℕ) where
  -- the definition's own rule
  pub curve-rule : (i : ℕ) → i ≤ last → let e = nat_abs (curve_entry last step i) in (e * e ≤ i * step) × (i * step < (e + 1) * (e + 1))
  unfolding curve_entry
  curve-rule i h = rw (min-eq_left {n = i} {m = last} h) (root-square (i * step), simp add-one (root-next (i * step)))

  entry-held : (i : ℕ) → curve_entry last step (min i last) ≡ curve_entry last step i
  unfolding curve_entry
  entry-held i = rw (min-eq_left {n = min i last} {m = last} (min-le_right i last))

  pub entry-read : {table : List ℤ} {k : ℕ} (i : ℕ) → table ≡ map (curve_entry last step) (indices 0 (suc last)) → k ≡ min i last
      → get_or table k (pos 0) ≡ curve_entry last step i
  entry-read i e f =
      rw (e, f) (entries_at (curve_entry last step) 0 (suc last) (min i last) (omega (arith, min-le_right i last)))
      ∙ ap (curve_entry last step) (zero-add (min i last))
      ∙ entry-held i
