-- A stored curve by one test of all its entries. By induction on the list. Assumes nothing.
--     root_test, curve-is      an entry by a computed test
--     curve_test, curve-all    all entries by one computed test
use Prim.Native.Nat.{ℕ, suc, ◌+◌, ◌*◌, ◌≤◌}
use native.Mathlib.Nat.{min-eq_left}
use native.Mathlib.Omega.{arith}
use mathlib.Core.Path.{◌≡◌, refl, sym, ap}
use mathlib.Core.Bool.{Bool, true, false, ◌&&◌}
use mathlib.Core.List.{List, [], ◌∷◌, map}
use lib.Dec.{T, leb, ltb, leb→le, ltb→lt}
use lib.IntN.{ℤ, pos, negsuc}
use lib.ListN.{length}
use mir.Facts.{and_yes}
use Rattle.camera.specs.Curve.{root, curve_entry, indices}
use Rattle.camera.proofs.RootLaws.{root_is}

-- e² ≤ n < (e + 1)²
abbrev pub root_test : ℕ → ℤ → Bool
root_test n (pos e) = leb (e * e) n && ltb n (suc e * suc e)
root_test n (negsuc e) = false

-- each entry, the first at index i, passes
abbrev pub curve_test : ℕ → ℕ → List ℤ → Bool
curve_test step i [] = true
curve_test step i (z ∷ zs) = root_test (i * step) z && curve_test step (suc i) zs

test-root : (n : ℕ) (z : ℤ) → T (root_test n z) → z ≡ pos (root n)
test-root n (pos e) t = let h = and_yes (leb (e * e) n) (ltb n (suc e * suc e)) t in
    ap pos (sym (root_is n e (leb→le (e * e) n h.0) (ltb→lt n (suc e * suc e) h.1)))
test-root n (negsuc e) t = absurd t

module _ (last step : ℕ) where
  pub curve-is : (i : ℕ) (z : ℤ) → i ≤ last → T (root_test (i * step) z) → z ≡ curve_entry last step i
  unfolding curve_entry
  curve-is i z h t = rw (min-eq_left {n = i} {m = last} h) (test-root (i * step) z t)

  pub curve-all : (zs : List ℤ) (i : ℕ) → T (curve_test step i zs) → i + length zs ≤ suc last → zs ≡ map (curve_entry last step) (indices i (length zs))
  unfolding indices
  curve-all [] i t h = refl
  curve-all (z ∷ zs) i t h =
      let b = and_yes (root_test (i * step) z) (curve_test step (suc i) zs) t in
      rw (← curve-is i z (omega arith) b.0, ← curve-all zs (suc i) b.1 (omega arith))
