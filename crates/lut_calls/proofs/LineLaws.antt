-- A number on a line: the slope past an end and the hit between two entries are such numbers. Assumes nothing.
--     on_line-slope                  past an end: the slope
--     stored-hit                    at f of 2^k steps after a table's entry: the interpolated number
use Prim.Native.Nat.{ℕ, suc, ◌+◌, ◌*◌, ◌^◌, ◌≤◌, ◌<◌}
use native.Mathlib.Nat.{add-mul, mul_assoc, zero-div, div-one}
use native.Mathlib.Decide.{ℕ_discrete}
use native.Mathlib.Omega.{arith}
use mathlib.Core.Path.{◌≡◌, refl, sym, ap, ◌∙◌}
use mathlib.Core.List.{List}
use lib.Pow.{pow_pos}
use lib.IntN.{ℤ, pos, negsuc, ◌+ℤ◌, ◌-ℤ◌, ◌*ℤ◌, *ℤ_comm, *ℤ-zero, +ℤ_idr}
use lib.Signed.{le_z, shr_z}
use mir.Syntax.{w16, w32}
use mir.Val.{SFits}
use mir.Facts.{sfits_widen}
use Rattle.general.proofs.UpDown.{up, dn, ud-inj, add-ud, times-ud, up-times, dn-times, ud-le}
use Rattle.general.proofs.FloorLaws.{shr-times-le, lt-shr-times, shr_is}
use Rattle.general.proofs.NumberLaws.{times-one}
use Rattle.integers.specs.Saturate.{saturate}
use Rattle.integers.proofs.SaturateLaws.{saturate-kept}
use Rattle.lut.specs.declared.Slope.{Slope}
use Rattle.lut.specs.Numbers.{shifted}
use Rattle.lut.specs.Tables.{entry, interpolated, sloped}
use Rattle.lut.proofs.HitLaws.{interpolated-first, mix-fits}
use Rattle.lut_calls.specs.StepsRows.{on_line}
use Rattle.lut_calls.specs.StepsPoints.{slope_rise, Stored}

-- ---- past an end

shr_one : (z : ℤ) → shr_z z 1 ≡ z
shr_one (pos n) = ap pos (div-one n)
shr_one (negsuc n) = ap negsuc (div-one n)

-- d·(s·n) is (d·s)·n
times-times : (d s : ℤ) (n : ℕ) → d *ℤ (s *ℤ pos n) ≡ d *ℤ s *ℤ pos n
times-times d s n =
    let q = s *ℤ pos n in
    let p = d *ℤ s in
    let all = ap (λ (k : ℕ). k * n) (times-ud d s) in
    let l1 = add-mul (up p) (up d * dn s + dn d * up s) n in
    let l2 = add-mul (up d * dn s) (dn d * up s) n in
    let r1 = add-mul (up d * up s + dn d * dn s) (dn p) n in
    let r2 = add-mul (up d * up s) (dn d * dn s) n in
    let a1 = ap (λ (k : ℕ). up d * k) (dn-times s n) ∙ sym (mul_assoc (up d) (dn s) n) in
    let a2 = ap (λ (k : ℕ). dn d * k) (up-times s n) ∙ sym (mul_assoc (dn d) (up s) n) in
    let a3 = ap (λ (k : ℕ). up d * k) (up-times s n) ∙ sym (mul_assoc (up d) (up s) n) in
    let a4 = ap (λ (k : ℕ). dn d * k) (dn-times s n) ∙ sym (mul_assoc (dn d) (dn s) n) in
    ud-inj (d *ℤ q) (p *ℤ pos n) (omega (arith, times-ud d q, a1, a2, a3, a4, all, l1, l2, r1, r2, up-times p n, dn-times p n))

rise-shifted : (d scale shift : ℤ) → shr_z (scale *ℤ pos (2 ^ dn shift) *ℤ d) (2 ^ up shift) ≡ shifted (d *ℤ scale) shift
unfolding shifted
rise-shifted d scale (pos k) = ap (λ (z : ℤ). shr_z z (2 ^ k)) (ap (λ (z : ℤ). z *ℤ d) (times-one scale) ∙ *ℤ_comm scale d)
rise-shifted d scale (negsuc k) =
    shr_one (scale *ℤ pos (2 ^ suc k) *ℤ d) ∙ *ℤ_comm (scale *ℤ pos (2 ^ suc k)) d ∙ times-times d scale (2 ^ suc k)

pub on_line-slope : (from d : ℤ) (s : Slope) → on_line from (slope_rise s) d (2 ^ up s.shift) ≡ sloped from d s
unfolding on_line slope_rise sloped
on_line-slope from d s = rw (rise-shifted d s.scale s.shift)

-- ---- between two entries

-- a + floor(t / m) is floor((a·m + t) / m)
add-shr : (a t : ℤ) {m : ℕ} → 0 < m → shr_z (a *ℤ pos m +ℤ t) m ≡ a +ℤ shr_z t m
add-shr a t {m} hm =
    let s = shr_z t m in
    let q = a +ℤ s in
    let z = a *ℤ pos m +ℤ t in
    let sum = add-ud (a *ℤ pos m) t in
    let times = ap (λ (n : ℕ). n * m) (add-ud a s) in
    let left = add-mul (up q) (dn a + dn s) m in
    let left2 = add-mul (dn a) (dn s) m in
    let right = add-mul (up a + up s) (dn q) m in
    let right2 = add-mul (up a) (up s) m in
    shr_is hm z q
    (omega (arith, sum, up-times a m, dn-times a m, times, left, left2, right, right2, shr-times-le hm t))
    (omega (arith, sum, up-times a m, dn-times a m, times, left, left2, right, right2, lt-shr-times hm t))

kept : (z : ℤ) → SFits w32 z → saturate (negsuc 2147483647) (pos 2147483647) z ≡ z
kept (pos n) f =
    saturate-kept (negsuc 2147483647) (pos 2147483647) (pos n) (ud-le (negsuc 2147483647) (pos n) (omega arith)) (ud-le (pos n) (pos 2147483647) (omega (arith, f.sfits)))
kept (negsuc n) f =
    saturate-kept (negsuc 2147483647) (pos 2147483647) (negsuc n) (ud-le (negsuc 2147483647) (negsuc n) (omega (arith, f.sfits)))
    (ud-le (negsuc n) (pos 2147483647) (omega arith))

-- no step
on_line-first : (a b : ℤ) (m : ℕ) → SFits w32 a → on_line a b (pos 0) m ≡ a
unfolding on_line
on_line-first a b m f =
    rw (*ℤ-zero b, ap pos (zero-div m), +ℤ_idr a) (kept a f)

module _ {firsts rises table : List ℤ} {base last : ℕ} {below above : Slope} (h : Stored firsts rises table base last below above) where
  fits-at : (i : ℕ) → i ≤ last → SFits w16 (entry table i)
  fits-at i l = record { sfits = h.fits i l }

  pub stored-hit : (i f k : ℕ) → i ≤ last → f < 2 ^ k → (i ≡ last → f ≡ 0)
      → on_line (entry firsts (base + i)) (entry rises (base + i)) (pos f) (2 ^ k) ≡ interpolated table i f (2 ^ k)
  unfolding on_line interpolated
  stored-hit i f k l g e = elim (ℕ_discrete i last) [
    | yes q ↦
        rw (e q, h.first i l) (on_line-first (entry table i) (entry rises (base + i)) (2 ^ k) (sfits_widen tt (fits-at i l)) ∙ sym (interpolated-first table i (pow_pos k)))
    | no q ↦
        let a = entry table i in
        let b = entry table (i + 1) in
        rw (h.first i l, h.rise i (omega (arith, q)), ← add-shr a ((b -ℤ a) *ℤ pos f) (pow_pos k))
        (kept (shr_z (a *ℤ pos (2 ^ k) +ℤ (b -ℤ a) *ℤ pos f) (2 ^ k))
        (sfits_widen tt (mix-fits a b f (2 ^ k) (le_z a b) (pow_pos k) g (fits-at i l) (fits-at (i + 1) (omega (arith, q))) refl)))
  ]
