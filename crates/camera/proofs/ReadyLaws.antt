-- The ready-made settings as the code makes them, and its tests. Assumes nothing.
--     between-pos, pos-between           a select in its range, as a natural number
--     less_two .. select-valid           the select less two; both selects are valid
--     end_fits, end-value                an end, as the code computes it
--     answer-refused, answer-setting     the check's two outcomes
use Prim.Native.Nat.{ℕ, ◌-◌, ◌*◌, ◌^◌, ◌%◌, ◌≤◌, zero-le}
use native.Mathlib.Nat.{pow-le-pow_right, mul-le-mul}
use native.Mathlib.Omega.{arith}
use mathlib.Core.Path.{◌≡◌, refl, sym, ap, ◌∙◌}
use mathlib.Core.Bool.{true, false}
use mathlib.Core.List.{[]}
use lib.Dec.{lit<}
use lib.IntN.{ℤ, pos, negsuc, ◌-ℤ◌}
use lib.Signed.{le_z}
use mir.Syntax.{w32}
use mir.Val.{SFits, to_z, of_z}
use mir.Facts.{to_z-of_z, to_z_pos}
use borrow.Author.Tests.{le-leb}
use Rattle.std.specs.Prelude.{Option, Ok, Err}
use Rattle.general.proofs.TestLaws.{and_left, and_right}
use Rattle.general.proofs.UpDown.{ud-inj, take-ud, le_z-true}
use Rattle.refusal.specs.declared.Refusal.TheVariants.{YSelect}
use Rattle.refusal.specs.Checks.{refused_at}
use Rattle.refusal.proofs.CheckLaws.{in_order-nil, in_order-next, in_order-stop, given-accepted, given-refused}
use Rattle.lut.specs.declared.Table.{Table}
use Rattle.lut.specs.Numbers.{between, scaled}
use Rattle.camera.specs.Ready.{ready_settings, ready_checks, ready_answer}

-- ---- a select in its range

-- a number from a to b is a natural number from a to b
pub between-pos : (a b : ℕ) (z : ℤ) → between (pos a) (pos b) z ≡ true → (k : ℕ) × (z ≡ pos k) × (a ≤ k) × (k ≤ b)
unfolding between
between-pos a b (pos k) e = (
  k,
  refl,
  omega (arith, le_z-true (pos a) (pos k) (and_left (le_z (pos a) (pos k)) (le_z (pos k) (pos b)) e)),
  omega (arith, le_z-true (pos k) (pos b) (and_right (le_z (pos a) (pos k)) (le_z (pos k) (pos b)) e)),
)
between-pos a b (negsuc k) e = absurd (omega (arith, le_z-true (pos a) (negsuc k) (and_left (le_z (pos a) (negsuc k)) (le_z (negsuc k) (pos b)) e)))

pub pos-between : (a b k : ℕ) → a ≤ k → k ≤ b → between (pos a) (pos b) (pos k) ≡ true
unfolding between
pos-between a b k h l = rw (le-leb a k h, le-leb k b l)

-- ---- the select less two

pub less_two : (k : ℕ) → 2 ≤ k → pos k -ℤ pos 2 ≡ pos (k - 2)
less_two k h = ud-inj (pos k -ℤ pos 2) (pos (k - 2)) (omega (arith, take-ud (pos k) (pos 2)))

module _ {z : ℤ} (f : SFits w32 z) (valid : between (pos 2) (pos 22) z ≡ true) where
  low-is : to_z w32 (of_z w32 z) -ℤ pos 2 ≡ z -ℤ pos 2
  low-is = rw (to_z-of_z f)

  low-pos : (k : ℕ) × (z -ℤ pos 2 ≡ pos k) × (k ≤ 20)
  low-pos = let b = between-pos 2 22 z valid in
      (b.0 - 2, ap (λ (v : ℤ). v -ℤ pos 2) b.1 ∙ less_two b.0 b.2, omega (arith, b.3))

  pub low_fits : SFits w32 (to_z w32 (of_z w32 z) -ℤ pos 2)
  low_fits = rw (low-is, low-pos.1) (record { sfits = omega (arith, low-pos.2) })

  pub low_value : to_z w32 (of_z w32 (to_z w32 (of_z w32 z) -ℤ pos 2)) ≡ z -ℤ pos 2
  low_value = to_z-of_z low_fits ∙ low-is

  pub low-valid : between (pos 0) (pos 22) (z -ℤ pos 2) ≡ true
  low-valid = rw low-pos.1 (pos-between 0 22 low-pos.0 zero-le (omega (arith, low-pos.2)))

  pub select-valid : between (pos 0) (pos 22) z ≡ true
  select-valid = let b = between-pos 2 22 z valid in rw b.1 (pos-between 0 22 b.0 zero-le b.3)

-- ---- an end

module _ (last k : ℕ) (h : last ≤ 256) (l : k ≤ 22) where
  end-le : last * 2 ^ k ≤ 1073741824
  end-le = mul-le-mul {n₁ = last} {m₁ = 2 ^ k} {n₂ = 256} {m₂ = 2 ^ 22} h (pow-le-pow_right {n = 2} (lit< tt) {i = k} {j = 22} l)

  pub end_fits : SFits w32 (pos (last * 2 ^ k % 4294967296))
  end_fits = record { sfits = omega (arith, end-le) }

  pub end-value : {z : ℤ} → z ≡ pos k → to_z w32 (last * 2 ^ k % 4294967296) ≡ pos (scaled last z)
  unfolding scaled
  end-value e = rw e (to_z_pos w32 {n = last * 2 ^ k % 4294967296} (omega (arith, end-le)) ∙ ap pos (omega (arith, end-le)))

-- ---- the checks

module _ (s : ℤ) (priority overflow underflow : Option Table) where
  pub answer-refused : between (pos 2) (pos 22) s ≡ false → Err (refused_at 0 YSelect) ≡ ready_answer s priority overflow underflow
  unfolding ready_answer ready_checks
  answer-refused e = sym (given-refused (ready_settings s priority overflow underflow) (in_order-stop 0 YSelect [] e))

  pub answer-setting : between (pos 2) (pos 22) s ≡ true → Ok (ready_settings s priority overflow underflow) ≡ ready_answer s priority overflow underflow
  unfolding ready_answer ready_checks
  answer-setting e = sym (given-accepted (ready_settings s priority overflow underflow) (in_order-next 0 YSelect [] e ∙ in_order-nil))
