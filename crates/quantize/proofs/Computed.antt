-- Conversion, computed (scope paper, "Worked on squared paper"; "Refusal numbers": "Orders"; change request K5). Assumes nothing.
use Prim.Native.Nat.{ℕ}
use Rattle.std.specs.Prelude.{Result, Ok, Err}
use mathlib.Core.Path.{◌≡◌, refl}
use mathlib.Core.Bool.{true, false}
use mathlib.Core.List.{[], ◌∷◌, map}
use lib.IntN.{ℤ, pos, negsuc}
use Rattle.refusal.specs.declared.Refusal.TheVariants.{Precision, Shift}
use Rattle.refusal.specs.declared.Fault.{Fault}
use Rattle.refusal.specs.Codes.{answer_code, answer_of}
use Rattle.refusal.specs.Checks.{require_at, in_order, given, refused_at}
use Rattle.integers.specs.Saturate.{saturate, beyond}
use Rattle.quantize.specs.declared.Converted.{Converted}
use Rattle.quantize.specs.Quantize.{lowest, highest, quantize_checks, nearest_of, nearest, rounded, quantized, limited, quantize_answer, quantized_value, quantized_held}

-- a value as it was, and one held at a limit
abbrev kept : ℤ → Result Converted Fault
kept z = Ok (record { value = z; held = false })

abbrev held : ℤ → Result Converted Fault
held z = Ok (record { value = z; held = true })

-- d over 2^shift to a precision, with offset 0 and SF 1
abbrev over : ℤ → ℕ → ℕ → Result Converted Fault
over d shift precision = quantize_answer d (pos 0) (pos 1) shift precision

-- d to int8, with offset 128, SF 1 and shift 2
abbrev quarter : ℤ → Result Converted Fault
quarter d = quantize_answer d (pos 128) (pos 1) 2 0

pub record Computed : Type 0 where
  -- 100, offset 128, SF 3, shift 2: −84 over 4 is −21; 101 gives −81 over 4, −20.25, to the nearest: −20
  pub paper : quantize_answer (pos 100) (pos 128) (pos 3) 2 0 ≡ kept (negsuc 20)
  pub nearer : quantize_answer (pos 101) (pos 128) (pos 3) 2 0 ≡ kept (negsuc 19)
  -- the request's: 130 is a half above zero and becomes 1, 126 a half below and becomes −1; beside them 129 and 127 become 0, 131 and 125 become 1 and −1
  pub half_above : quarter (pos 130) ≡ kept (pos 1)
  pub half_below : quarter (pos 126) ≡ kept (negsuc 0)
  pub beside : map quantized_value (quarter (pos 125) ∷ quarter (pos 127) ∷ quarter (pos 129) ∷ quarter (pos 131) ∷ []) ≡ negsuc 0 ∷ pos 0 ∷ pos 0 ∷ pos 1 ∷ []
  -- 1.5, 2, 2.5 and −1.5, −2, −2.5; with shift 0 every number is whole
  pub halves : map (λ (d : ℤ). quantized_value (over d 1 0)) (pos 3 ∷ pos 4 ∷ pos 5 ∷ negsuc 2 ∷ negsuc 3 ∷ negsuc 4 ∷ []) ≡ pos 2 ∷ pos 2 ∷ pos 3 ∷ negsuc 1 ∷ negsuc 1 ∷ negsuc 2 ∷ []
  pub whole : map (λ (d : ℤ). quantized_value (over d 0 0)) (pos 3 ∷ negsuc 2 ∷ []) ≡ pos 3 ∷ negsuc 2 ∷ []
  -- 255 to int8: 127, held
  pub saturated : over (pos 255) 0 0 ≡ held (pos 127)
  -- held is judged on the rounded number: 255 over 2 is 128 and held; 254 over 2 is 127 and is not; below zero 257 is, 256 is not (saturated
  -- before the division, 254 over 2 would be 64)
  pub rounds_beyond : over (pos 255) 1 0 ≡ held (pos 127)
  pub on_limit : over (pos 254) 1 0 ≡ kept (pos 127)
  pub below_limit : over (negsuc 256) 1 0 ≡ held (negsuc 127)
  pub on_lower_limit : over (negsuc 255) 1 0 ≡ kept (negsuc 127)
  -- 509 over 4 lies above 127 and rounds to it: not held; 510 over 4 is 127.5 and is
  pub rounds_onto : over (pos 509) 2 0 ≡ kept (pos 127)
  pub rounds_past : over (pos 510) 2 0 ≡ held (pos 127)
  -- int16 has its own limits
  pub wide : over (pos 40000) 0 1 ≡ held (pos 32767)
  pub low : over (negsuc 40000) 0 1 ≡ held (negsuc 32767)
  -- 2 before 16
  pub both : quantize_answer (pos 0) (pos 0) (pos 0) 32 2 ≡ Err (refused_at 0 Precision)
  pub shift : quantize_answer (pos 0) (pos 0) (pos 0) 32 1 ≡ Err (refused_at 0 Shift)
  -- the paper's number, value and flag
  pub numbers : map answer_code (map answer_of (held (pos 127) ∷ Err (refused_at 0 Precision) ∷ Err (refused_at 0 Shift) ∷ [])) ≡ 0 ∷ 2 ∷ 16 ∷ []
  pub values : map quantized_value (kept (negsuc 20) ∷ Err (refused_at 0 Precision) ∷ []) ≡ negsuc 20 ∷ pos 0 ∷ []
  pub flags : map quantized_held (kept (pos 127) ∷ held (pos 127) ∷ Err (refused_at 0 Precision) ∷ []) ≡ false ∷ true ∷ false ∷ []

pub computed : Computed
unfolding require_at in_order saturate beyond lowest highest quantize_checks nearest_of nearest rounded quantized limited given quantize_answer
computed =
    record {
      paper = refl;
      nearer = refl;
      half_above = refl;
      half_below = refl;
      beside = refl;
      halves = refl;
      whole = refl;
      saturated = refl;
      rounds_beyond = refl;
      on_limit = refl;
      below_limit = refl;
      on_lower_limit = refl;
      rounds_onto = refl;
      rounds_past = refl;
      wide = refl;
      low = refl;
      both = refl;
      shift = refl;
      numbers = refl;
      values = refl;
      flags = refl;
    }
