-- Checks and numbers, computed. Assumes nothing.
use mathlib.Core.Path.{◌≡◌, refl}
use mathlib.Core.Bool.{true, false}
use mathlib.Core.List.{[], ◌∷◌}
use Rattle.refusal.specs.declared.Refusal.TheVariants.{Size, Int8Range, Slot, Overlap, Fp16Nan}
use Rattle.std.specs.Prelude.{ℕ, Ok, Err}
use Rattle.refusal.specs.Codes.{answer_code, fault_index, answer_of, quantity_value}
use Rattle.refusal.specs.Checks.{Accepted, Refused, refused_at, require, require_at, in_order, leaves, given, quantity}
use Rattle.refusal.specs.Sizes.{size_valid}

pub record Computed : Type 0 where
  -- of two checks that fail the first is told, with its own index
  pub first : in_order (require Size true ∷ require_at 3 Int8Range false ∷ require Slot false ∷ []) ≡ Refused Int8Range 3
  pub passed : in_order (require Size true ∷ require_at 3 Int8Range true ∷ []) ≡ Accepted
  -- a refused call leaves what was there before, and gives no number
  pub kept : leaves (Refused Size 0) true false ≡ false
  pub done : leaves Accepted true false ≡ true
  pub denied : quantity (Refused Slot 0) 5 ≡ Err (refused_at 0 Slot)
  pub number : quantity Accepted 5 ≡ Ok 5
  -- the paper's number and place
  pub overlap : answer_code (Refused Overlap 0) ≡ 10
  pub nan : answer_code (Refused Fp16Nan 0) ≡ 26
  pub none : fault_index Accepted ≡ 0
  pub place : fault_index (Refused Int8Range 5) ≡ 5
  pub quantity_refused : answer_code (answer_of {A = ℕ} (Err (refused_at 0 Slot))) ≡ 8
  pub quantity_given : answer_code (answer_of {A = ℕ} (Ok 5)) ≡ 0
  pub value : quantity_value (Ok 5) ≡ 5
  pub no_value : quantity_value (Err (refused_at 0 Slot)) ≡ 0
  -- sizes are 1 to 8192
  pub zero : size_valid 8192 0 ≡ false
  pub least : size_valid 8192 1 ≡ true
  pub most : size_valid 8192 8192 ≡ true
  pub past : size_valid 8192 8193 ≡ false

pub computed : Computed
unfolding require_at in_order leaves given size_valid
computed =
    record {
      first = refl;
      passed = refl;
      kept = refl;
      done = refl;
      denied = refl;
      number = refl;
      overlap = refl;
      nan = refl;
      none = refl;
      place = refl;
      quantity_refused = refl;
      quantity_given = refl;
      value = refl;
      no_value = refl;
      zero = refl;
      least = refl;
      most = refl;
      past = refl;
    }
