-- The claims about a list of elements (scope paper, "Refusal numbers", 7; change request K7, 26): where it is refused, number and index are those of the first
-- element that the precision does not take; and which numbers of 16 bits are NaN. Assumes nothing.
use Prim.Native.Nat.{ℕ, ◌<◌}
use mathlib.Core.Path.{◌≡◌}
use mathlib.Core.Bool.{◌&&◌, ◌||◌}
use mathlib.Core.List.{List}
use lib.IntN.{ℤ, pos, negsuc}
use lib.ListN.{length, get_or}
use lib.Signed.{mag, le_z}
use Rattle.refusal.specs.declared.Refusal.{Refusal}
use Rattle.refusal.specs.Checks.{in_order, Accepted, Refused}
use Rattle.elements.specs.Values.{is_nan, value_check, value_checks}
use Rattle.elements.proofs.ValueLaws.{value_checks-least}
use Rattle.elements.proofs.NanLaws as nans

pub least-index : (p : ℕ) (zs : List ℤ) (r : Refusal) (i : ℕ) → in_order (value_checks p zs) ≡ Refused r i
    → (i < length zs) × (value_check p i (get_or zs i (pos 0)) ≡ Refused r i) × ((j : ℕ) → j < i → value_check p j (get_or zs j (pos 0)) ≡ Accepted)
least-index p zs = value_checks-least p zs

-- 31745..32767 and -1023..-1 (`negsuc 1022` is -1023)
pub nan-numbers : (z : ℤ) → mag z < 32768 → is_nan z ≡ (le_z (pos 31745) z || (le_z (negsuc 1022) z && le_z z (negsuc 0)))
nan-numbers = nans.nan-numbers
