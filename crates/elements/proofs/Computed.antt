-- Elements and their bytes, and which elements each precision takes, computed: the paper's int16 −2 is FE FF (scope paper, "Worked on squared paper"; change
-- request K7). Assumes nothing.
use mathlib.Core.Path.{◌≡◌, refl}
use mathlib.Core.Bool.{true, false}
use mathlib.Core.List.{[], ◌∷◌}
use lib.IntN.{pos, negsuc}
use Rattle.refusal.specs.declared.Refusal.TheVariants.{Precision, Int8Range, Fp16Nan}
use Rattle.refusal.specs.Checks.{require_at, in_order, leaves, Accepted, Refused}
use Rattle.elements.specs.Bytes.{element_bytes, byte_of, word_at, signed, element_at}
use Rattle.elements.specs.Values.{is_nan, value_check, value_valid, value_checks_from, value_checks, precision_checks}

pub record Computed : Type 0 where
  pub low : byte_of (negsuc 1) 0 ≡ 254
  pub high : byte_of (negsuc 1) 1 ≡ 255
  pub word : element_at 2 (254 ∷ 255 ∷ []) 0 ≡ negsuc 1
  -- the low byte comes first: 2 + 256
  pub order : element_at 2 (2 ∷ 1 ∷ []) 0 ≡ pos 258
  pub byte : element_at 1 (254 ∷ 255 ∷ []) 0 ≡ negsuc 1
  pub one : element_bytes 0 ≡ 1
  pub two : element_bytes 2 ≡ 2
  -- 3 is no precision's code
  pub unknown : element_bytes 3 ≡ 2
  -- int8 takes −128..127, int16 every element; the least index at fault is told
  pub least : value_valid 0 (negsuc 127) ≡ true
  pub below : value_valid 0 (negsuc 128) ≡ false
  pub greatest : value_valid 0 (pos 127) ≡ true
  pub above : value_valid 0 (pos 128) ≡ false
  pub wide : in_order (value_checks 1 (pos 0 ∷ pos 200 ∷ [])) ≡ Accepted
  pub first : in_order (value_checks 0 (pos 0 ∷ pos 200 ∷ negsuc 200 ∷ [])) ≡ Refused Int8Range 1
  -- fp16 takes every element but NaN, infinity and its negative too: 31744 is 0x7C00, -1024 is 0xFC00
  pub infinity : value_check 2 5 (pos 31744) ≡ Accepted
  pub minus_infinity : value_check 2 5 (negsuc 1023) ≡ Accepted
  pub minus_zero : value_check 2 5 (negsuc 32767) ≡ Accepted
  -- 31745 is 0x7C01, 32767 is 0x7FFF, -1023 is 0xFC01, -1 is 0xFFFF
  pub first_nan : value_check 2 5 (pos 31745) ≡ Refused Fp16Nan 5
  pub last_nan : value_check 2 5 (pos 32767) ≡ Refused Fp16Nan 5
  pub first_minus_nan : value_check 2 5 (negsuc 1022) ≡ Refused Fp16Nan 5
  pub last_minus_nan : value_check 2 5 (negsuc 0) ≡ Refused Fp16Nan 5
  pub least_nan : in_order (value_checks 2 (pos 200 ∷ pos 31744 ∷ negsuc 0 ∷ pos 31745 ∷ [])) ≡ Refused Fp16Nan 2
  -- int16 takes these patterns; int8 takes -1 and refuses the others by 7
  pub int16_taken : in_order (value_checks 1 (pos 31745 ∷ pos 32767 ∷ negsuc 1022 ∷ negsuc 0 ∷ [])) ≡ Accepted
  pub int8_first : in_order (value_checks 0 (negsuc 0 ∷ pos 31745 ∷ [])) ≡ Refused Int8Range 1
  -- 2 before 7 and 26: no code of a precision, and an element that int8 or fp16 does not take
  pub unknown_nan : in_order (precision_checks 3 (negsuc 0 ∷ [])) ≡ Refused Precision 0
  pub known_nan : in_order (precision_checks 2 (pos 200 ∷ negsuc 0 ∷ [])) ≡ Refused Fp16Nan 1
  pub unknown_first : in_order (precision_checks 3 (pos 0 ∷ pos 200 ∷ [])) ≡ Refused Precision 0
  pub known_next : in_order (precision_checks 0 (pos 0 ∷ pos 200 ∷ [])) ≡ Refused Int8Range 1

pub computed : Computed
unfolding require_at in_order leaves element_bytes byte_of word_at signed element_at is_nan value_check value_valid value_checks_from value_checks precision_checks
computed =
    record {
      low = refl;
      high = refl;
      word = refl;
      order = refl;
      byte = refl;
      one = refl;
      two = refl;
      unknown = refl;
      least = refl;
      below = refl;
      greatest = refl;
      above = refl;
      wide = refl;
      first = refl;
      infinity = refl;
      minus_infinity = refl;
      minus_zero = refl;
      first_nan = refl;
      last_nan = refl;
      first_minus_nan = refl;
      last_minus_nan = refl;
      least_nan = refl;
      int16_taken = refl;
      int8_first = refl;
      unknown_nan = refl;
      known_nan = refl;
      unknown_first = refl;
      known_next = refl;
    }
