-- Elements as the bits that std's conversions give, and back. By cases on the sign; the rest is linear arithmetic. Assumes nothing.
--     low-byte, high-byte, both-bytes       an element's two bytes, and both as one number
--     byte-back, word-back                  the element of one byte, and of two
use Prim.Native.Nat.{ℕ, ◌+◌, ◌*◌, ◌<◌}
use native.Mathlib.Omega.{arith}
use mathlib.Core.Path.{◌≡◌, refl, ap}
use mathlib.Core.List.{[], ◌∷◌}
use lib.IntN.{ℤ, pos, negsuc}
use lib.ListN.{get_or}
use lib.Signed.{mag}
use mir.Syntax.{w8, w16}
use Rattle.std.specs.Int.{to_le_bytes, from_le_bytes, cast_unsigned, cast_signed}
use Rattle.elements.specs.Bytes.{byte_of, bit_pattern, signed}

pub low-byte : (z : ℤ) → mag z < 32768 → get_or (to_le_bytes w16 (cast_unsigned w16 z)) 0 0 ≡ byte_of z 0
unfolding byte_of
low-byte (pos n) m = omega arith
low-byte (negsuc n) m = omega arith

pub high-byte : (z : ℤ) → mag z < 32768 → get_or (to_le_bytes w16 (cast_unsigned w16 z)) 1 0 ≡ byte_of z 1
unfolding byte_of
high-byte (pos n) m = omega arith
high-byte (negsuc n) m = omega arith

pub both-bytes : (z : ℤ) → mag z < 32768 → cast_unsigned w16 z ≡ bit_pattern z
unfolding byte_of
both-bytes (pos n) m = omega arith
both-bytes (negsuc n) m = omega arith

pub byte-back : (b : ℕ) → cast_signed w8 b ≡ signed 1 b
unfolding signed
byte-back b = refl

pub word-back : (a b : ℕ) → cast_signed w16 (from_le_bytes w16 (a ∷ b ∷ [])) ≡ signed 2 (a + 256 * b)
unfolding signed
word-back a b =
    let same : a + b * 256 ≡ a + 256 * b = omega arith in
    ap (λ (n : ℕ). cast_signed w16 n) same
